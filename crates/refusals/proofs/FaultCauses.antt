-- The causes of the faults that parsing finds: where each part's are of some sort, so are those of the whole. Assumes nothing.
use mathlib.Core.Bool.{Bool, true, false, cond}
use mathlib.Core.List.{Memᴰ}
use Prim.Native.Nat.{ℕ}
use lib.Dec.{eqb}
use Rattle.lexis.specs.Tokens.{text_end, unreadable}
use Rattle.lexis.specs.declared.Token.{Token}
use Rattle.refusals.specs.Refusals.{refusal}
use Rattle.refusals.specs.Numbers.{OfDataText}
use Rattle.refusals.specs.Numbers
use Rattle.refusals.specs.Parsing.{Parse, stopped, flawed, parsed, and_then, noting, syntax, as_read, faults_in}
use Rattle.refusals.specs.Expecting.{syntax_cause, syntax_fault, taken}
use Rattle.refusals.specs.Reading.{got}
use Rattle.refusals.specs.declared.Cause.{Cause}
use Rattle.refusals.specs.declared.Cause.TheVariants.{Unreadable, CannotFollow, EndsEarly}
use Rattle.refusals.specs.declared.Refusal.{Refusal}

pub data FaultsOf {A : Type 0} (P : Cause → Type 0) : Parse A → Type 0 where
  of_stopped : {x : Refusal} → P x.cause → FaultsOf P (stopped x)
  of_flawed : {x : Refusal} {w : Parse A} → P x.cause → FaultsOf P w → FaultsOf P (flawed x w)
  of_parsed : {a : A} {p : ℕ} → FaultsOf P (parsed a p)

module _ {A : Type 0} (P : Cause → Type 0) where
  pub faults_cond : (b : Bool) (x y : Parse A) → FaultsOf P x → FaultsOf P y → FaultsOf P (cond b x y)
  faults_cond true x y h k = h
  faults_cond false x y h k = k

  pub faults-noting : (b : Bool) (cause : Cause) (place : ℕ) (w : Parse A) → P cause → FaultsOf P w
      → FaultsOf P (noting b cause place w)
  faults-noting b cause place w h k = faults_cond b (flawed (refusal cause place) w) w (of_flawed h k) k

  pub faults_then : {B : Type 0} (w : Parse B) (go : B → ℕ → Parse A) → FaultsOf P w
      → ((b : B) (p : ℕ) → FaultsOf P (go b p))
      → FaultsOf P (and_then w go)
  faults_then (stopped x) go (of_stopped h) k = of_stopped h
  faults_then (flawed x w) go (of_flawed h l) k = of_flawed h (faults_then w go l k)
  faults_then (parsed b p) go h k = k b p

  -- each fault of the list is so
  pub faults_are : (w : Parse A) → FaultsOf P w → (x : Refusal) → Memᴰ x (faults_in w) → P x.cause
  faults_are (stopped x) (of_stopped h) y (Memᴰ.head e) = rw e h
  faults_are (stopped x) (of_stopped h) y (Memᴰ.tail m) = elim m [ ]
  faults_are (flawed x w) (of_flawed h l) y (Memᴰ.head e) = rw e h
  faults_are (flawed x w) (of_flawed h l) y (Memᴰ.tail m) = faults_are w l y m
  faults_are (parsed b p) h y m = elim m [ ]

-- a token that cannot follow, and one that is asked for
syntax_data : (t : Token) → OfDataText (syntax_cause t)
syntax_data t = by (eqb t.sort text_end) (eqb t.sort unreadable)
  where
    by : (b c : Bool) → OfDataText (cond b EndsEarly (cond c Unreadable CannotFollow))
    by true c = Numbers.ends_early
    by false true = Numbers.unreadable
    by false false = Numbers.cannot_follow

pub syntax_of_data : {A : Type 0} (t : Token) → FaultsOf {A = A} OfDataText (syntax t)
syntax_of_data t = of_stopped (syntax_data t)

pub taken_of_data : (t : Token) (sort : ℕ) → FaultsOf OfDataText (as_read (taken t sort))
taken_of_data t sort = by (eqb t.sort sort)
  where
    by : (b : Bool) → FaultsOf OfDataText (as_read (cond b (got t t.end) (syntax_fault t)))
    by true = of_parsed
    by false = syntax_of_data t
