-- What holds of a parse: what reading tells of its parts, what a value that is read has, and that its faults come in order. Assumes nothing.
use mathlib.Core.Path.{◌≡◌, refl, ap, ◌∙◌}
use mathlib.Core.Bool.{Bool, true, false, cond, false≢true}
use mathlib.Core.List.{List}
use Prim.Native.Nat.{ℕ, ◌+◌, ◌*◌, ◌≤◌, ◌<◌}
use native.Mathlib.Omega.{arith}
use lib.Dec.{eqb}
use lib.ListN.{length}
use borrow.Author.Tests.{eqb-true}
use Rattle.lexis.specs.Tokens.{token_at}
use Rattle.lexis.specs.declared.Token.{Token}
use Rattle.lexis.proofs.Cases.{by_cond}
use Rattle.lexis.proofs.Places.{Found, token-found}
use Rattle.refusals.specs.Reading.{Reading, refused, got}
use Rattle.refusals.specs.Reading
use Rattle.refusals.specs.Refusals.{number_of}
use Rattle.refusals.specs.Parsing.{Parse, stopped, flawed, parsed, and_then, soundly, noting, syntax, as_read, wanted, first_in}
use Rattle.refusals.specs.Expecting.{syntax_cause, syntax_fault, expect}
use Rattle.refusals.specs.declared.Cause.{Cause}
use Rattle.refusals.specs.declared.Refusal.{Refusal}
use Rattle.refusals.proofs.Readings.{Holds, ConstraintRefusal, refuse_holds, got_holds, cond_holds, holds_map}
use Rattle.refusals.proofs.Tokens.{Passed, strict_of, syntax_two}

-- what reading tells of a part and the next
module _ {A B : Type 0} where
  pub first_then : (w : Parse A) (go : A → ℕ → Parse B)
      → first_in (and_then w go) ≡ Reading.read_then (first_in w) (λ a p. first_in (go a p))
  first_then (stopped x) go = refl
  first_then (flawed x w) go = refl
  first_then (parsed a p) go = refl

  pub then_refused : (w : Parse A) (go : A → ℕ → Parse B) (x : Refusal) → first_in w ≡ refused x
      → first_in (and_then w go) ≡ refused x
  then_refused w go x e = first_then w go ∙ ap (λ r. Reading.read_then r (λ a p. first_in (go a p))) e

  pub then_got : (w : Parse A) (go : A → ℕ → Parse B) (a : A) (p : ℕ) → first_in w ≡ got a p
      → first_in (and_then w go) ≡ first_in (go a p)
  then_got w go a p e = first_then w go ∙ ap (λ r. Reading.read_then r (λ a p. first_in (go a p))) e

  pub first_soundly : (w : Parse A) (go : Bool → A → ℕ → Parse B)
      → first_in (soundly w go) ≡ Reading.read_then (first_in w) (λ a p. first_in (go true a p))
  first_soundly (stopped x) go = refl
  first_soundly (flawed x w) go = refl
  first_soundly (parsed a p) go = refl

-- the same for a choice, a test, a part with no faults but syntax faults, and parts of which it is known what reading tells
pub told_cond : {A : Type 0} (b : Bool) (x y : Parse A) (u v : Reading A) → first_in x ≡ u → first_in y ≡ v
    → first_in (cond b x y) ≡ cond b u v
told_cond true x y u v e f = e
told_cond false x y u v e f = f

pub told_noting : {A : Type 0} (fault : Bool) (cause : Cause) (place : ℕ) (more : Parse A) (r : Reading A)
    → first_in more ≡ r
    → first_in (noting fault cause place more) ≡ Reading.read_unless fault cause place r
told_noting true cause place more r e = refl
told_noting false cause place more r e = e

pub told_read : {A : Type 0} (r : Reading A) → first_in (as_read r) ≡ r
told_read (refused x) = refl
told_read (got a p) = refl

pub told_then : {A B : Type 0} (w : Parse A) (go : A → ℕ → Parse B) (r : Reading A) (k : A → ℕ → Reading B)
    → first_in w ≡ r
    → ((a : A) (p : ℕ) → first_in (go a p) ≡ k a p) → first_in (and_then w go) ≡ Reading.read_then r k
told_then w go r k e f = first_then w go ∙ λ i. Reading.read_then (e i) (λ a p. f a p i)

pub told_soundly : {A B : Type 0} (w : Parse A) (go : Bool → A → ℕ → Parse B) (r : Reading A) (k : A → ℕ → Reading B)
    → first_in w ≡ r
    → ((a : A) (p : ℕ) → first_in (go true a p) ≡ k a p) → first_in (soundly w go) ≡ Reading.read_then r k
told_soundly w go r k e f = first_soundly w go ∙ λ i. Reading.read_then (e i) (λ a p. f a p i)

-- what holds of a value that is read, with the place behind it
unfoldable pub Yields : {A : Type 0} → (A → ℕ → Type 0) → Parse A → Type 0
Yields P (stopped x) = Unit {0}
Yields P (flawed x w) = Unit {0}
Yields P (parsed a p) = P a p

module _ {A : Type 0} (P : A → ℕ → Type 0) where
  pub parsed_yields : (a : A) (p : ℕ) → P a p → Yields P (parsed a p)
  unfolding Yields
  parsed_yields a p h = h

  pub stopped_yields : (x : Refusal) → Yields P (stopped x)
  unfolding Yields
  stopped_yields x = tt

  pub noting_yields : (fault : Bool) (cause : Cause) (place : ℕ) (more : Parse A) → (fault ≡ false → Yields P more)
      → Yields P (noting fault cause place more)
  unfolding Yields
  noting_yields true cause place more k = tt
  noting_yields false cause place more k = k refl

  pub then_yields : {B : Type 0} (Q : B → ℕ → Type 0) (w : Parse B) (go : B → ℕ → Parse A) → Yields Q w
      → ((b : B) (p : ℕ) → Q b p → Yields P (go b p)) → Yields P (and_then w go)
  unfolding Yields
  then_yields Q (stopped x) go h k = tt
  then_yields Q (flawed x w) go h k = tt
  then_yields Q (parsed b p) go h k = k b p h

  -- whatever the first part gives
  pub any_yields : {B : Type 0} (w : Parse B) (go : B → ℕ → Parse A) → ((b : B) (p : ℕ) → Yields P (go b p))
      → Yields P (and_then w go)
  unfolding Yields
  any_yields (stopped x) go k = tt
  any_yields (flawed x w) go k = tt
  any_yields (parsed b p) go k = k b p

  yields_holds : (w : Parse A) → Yields P w → Holds (λ x. Unit {0}) P (first_in w)
  unfolding Yields Holds
  yields_holds (stopped x) h = tt
  yields_holds (flawed x w) h = tt
  yields_holds (parsed a p) h = h

  pub yielded : (w : Parse A) (a : A) (p : ℕ) → Yields P w → first_in w ≡ got a p → P a p
  unfolding Holds
  yielded w a p h e = rw e at (yields_holds w h)

-- what follows of a value that is read
pub yields_map : {A : Type 0} (P Q : A → ℕ → Type 0) (w : Parse A) → ((a : A) (p : ℕ) → P a p → Q a p) → Yields P w
    → Yields Q w
unfolding Yields
yields_map P Q (stopped x) f h = tt
yields_map P Q (flawed x w) f h = tt
yields_map P Q (parsed a p) f h = f a p h

-- a place and a number as one: smaller for what is told before
abbrev pub rank : ℕ → ℕ → ℕ
rank place number = 32 * place + number

abbrev pub rank_of : Refusal → ℕ
rank_of x = rank x.place (number_of x.cause)

-- a fault of a text, from a rank on, that is not 1
pub record FaultFrom (s : List ℕ) (low : ℕ) (x : Refusal) : Type 0 where
  pub behind : low ≤ rank_of x
  pub inside : x.place ≤ length s
  pub least : 2 ≤ number_of x.cause
  pub most : number_of x.cause < 10

-- such a fault is one from a smaller rank on
pub fault_lower : (s : List ℕ) (low k : ℕ) (x : Refusal) → k ≤ low → FaultFrom s low x → FaultFrom s k x
fault_lower s low k x l f = record { behind = omega (arith, f.behind); inside = f.inside; least = f.least; most = f.most }

-- the faults come in order, from a rank on; of a value and the place behind it a property holds, by whether no fault was noted before it and by the rank from which on the next fault may come
unfoldable pub Ordered : {A : Type 0} → List ℕ → (Bool → ℕ → A → ℕ → Type 0) → Bool → ℕ → Parse A → Type 0
Ordered s P sound low (stopped x) = FaultFrom s low x
Ordered s P sound low (flawed x w) = FaultFrom s low x × Ordered s P false (rank_of x) w
Ordered s P sound low (parsed a p) = P sound low a p

module _ {A : Type 0} (s : List ℕ) (P : Bool → ℕ → A → ℕ → Type 0) where
  pub ordered_parsed : (sound : Bool) (low : ℕ) (a : A) (p : ℕ) → P sound low a p → Ordered s P sound low (parsed a p)
  unfolding Ordered
  ordered_parsed sound low a p h = h

  -- what follows a test: where it found a fault, that fault's rank is the least
  pub ordered-noting : (sound : Bool) (low : ℕ) (fault : Bool) (cause : Cause) (place : ℕ) (more : Parse A) (n : ℕ)
      → number_of cause ≡ n
      → 2 ≤ n → n < 10 → low ≤ rank place n → place ≤ length s
      → ((o : Bool) (l : ℕ) → l ≤ rank place n → (o ≡ true → (fault ≡ false) × (sound ≡ true)) → Ordered s P o l more)
      → Ordered s P sound low (noting fault cause place more)
  unfolding Ordered
  ordered-noting sound low true cause place more n e a b l h k =
      (record { behind = rw e l; inside = h; least = rw e a; most = rw e b }, rw e (k false (rank place n) (omega arith) (λ z. absurd (false≢true z))))
  ordered-noting sound low false cause place more n e a b l h k = k sound low l (λ z. (refl, z))

  pub ordered-syntax : (sound : Bool) (low from : ℕ) (t : Token) → low ≤ rank from 0 → Found s from t
      → Ordered s P sound low (syntax t)
  unfolding Ordered
  ordered-syntax sound low from t l f =
      let e = syntax_two t in
      record { behind = omega (arith, f.start); inside = omega (arith, f.order, f.inside); least = omega arith; most = omega arith }

  module _ {B : Type 0} (Q : Bool → ℕ → B → ℕ → Type 0) where
    pub ordered_then : (sound : Bool) (low : ℕ) (w : Parse B) (go : B → ℕ → Parse A) → Ordered s Q sound low w
        → ((o : Bool) (l : ℕ) (b : B) (p : ℕ) → (o ≡ true → sound ≡ true) → Q o l b p → Ordered s P o l (go b p))
        → Ordered s P sound low (and_then w go)
    unfolding Ordered
    ordered_then sound low (stopped x) go h k = h
    ordered_then sound low (flawed x w) go h k = (h.0, ordered_then false (rank_of x) w go h.1 (λ o l b p c q. k o l b p (λ z. absurd (false≢true (c z))) q))
    ordered_then sound low (parsed b p) go h k = k sound low b p (λ z. z) h

    -- behind a fault
    ordered_on : (low : ℕ) (w : Parse B) (go : B → ℕ → Parse A) → Ordered s Q false low w
        → ((l : ℕ) (b : B) (p : ℕ) → Q false l b p → Ordered s P false l (go b p))
        → Ordered s P false low (and_then w go)
    unfolding Ordered
    ordered_on low (stopped x) go h k = h
    ordered_on low (flawed x w) go h k = (h.0, ordered_on (rank_of x) w go h.1 k)
    ordered_on low (parsed b p) go h k = k low b p h

    -- where the first part had no fault, the next one's faults may come from the same rank on
    pub ordered-soundly : (sound : Bool) (low : ℕ) (w : Parse B) (go : Bool → B → ℕ → Parse A) → Ordered s Q sound low w
        → ((b : B) (p : ℕ) → Q sound low b p → Ordered s P sound low (go true b p))
        → ((l : ℕ) (b : B) (p : ℕ) → Q false l b p → Ordered s P false l (go false b p))
        → Ordered s P sound low (soundly w go)
    unfolding Ordered
    ordered-soundly sound low (stopped x) go h k m = h
    ordered-soundly sound low (flawed x w) go h k m = (h.0, ordered_on (rank_of x) w (go false) h.1 m)
    ordered-soundly sound low (parsed b p) go h k m = k b p h

  -- what reading tells is a fault of the text, or has the property
  pub ordered_holds : (sound : Bool) (low : ℕ) (w : Parse A) → Ordered s P sound low w
      → Holds (FaultFrom s low) (P sound low) (first_in w)
  unfolding Ordered Holds
  ordered_holds sound low (stopped x) h = h
  ordered_holds sound low (flawed x w) h = h.0
  ordered_holds sound low (parsed a p) h = h

-- what follows of a value
pub ordered-map : {A : Type 0} (s : List ℕ) (P Q : Bool → ℕ → A → ℕ → Type 0) (sound : Bool) (low : ℕ) (w : Parse A)
    → ((o : Bool) (l : ℕ) (a : A) (p : ℕ) → P o l a p → Q o l a p) → Ordered s P sound low w → Ordered s Q sound low w
unfolding Ordered
ordered-map s P Q sound low (stopped x) f h = h
ordered-map s P Q sound low (flawed x w) f h = (h.0, ordered-map s P Q false (rank_of x) w f h.1)
ordered-map s P Q sound low (parsed a p) f h = f sound low a p h

-- a token of the sort asked for, and what follows it
pub ordered-wanted : {A : Type 0} (s : List ℕ) (P : Bool → ℕ → A → ℕ → Type 0) (sound : Bool) (low sort from : ℕ)
    (go : Token → ℕ → Parse A)
    → low ≤ rank from 0
    → from ≤ length s
    → (eqb (token_at s from).sort sort ≡ true → Ordered s P sound low (go (token_at s from) (token_at s from).end))
    → Ordered s P sound low (and_then (wanted s sort from) go)
unfolding expect
ordered-wanted s P sound low sort from go l h k =
    by_cond (λ (r : Reading Token). Ordered s P sound low (and_then (as_read r) go)) (eqb (token_at s from).sort sort) k (λ e. ordered-syntax s P sound low from (token_at s from) l (token-found s from h))

-- a syntax fault, a token, and a part with no faults but syntax faults
module _ (s : List ℕ) (low from : ℕ) (l : low ≤ rank from 0) where
  pub syntax_holds : {A : Type 0} (t : Token) (P : A → ℕ → Type 0) → Found s from t
      → Holds (FaultFrom s low) P (syntax_fault t)
  syntax_holds t P f =
      let e = syntax_two t in
      refuse_holds (FaultFrom s low) P (syntax_cause t) t.start (record { behind = omega (arith, f.start); inside = omega (arith, f.order, f.inside); least = omega arith; most = omega arith })

  pub expect_passes : (sort : ℕ) → 1 < sort → from ≤ length s
      → Holds (FaultFrom s low) (Passed s from) (expect s sort from)
  unfolding expect
  expect_passes sort k h =
      let f = token-found s from h in
      cond_holds (FaultFrom s low) (Passed s from) (eqb (token_at s from).sort sort) _ _
      (λ e. got_holds (FaultFrom s low) (Passed s from) (token_at s from) _ (record { start = f.start; order = strict_of sort k (token_at s from) s from f (eqb-true _ _ e); behind = refl; inside = f.inside }))
      (λ e. syntax_holds (token_at s from) (Passed s from) f)

pub ordered_read : {A B : Type 0} (s : List ℕ) (P : Bool → ℕ → A → ℕ → Type 0) (Q : B → ℕ → Type 0) (sound : Bool)
    (low : ℕ) (r : Reading B) (go : B → ℕ → Parse A)
    → Holds (FaultFrom s low) Q r → ((b : B) (p : ℕ) → Q b p → Ordered s P sound low (go b p))
    → Ordered s P sound low (and_then (as_read r) go)
unfolding Ordered Holds
ordered_read s P Q sound low (refused x) go h k = h
ordered_read s P Q sound low (got b p) go h k = k b p h

-- a value that ends in the text, behind a place, and of which a property holds where no fault was noted
pub record Passes {A : Type 0} (s : List ℕ) (from : ℕ) (P : A → ℕ → Type 0) (sound : Bool) (l : ℕ) (a : A)
    (p : ℕ) : Type 0 where
  pub bound : l ≤ rank p 0
  pub least : from + 1 ≤ p
  pub most : p ≤ length s
  pub tree : sound ≡ true → P a p

-- what reading tells of such a part
pub passes_holds : {A : Type 0} (s : List ℕ) (from : ℕ) (P : A → ℕ → Type 0) (w : Parse A)
    → Ordered s (Passes s from P) true 0 w → Holds (ConstraintRefusal s) P (first_in w)
unfolding Ordered Holds
passes_holds s from P (stopped x) h = (h.inside, λ e. let m = h.most in omega arith)
passes_holds s from P (flawed x w) h = (h.0.inside, λ e. let m = h.0.most in omega arith)
passes_holds s from P (parsed a p) h = h.tree refl

-- the faults come in order, from a rank on, and so does the place behind the value; of both a property holds, whatever faults there are
unfoldable pub InOrder : {A : Type 0} → List ℕ → ℕ → (A → ℕ → Type 0) → Parse A → Type 0
InOrder s low P w = (sound : Bool) → Ordered s (λ o l a p. (l ≤ rank p 0) × P a p) sound low w

module _ {A : Type 0} (s : List ℕ) (P : A → ℕ → Type 0) where
  pub parsed_order : (low : ℕ) (a : A) (p : ℕ) → low ≤ rank p 0 → P a p → InOrder s low P (parsed a p)
  unfolding InOrder Ordered
  parsed_order low a p l h sound = (l, h)

  pub order_lower : (low k : ℕ) (w : Parse A) → k ≤ low → InOrder s low P w → InOrder s k P w
  unfolding InOrder Ordered
  order_lower low k (stopped x) l h sound = fault_lower s low k x l (h sound)
  order_lower low k (flawed x w) l h sound = (fault_lower s low k x l (h sound).0, (h sound).1)
  order_lower low k (parsed a p) l h sound = let m = (h sound).0 in (omega arith, (h sound).1)

  pub noting_order : (low : ℕ) (fault : Bool) (cause : Cause) (place : ℕ) (more : Parse A) (n : ℕ) → number_of cause ≡ n
      → 2 ≤ n → n < 10 → low ≤ rank place n → place ≤ length s → InOrder s (rank place n) P more
      → InOrder s low P (noting fault cause place more)
  unfolding InOrder
  noting_order low fault cause place more n e a b l h k sound =
      ordered-noting s _ sound low fault cause place more n e a b l h (λ o j m c. order_lower (rank place n) j more m k o)

  pub syntax_order : (low from : ℕ) (t : Token) → low ≤ rank from 0 → Found s from t → InOrder s low P (syntax t)
  unfolding InOrder
  syntax_order low from t l f sound = ordered-syntax s _ sound low from t l f

  pub then_order : {B : Type 0} (Q : B → ℕ → Type 0) (low : ℕ) (w : Parse B) (go : B → ℕ → Parse A) → InOrder s low Q w
      → ((b : B) (p : ℕ) → Q b p → InOrder s (rank p 0) P (go b p)) → InOrder s low P (and_then w go)
  unfolding InOrder
  then_order Q low w go h k sound = ordered_then s _ _ sound low w go (h sound) (λ o l b p c q. order_lower (rank p 0) l (go b p) q.0 (k b p q.1) o)

  -- what reading tells is a fault of the text, or has the property
  pub order_holds : (low : ℕ) (w : Parse A) → InOrder s low P w → Holds (FaultFrom s low) P (first_in w)
  unfolding InOrder
  order_holds low w h = holds_map (FaultFrom s low) _ P (first_in w) (λ a p q. q.1) (ordered_holds s _ true low w (h true))

-- what follows of a value
pub order_map : {A : Type 0} (s : List ℕ) (low : ℕ) (P Q : A → ℕ → Type 0) (w : Parse A)
    → ((a : A) (p : ℕ) → P a p → Q a p) → InOrder s low P w → InOrder s low Q w
unfolding InOrder
order_map s low P Q w f h sound = ordered-map s _ _ sound low w (λ o l a p q. (q.0, f a p q.1)) (h sound)
