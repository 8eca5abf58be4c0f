-- Of the faults of a text that come in order the first is the least: reading tells it, and a text is refused exactly where it has a fault. Assumes nothing.
use mathlib.Core.Path.{◌≡◌, refl, sym, ap, ◌∙◌, subst}
use mathlib.Core.Logic.{◌↔◌, ◌⊎◌, inl, inr}
use mathlib.Core.Bool.{Bool, true, false}
use mathlib.Core.List.{List, [], Memᴰ}
use Prim.Native.Nat.{ℕ, ◌≤◌, ◌<◌}
use native.Mathlib.Omega.{arith}
use native.Mathlib.Decide.{dec_le}
use lib.Dec.{ltb}
use lib.ListN.{length}
use borrow.Author.Tests.{ltb-true}
use Rattle.refusals.specs.Limits.{text_limit}
use Rattle.refusals.specs.Reading.{Reading, refused, got}
use Rattle.refusals.specs.declared.Cause.TheVariants.{TextTooLong}
use Rattle.refusals.specs.declared.Refusal.{Refusal}
use Rattle.refusals.specs.Refusals.{refusal, number_of}
use Rattle.refusals.specs.Parsing.{Parse, stopped, flawed, parsed, noting, first_in, faults_in}
use Rattle.refusals.proofs.Parses.{rank_of, FaultFrom, fault_lower, Ordered}
use Rattle.rules_faults.specs.Faults.{Precedes, Least, Alike}

-- what reading gives and the faults of the text
abbrev Outcome : {A : Type 0} → Reading A → List Refusal → Type 0
Outcome (refused x) fs = Least x fs
Outcome (got a p) fs = fs ≡ []

-- a fault is 1, told at the limit where the text is longer, or lies in the text
abbrev pub Lies : List ℕ → Refusal → Type 0
Lies s x = ((x ≡ refusal TextTooLong text_limit) × (text_limit < length s)) ⊎ FaultFrom s 0 x

no_member : {x : Refusal} → ¬ Memᴰ x []
no_member = elim [ ]

-- a fault from the rank of another on is told after it
after : (s : List ℕ) (x y : Refusal) → number_of x.cause < 10 → FaultFrom s (rank_of x) y → Precedes x y
after s x y n f = by (dec_le y.place x.place)
  where
    by : Dec (y.place ≤ x.place) → Precedes x y
    by (yes h) = Precedes.smaller_number (λ e. omega (arith, f.least)) (omega (arith, f.behind, f.most)) (omega (arith, f.behind, f.most))
    by (no h) = Precedes.smaller_place (λ e. omega (arith, f.least)) (omega arith)

-- a fault is from its own rank on
itself : (s : List ℕ) (low : ℕ) (x : Refusal) → FaultFrom s low x → FaultFrom s (rank_of x) x
itself s low x f = record { behind = omega arith; inside = f.inside; least = f.least; most = f.most }

module _ {A : Type 0} (s : List ℕ) (P : Bool → ℕ → A → ℕ → Type 0) where
  -- each fault of a parse in order is from its rank on
  each : (sound : Bool) (low : ℕ) (w : Parse A) → Ordered s P sound low w → (y : Refusal) → Memᴰ y (faults_in w)
      → FaultFrom s low y
  unfolding Ordered
  each sound low (stopped x) h y (Memᴰ.head e) = rw e h
  each sound low (stopped x) h y (Memᴰ.tail m) = elim m [ ]
  each sound low (flawed x w) h y (Memᴰ.head e) = rw e h.0
  each sound low (flawed x w) h y (Memᴰ.tail m) = fault_lower s (rank_of x) low y h.0.behind (each false (rank_of x) w h.1 y m)
  each sound low (parsed a p) h y m = elim m [ ]

  -- what reading tells is the least
  outcome : (sound : Bool) (low : ℕ) (w : Parse A) → Ordered s P sound low w → Outcome (first_in w) (faults_in w)
  unfolding Ordered
  outcome sound low (stopped x) h =
      record { one = Memᴰ.head refl; least = λ y m. after s x y h.most (each sound (rank_of x) (stopped x) (itself s low x h) y m) }
  outcome sound low (flawed x w) h =
      record { one = Memᴰ.head refl; least = λ y m. after s x y h.0.most (each sound (rank_of x) (flawed x w) (itself s low x h.0, h.1) y m) }
  outcome sound low (parsed a p) h = refl

  -- the same where the text may be too long
  long_outcome : (long : Bool) (w : Parse A) → Ordered s P true 0 w
      → Outcome (first_in (noting long TextTooLong text_limit w)) (faults_in (noting long TextTooLong text_limit w))
  unfolding number_of
  long_outcome true w h = record { one = Memᴰ.head refl; least = λ y m. Precedes.first refl }
  long_outcome false w h = outcome true 0 w h

  long_lies : (long : Bool) → (long ≡ true → text_limit < length s) → (w : Parse A) → Ordered s P true 0 w
      → (x : Refusal)
      → Memᴰ x (faults_in (noting long TextTooLong text_limit w)) → Lies s x
  long_lies true l w h x (Memᴰ.head e) = inl (e, l refl)
  long_lies true l w h x (Memᴰ.tail m) = inr (each true 0 w h x m)
  long_lies false l w h x m = inr (each true 0 w h x m)

-- what reading gives, where the faults lie
module _ {A : Type 0} (s : List ℕ) (r : Reading A) (fs : List Refusal)
    (lies : (x : Refusal) → Memᴰ x fs → Lies s x) (o : Outcome r fs) where
  outcome_at : (q : Reading A) → r ≡ q → Outcome q fs
  outcome_at q e = subst (λ (y : Reading A). Outcome y fs) e o

  -- a text is read exactly where it has no fault
  outcome_faultless : ((a : A) × (p : ℕ) × (r ≡ got a p)) ↔ (fs ≡ [])
  outcome_faultless = (λ h. outcome_at (got h.0 h.1) h.2, λ h. back r refl h)
    where
      back : (q : Reading A) → r ≡ q → fs ≡ [] → (a : A) × (p : ℕ) × (r ≡ got a p)
      back (refused x) e h = absurd (no_member (subst (Memᴰ x) h (outcome_at (refused x) e).one))
      back (got a p) e h = (a, p, e)

  -- a refusal is the least of the faults
  outcome_least : (x : Refusal) → r ≡ refused x → Least x fs
  outcome_least x e = outcome_at (refused x) e

  one_place : (x : Refusal) → Memᴰ x fs → number_of x.cause ≡ 1 → x.place ≡ text_limit
  one_place x m n = go (lies x m)
    where
      go : Lies s x → x.place ≡ text_limit
      go (inl e) = ap (λ (y : Refusal). y.place) e.0
      go (inr l) = absurd (omega (arith, l.least))

  alike : (x y : Refusal) → Memᴰ x fs → Memᴰ y fs → Precedes x y → Precedes y x → Alike x y
  alike x y a b (Precedes.first h) (Precedes.first k) = record { number = h ∙ sym k; place = one_place x a h ∙ sym (one_place y b k) }
  alike x y a b (Precedes.first h) (Precedes.smaller_place n k) = absurd (n h)
  alike x y a b (Precedes.first h) (Precedes.smaller_number n e k) = absurd (n h)
  alike x y a b (Precedes.smaller_place n h) (Precedes.first k) = absurd (n k)
  alike x y a b (Precedes.smaller_place n h) (Precedes.smaller_place m k) = absurd (omega arith)
  alike x y a b (Precedes.smaller_place n h) (Precedes.smaller_number m e k) = absurd (omega arith)
  alike x y a b (Precedes.smaller_number n e h) (Precedes.first k) = absurd (n k)
  alike x y a b (Precedes.smaller_number n e h) (Precedes.smaller_place m k) = absurd (omega arith)
  alike x y a b (Precedes.smaller_number n e h) (Precedes.smaller_number m g k) = record { number = omega arith; place = e }

  -- where a text has faults, it is refused with the number and at the place of the least
  outcome_refused : (x : Refusal) → Least x fs → (y : Refusal) × (r ≡ refused y) × Alike x y
  outcome_refused x l = go r refl
    where
      go : (q : Reading A) → r ≡ q → (y : Refusal) × (r ≡ refused y) × Alike x y
      go (refused y) e = let k = outcome_least y e in (y, e, alike x y l.one k.one (l.least y k.one) (k.least x l.one))
      go (got a p) e = absurd (no_member (subst (Memᴰ x) (outcome_faultless.0 (a, p, e)) l.one))

-- a text whose faults come in order
module _ {A : Type 0} (s : List ℕ) (P : Bool → ℕ → A → ℕ → Type 0) (w : Parse A) (h : Ordered s P true 0 w) where
  abbrev long : Bool
  long = ltb text_limit (length s)

  abbrev whole : Parse A
  whole = noting long TextTooLong text_limit w

  pub text_lies : (x : Refusal) → Memᴰ x (faults_in whole) → Lies s x
  text_lies = long_lies s P long (ltb-true text_limit (length s)) w h

  pub text_faultless : ((a : A) × (p : ℕ) × (first_in whole ≡ got a p)) ↔ (faults_in whole ≡ [])
  text_faultless = outcome_faultless s (first_in whole) (faults_in whole) text_lies (long_outcome s P long w h)

  pub text_least : (x : Refusal) → first_in whole ≡ refused x → Least x (faults_in whole)
  text_least = outcome_least s (first_in whole) (faults_in whole) text_lies (long_outcome s P long w h)

  pub text_refused : (x : Refusal) → Least x (faults_in whole) → (y : Refusal) × (first_in whole ≡ refused y) × Alike x y
  text_refused = outcome_refused s (first_in whole) (faults_in whole) text_lies (long_outcome s P long w h)
