-- What the laws share: answers that are there, tests between numbers, a test computed once for all numbers below a bound, and the bytes behind a place. Assumes nothing.
use mathlib.Core.Path.{◌≡◌, refl, subst}
use mathlib.Core.Bool.{Bool, true, false, ◌&&◌}
use Rattle.std.specs.Prelude.{Option, None, Some}
use mathlib.Core.List.{List}
use Prim.Native.Nat.{ℕ, zero, suc, ◌-◌, ◌≤◌, ◌<◌}
use native.Mathlib.Omega.{arith}
use lib.Dec.{eqb, leb}
use lib.ListN.{length, take, drop, length-drop}
use lib.Seq.{take_all}
use borrow.Author.Tests.{leb-true, leb-false, eqb-true, eqb-false}
use Rattle.lexis.proofs.Cases.{and_left, and_right}

-- it holds of the answer, if there is one
abbrev pub Each : {A : Type 0} → (A → Type 0) → Option A → Type 0
Each {A} P o = (a : A) → o ≡ Some a → P a

pub none_each : {A : Type 0} (P : A → Type 0) → Each P None
none_each P a e = let z : ◌≡◌ {A = ℕ} 0 1 = cc in absurd (omega arith)

pub some_each : {A : Type 0} (P : A → Type 0) (a : A) → P a → Each P (Some a)
some_each P a h b e = let q : a ≡ b = cc in subst P q h

-- an order that is one of two tests passed
pub le_left : (a b : ℕ) (t : Bool) → (leb a b && t) ≡ true → a ≤ b
le_left a b t e = leb-true a b (and_left (leb a b) t e)

pub le_right : (t : Bool) (a b : ℕ) → (t && leb a b) ≡ true → a ≤ b
le_right t a b e = leb-true a b (and_right t (leb a b) e)

-- one number is at most another, or above it
pub by_order : {P : Type 0} (a b : ℕ) → (a ≤ b → P) → (b < a → P) → P
by_order {P} a b f g = go (leb a b) refl
  where
    go : (t : Bool) → leb a b ≡ t → P
    go true e = f (leb-true a b e)
    go false e = g (leb-false a b e)

-- all numbers below a bound pass the test, so each of them does
abbrev pub all_below : ℕ → (ℕ → Bool) → Bool
all_below zero test = true
all_below (suc n) test = test n && all_below n test

pub below : (n : ℕ) (test : ℕ → Bool) → all_below n test ≡ true → (i : ℕ) → i < n → test i ≡ true
below zero test h i l = absurd (omega arith)
below (suc n) test h i l = last (eqb i n) refl (below n test (and_right (test n) (all_below n test) h) i)
  where
    last : (b : Bool) → eqb i n ≡ b → (i < n → test i ≡ true) → test i ≡ true
    last true e f = rw (eqb-true i n e) (and_left (test n) (all_below n test) h)
    last false e f = let g = eqb-false i n e in f (omega arith)

-- the bytes behind a place, as the code lends them
pub rest_is : (w : List ℕ) (n : ℕ) → take (length w - n) (drop n w) ≡ drop n w
rest_is w n = let l = length-drop n w in take_all (length w - n) (drop n w) (omega arith)
