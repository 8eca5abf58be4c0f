-- Truth values and answers, runs that are compared, and tests joined by `and` and `or`. Assumes nothing.
use mathlib.Core.Path.{◌≡◌, refl, sym, ◌∙◌}
use mathlib.Core.Logic.{◌≢◌}
use mathlib.Core.Bool.{Bool, true, false, ◌&&◌, ◌||◌}
use Rattle.std.specs.Prelude.{None, Some}
use mathlib.Core.List.{List, [], ◌∷◌}
use Prim.Native.Nat.{ℕ}
use native.Mathlib.Omega.{arith}
use lib.Dec.{eqb}
use borrow.Author.Tests.{eqb-true, eq-eqb}
use Rattle.lexis.specs.Runs.{same}
use Rattle.lexis.proofs.Cases.{and_left, and_right}

-- a truth value is one of two
pub true_or_false : {P : Type 0} (b : Bool) → (b ≡ true → P) → (b ≡ false → P) → P
true_or_false true f g = f refl
true_or_false false f g = g refl

pub false_true : false ≡ true → ⊥
false_true e = let z : ◌≡◌ {A = ℕ} 0 1 = cc in omega arith

pub none_some : {A : Type 0} {a : A} → None ≡ Some a → ⊥
none_some {A} {a} e = let z : ◌≡◌ {A = ℕ} 0 1 = cc in omega arith

pub some_inj : {A : Type 0} {a b : A} → Some a ≡ Some b → a ≡ b
some_inj {A} {a} {b} e = cc

-- runs are the same where they are equal
pub same_eq : (xs ys : List ℕ) → same xs ys ≡ true → xs ≡ ys
unfolding same
same_eq [] [] h = refl
same_eq [] (y ∷ ys) h = absurd (false_true h)
same_eq (x ∷ xs) [] h = absurd (false_true h)
same_eq (x ∷ xs) (y ∷ ys) h =
    let p = eqb-true x y (and_left (eqb x y) (same xs ys) h) in
    let q = same_eq xs ys (and_right (eqb x y) (same xs ys) h) in
    λ i. p i ∷ q i

pub same_self : (xs : List ℕ) → same xs xs ≡ true
unfolding same
same_self [] = refl
same_self (x ∷ xs) = rw (eq-eqb x x refl) (same_self xs)

pub eq_same : (xs ys : List ℕ) → xs ≡ ys → same xs ys ≡ true
eq_same xs ys e = rw (← e) (same_self xs)

pub ne_same : (xs ys : List ℕ) → xs ≢ ys → same xs ys ≡ false
ne_same xs ys h = true_or_false (same xs ys) (λ e. absurd (h (same_eq xs ys e))) (λ e. e)

pub same_ne : (xs ys : List ℕ) → same xs ys ≡ false → xs ≢ ys
same_ne xs ys h e = false_true (sym h ∙ eq_same xs ys e)

-- either of two tests
pub or_left : (a b : Bool) → a ≡ true → (a || b) ≡ true
or_left true b h = refl
or_left false b h = absurd (false_true h)

pub or_right : (a b : Bool) → b ≡ true → (a || b) ≡ true
or_right true b h = refl
or_right false b h = h

pub or_cases : {P : Type 0} (a b : Bool) → (a || b) ≡ true → (a ≡ true → P) → (b ≡ true → P) → P
or_cases true b h f g = f refl
or_cases false b h f g = g h

pub and_both : (a b : Bool) → a ≡ true → b ≡ true → (a && b) ≡ true
and_both true b h k = k
and_both false b h k = h
