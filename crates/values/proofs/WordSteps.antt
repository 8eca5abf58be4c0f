-- True and False, byte by byte. Assumes nothing.
use mathlib.Core.Path.{◌≡◌, refl}
use mathlib.Core.Bool.{◌&&◌}
use mathlib.Core.List.{List, [], ◌∷◌}
use Prim.Native.Nat.{ℕ}
use native.Mathlib.Omega.{arith}
use lib.Dec.{eqb}
use lib.ListN.{length, get_or}
use borrow.Author.Tests.{ne_eqb}
use Rattle.lexis.specs.Text.{byte, bytes}
use Rattle.lexis.specs.Runs.{same}

pub true_is : (w : List ℕ) → same (bytes "True") w
    ≡ (eqb (byte "T") (get_or w 0 0) && (eqb (byte "r") (get_or w 1 0) && (eqb (byte "u") (get_or w 2 0) && (eqb (byte "e") (get_or w 3 0) && eqb (length w) 4))))
unfolding same
true_is [] = refl
true_is (a ∷ []) = refl
true_is (a ∷ b ∷ []) = refl
true_is (a ∷ b ∷ c ∷ []) = refl
true_is (a ∷ b ∷ c ∷ d ∷ []) = refl
true_is (a ∷ b ∷ c ∷ d ∷ e ∷ w) = rw (ne_eqb (length (a ∷ b ∷ c ∷ d ∷ e ∷ w)) 4 (λ q. omega arith))

pub false_is : (w : List ℕ) → same (bytes "False") w
    ≡ (eqb (byte "F") (get_or w 0 0) && (eqb (byte "a") (get_or w 1 0) && (eqb (byte "l") (get_or w 2 0) && (eqb (byte "s") (get_or w 3 0) && (eqb (byte "e") (get_or w 4 0) && eqb (length w) 5)))))
unfolding same
false_is [] = refl
false_is (a ∷ []) = refl
false_is (a ∷ b ∷ []) = refl
false_is (a ∷ b ∷ c ∷ []) = refl
false_is (a ∷ b ∷ c ∷ d ∷ []) = refl
false_is (a ∷ b ∷ c ∷ d ∷ e ∷ []) = refl
false_is (a ∷ b ∷ c ∷ d ∷ e ∷ f ∷ w) = rw (ne_eqb (length (a ∷ b ∷ c ∷ d ∷ e ∷ f ∷ w)) 5 (λ q. omega arith))

pub ruleset steps = (true_is, false_is)
