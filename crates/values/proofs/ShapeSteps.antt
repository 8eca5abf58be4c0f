-- What the code of shapes stands on. Assumes nothing.
use mathlib.Core.Path.{◌≡◌, refl}
use mathlib.Core.Bool.{Bool, true, false, not, ◌&&◌}
use mathlib.Core.List.{List, [], ◌∷◌}
use Prim.Native.Nat.{ℕ, ◌+◌, ◌*◌, ◌≤◌}
use native.Mathlib.Omega.{arith}
use lib.Dec.{eqb, eqb-zero-suc, eqb-suc-zero, eqb-suc-suc}
use lib.ListN.{length, get_or}
use borrow.Author.Tests.{not-true}
use Rattle.lexis.specs.Runs.{same, shaped, any_digit, all}
use Rattle.lexis.proofs.Cases.{and_left, and_right}
use Rattle.lexis.proofs.Places.{drop_in}
use Rattle.values.specs.Integers.{value_of}
use Rattle.values.specs.Dates.{exactly, digits_at}
use Rattle.values.specs.Clauses.Answers.{DigitIs, DigitsAre}

-- a shape in which no digit may stand is a word
and_swap : (a b c : Bool) → (a && (b && c)) ≡ (b && (a && c))
and_swap true true c = refl
and_swap true false c = refl
and_swap false true c = refl
and_swap false false c = refl

abbrev pub literally : List ℕ → Bool
literally shape = all (λ x. not (eqb x any_digit)) shape

pub exactly_same : (shape w : List ℕ) → literally shape ≡ true → exactly shape w ≡ same shape w
unfolding all shaped same
exactly_same [] [] h = refl
exactly_same [] (b ∷ bs) h = rw (eqb-suc-zero (length bs))
exactly_same (x ∷ xs) [] h = rw (eqb-zero-suc (length xs))
exactly_same (x ∷ xs) (b ∷ bs) h =
    let n = not-true (eqb x any_digit) (and_left (not (eqb x any_digit)) (literally xs) h) in
    let more = exactly_same xs bs (and_right (not (eqb x any_digit)) (literally xs) h) in
    rw (n, eqb-suc-suc (length bs) (length xs), ← more) (and_swap (eqb (length bs) (length xs)) (eqb x b) (shaped xs bs))

-- two digits, and four
pub two_are : (w : List ℕ) (at x y : ℕ) → at + 2 ≤ length w → DigitIs (get_or w at 0) x → DigitIs (get_or w (at + 1) 0) y
    → DigitsAre w at 2 3_000 (x * 10 + y)
unfolding value_of
two_are w at x y h a b =
    let ha = a.fits in
    let hb = b.fits in
    record {
      is = rw (drop_in w at (omega arith), drop_in w (at + 1) (omega arith), ← a.is, ← b.is) (omega arith);
      fits = omega arith;
    }

four_is : (w : List ℕ) (x y : ℕ) → 4 ≤ length w → x ≡ digits_at 0 2 w → y ≡ digits_at 2 2 w → x * 100 + y ≡ digits_at 0 4 w
unfolding value_of
four_is [] x y h a b = absurd (omega arith)
four_is (p ∷ []) x y h a b = absurd (omega arith)
four_is (p ∷ q ∷ []) x y h a b = absurd (omega arith)
four_is (p ∷ q ∷ r ∷ []) x y h a b = absurd (omega arith)
four_is (p ∷ q ∷ r ∷ s ∷ t) x y h a b = omega arith

pub four_are : (w : List ℕ) (x y : ℕ) → 4 ≤ length w → DigitsAre w 0 2 3_000 x → DigitsAre w 2 2 3_000 y
    → DigitsAre w 0 4 400_000 (x * 100 + y)
four_are w x y h a b =
    let ha = a.fits in
    let hb = b.fits in
    record { is = four_is w x y h a.is b.is; fits = omega arith }
