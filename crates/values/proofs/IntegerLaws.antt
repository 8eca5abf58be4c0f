-- Integers: what is read lies in the range, two's complement, the ends of `+/-`, and a spelling that reads back. Assumes nothing.
use mathlib.Core.Path.{◌≡◌, refl, ap, ◌∙◌}
use mathlib.Core.Bool.{true, false, cond, ◌&&◌}
use Rattle.std.specs.Prelude.{Option, Some}
use mathlib.Core.List.{List, [], ◌∷◌}
use Prim.Native.Nat.{ℕ, zero, suc, ◌+◌, ◌-◌, ◌/◌, ◌%◌, ◌^◌, ◌≤◌, ◌<◌}
use native.Mathlib.Omega.{arith}
use lib.Dec.{eqb, leb, ltb}
use lib.ListN.{length, get_or, drop}
use borrow.Author.Tests.{leb-true, leb-false, ltb-true, ltb-false, le-leb, ne_eqb}
use Rattle.lexis.specs.Text.{byte}
use Rattle.lexis.specs.Bytes.{is, digit, sort_of}
use Rattle.lexis.specs.Runs.{all}
use Rattle.lexis.proofs.Cases.{by_cond, either}
use Rattle.lexis.proofs.Places.{byte_inside}
use Rattle.values.specs.Integers.{value_of, nought, greatest, plain, integer_of, twos_complement, Pair, magnitude, inside, around}
use Rattle.values.proofs.Common.{Each, none_each, some_each, le_left, le_right, below}

-- an integer that is read lies in the range
abbrev InRange : Option ℕ → Type 0
InRange = Each (λ n. n ≤ greatest)

pub integer_in_range : (w : List ℕ) (n : ℕ) → integer_of w ≡ Some n → n ≤ greatest
unfolding integer_of
integer_in_range w =
    either InRange (eqb (get_or w 0 0) (byte "-"))
    (let n = value_of 0 (drop 1 w) in
    either InRange (plain (drop 1 w) && leb 1 n && leb n nought) (some_each (λ n. n ≤ greatest) (nought - n) (omega arith)) (none_each _))
    (let n = value_of 0 w in
    by_cond InRange (plain w && leb n 2_147_483_647)
    (λ e. let l = le_right (plain w) n 2_147_483_647 e in some_each (λ n. n ≤ greatest) (nought + n) (omega arith)) (λ e. none_each _))

-- two's complement fits 32 bits
pub complement_fits : (x : ℕ) → twos_complement x < 2 ^ 32
complement_fits x = omega arith

-- a value not below 0 stands for itself, and one below 0 for 2 ^ 32 less its distance from 0
pub complement_value : (x : ℕ) → x ≤ greatest
    → (nought ≤ x → twos_complement x ≡ x - nought) × (x < nought → twos_complement x ≡ 2 ^ 32 - (nought - x))
complement_value x h = omega arith

-- two's complement undoes itself
pub complement_back : (x : ℕ) → x ≤ greatest → twos_complement (twos_complement x) ≡ x
complement_back x h = omega arith

-- two's complement is one-to-one
pub complement_once : (x y : ℕ) → x ≤ greatest → y ≤ greatest → twos_complement x ≡ twos_complement y → x ≡ y
complement_once x y h l e = omega arith

-- the ends of `+/-` lie in the range, the low end first just if d is not below 0
pub record Ends (d : ℕ) (p : Pair) : Type 0 where
  pub low : p.low ≤ greatest
  pub high : p.high ≤ greatest
  pub order : nought ≤ d → p.low ≤ p.high
  pub empty : d < nought → p.high < p.low

pub around-ends : (a d : ℕ) → a ≤ greatest → inside a d ≡ true → Ends d (around a d)
unfolding inside around
around-ends a d h e =
    let m = le_left (magnitude d) a (leb (a + magnitude d) greatest) e in
    let g = le_right (leb (magnitude d) a) (a + magnitude d) greatest e in
    by_cond (Ends d) (leb nought d)
    (λ t. let k = leb-true nought d t in omega arith)
    (λ t. let k = leb-false nought d t in let q : magnitude d ≡ nought - d = rw t in omega arith)

-- the byte of a digit is of the sort digit
abbrev pub digit_byte : ℕ → ℕ
digit_byte n = byte "0" + n

pub digit_is : (n : ℕ) → n < 10 → is digit (digit_byte n) ≡ true
unfolding sort_of
digit_is n h = below 10 (λ i. is digit (digit_byte i)) refl n h

-- the digits of n in front of others, in at most k steps
unfoldable pub digits_of : ℕ → ℕ → List ℕ → List ℕ
digits_of zero n ds = digit_byte n ∷ ds
digits_of (suc k) n ds = let more = digits_of k (n / 10) (digit_byte (n % 10) ∷ ds) in cond (ltb n 10) (digit_byte n ∷ ds) more

-- a number in decimal, without needless zeros
unfoldable pub decimal : ℕ → List ℕ
decimal n = digits_of n n []

-- an integer in decimal, by its distance
unfoldable pub spell_integer : ℕ → List ℕ
spell_integer n = cond (ltb n nought) (byte "-" ∷ decimal (nought - n)) (decimal (n - nought))

-- the digits have the number's value
digits_value : (k n : ℕ) (ds : List ℕ) → value_of 0 (digits_of k n ds) ≡ value_of n ds
unfolding digits_of value_of
digits_value zero n ds = ap (λ m. value_of m ds) (omega arith)
digits_value (suc k) n ds =
    either (λ l. value_of 0 l ≡ value_of n ds) (ltb n 10)
    (ap (λ m. value_of m ds) (omega arith))
    (digits_value k (n / 10) (digit_byte (n % 10) ∷ ds) ∙ ap (λ m. value_of m ds) (omega arith))

pub decimal_value : (n : ℕ) → value_of 0 (decimal n) ≡ n
unfolding decimal value_of
decimal_value n = digits_value n n []

-- they are digits
digits_all : (k n : ℕ) (ds : List ℕ) → n ≤ k → all (is digit) ds ≡ true → all (is digit) (digits_of k n ds) ≡ true
unfolding digits_of all
digits_all zero n ds h e = rw (digit_is n (omega arith), e)
digits_all (suc k) n ds h e =
    by_cond (λ l. all (is digit) l ≡ true) (ltb n 10)
    (λ t. rw (digit_is n (ltb-true n 10 t), e))
    (λ t. let l = ltb-false n 10 t in digits_all k (n / 10) (digit_byte (n % 10) ∷ ds) (omega arith) (rw (digit_is (n % 10) (omega arith), e)))

-- the first of them is not 0, unless the number is
digits_first : (k n : ℕ) (ds : List ℕ) → 1 ≤ n → n ≤ k → byte "0" < get_or (digits_of k n ds) 0 0
unfolding digits_of
digits_first zero n ds l h = omega arith
digits_first (suc k) n ds l h =
    by_cond (λ w. byte "0" < get_or w 0 0) (ltb n 10)
    (λ t. omega arith)
    (λ t. let g = ltb-false n 10 t in digits_first k (n / 10) (digit_byte (n % 10) ∷ ds) (omega arith) (omega arith))

-- the spelling is plain, with no `-` in front
pub record Unsigned (ds : List ℕ) : Type 0 where
  pub is_plain : plain ds ≡ true
  pub no_sign : eqb (get_or ds 0 0) (byte "-") ≡ false

from_first : (ds : List ℕ) → byte "0" < get_or ds 0 0 → all (is digit) ds ≡ true → Unsigned ds
from_first ds h e = record {
  is_plain = rw (e, le-leb 1 (length ds) (byte_inside ds 0 (get_or ds 0 0) refl (omega arith)), ne_eqb (get_or ds 0 0) (byte "0") (omega arith));
  no_sign = ne_eqb (get_or ds 0 0) (byte "-") (omega arith);
}

pub decimal_unsigned : (n : ℕ) → Unsigned (decimal n)
unfolding decimal digits_of all sort_of
decimal_unsigned zero = record { is_plain = refl; no_sign = refl }
decimal_unsigned (suc n) =
    let m = suc n in
    from_first (digits_of m m []) (digits_first m m [] (omega arith) (omega arith)) (digits_all m m [] (omega arith) refl)

-- an integer that is spelled reads back
pub integer_back : (n : ℕ) → n ≤ greatest → integer_of (spell_integer n) ≡ Some n
unfolding spell_integer integer_of
integer_back n h =
    by_cond (λ w. integer_of w ≡ Some n) (ltb n nought)
    (λ t. let l = ltb-true n nought t in
    rw ((decimal_unsigned (nought - n)).is_plain, decimal_value (nought - n), le-leb 1 (nought - n) (omega arith), le-leb (nought - n) nought (omega arith))
    (ap {B = Option ℕ} Some (omega arith)))
    (λ t. let l = ltb-false n nought t in
    rw ((decimal_unsigned (n - nought)).no_sign, (decimal_unsigned (n - nought)).is_plain, decimal_value (n - nought), le-leb (n - nought) 2_147_483_647 (omega arith))
    (ap {B = Option ℕ} Some (omega arith)))
