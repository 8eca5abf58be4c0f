-- What the code of integers stands on. Assumes nothing.
use mathlib.Core.Path.{◌≡◌, refl, sym, ap, ◌∙◌}
use mathlib.Core.Bool.{Bool, true, false, cond, ◌&&◌, and-true, and-false, false≢true}
use Rattle.std.specs.Prelude.{Option, None, Some}
use mathlib.Core.List.{List, [], ◌∷◌}
use Prim.Native.Nat.{ℕ, ◌+◌, ◌*◌, ◌-◌, ◌^◌, ◌≤◌, ◌<◌}
use native.Mathlib.Omega.{arith}
use lib.Dec.{eqb, leb}
use lib.ListN.{length, get_or, take, drop, drop_of_length-le}
use Rattle.std.specs.Prelude.{SomeIff}
use Rattle.std.specs.Bool.{then_some}
use borrow.Author.Tests.{le-leb, lt-leb, leb-true, leb-false, eq-eqb, ne_eqb}
use Rattle.lexis.specs.Text.{byte}
use Rattle.lexis.specs.Bytes.{within, among, blanks, marks, sort_of, is, blank, digit, small, capital, mark, other}
use Rattle.lexis.specs.Runs.{past, all}
use Rattle.lexis.specs.Clauses.Answers.{PlaceIs}
use Rattle.lexis.proofs.Cases.{either, and_left, and_right}
use Rattle.values.specs.Integers.{value_of, nought, plain, negative, not_negative, integer_of}
use Rattle.values.specs.Clauses.Answers.{digits_from, plain_number, short_integer}
use Rattle.values.specs.Words.{reads}
use Rattle.values.proofs.Common.{le_right, by_order, rest_is}
use Rattle.values.proofs.DigitLaws.{tenfold, tenfold_more}
use Rattle.lexis.proofs.Places.{drop_in}
use Rattle.lexis.proofs.QuickSteps.{digit_dash}

-- digits do not take a number down
value-least : (n : ℕ) (ds : List ℕ) → n ≤ value_of n ds
unfolding value_of
value-least n [] = omega arith
value-least n (b ∷ bs) = let h = value-least (n * 10 + (b - byte "0")) bs in omega arith

-- an answer where a test is passed
then_is : (t : Bool) (v : ℕ) → cond t (Some v) None ≡ then_some t v
then_is true v = refl
then_is false v = refl

-- digits from a place on, behind the number n
module _ (n i : ℕ) (ds : List ℕ) where
  pub digits_end : length ds ≤ i → digits_from n (drop i ds) ≡ then_some (leb n nought) n
  unfolding digits_from all value_of
  digits_end h = rw (drop_of_length-le ds h) (then_is (leb n nought) n)

  module _ (h : i < length ds) where
    pub digits_other : is digit (get_or ds i 0) ≡ false → digits_from n (drop i ds) ≡ None
    unfolding digits_from all
    digits_other q = rw (drop_in ds i h, q)

    pub digits_large : 214_748_364 < n → digits_from n (drop i ds) ≡ None
    unfolding digits_from all value_of
    digits_large l =
        let m = n * 10 + (get_or ds i 0 - byte "0") in
        let least = value-least m (drop (i + 1) ds) in
        let above = lt-leb (value_of m (drop (i + 1) ds)) nought (omega arith) in
        rw (drop_in ds i h, above, and-false)

    pub digits_on : is digit (get_or ds i 0) ≡ true
        → digits_from n (drop i ds) ≡ digits_from (n * 10 + (get_or ds i 0 - byte "0")) (drop (i + 1) ds)
    unfolding digits_from all value_of
    digits_on q = rw (drop_in ds i h, q)

-- plain digits
module _ (ds : List ℕ) where
  plain_digits : 1 ≤ length ds → cond (eqb (get_or ds 0 0) (byte "0")) (eqb (length ds) 1) true ≡ true
      → digits_from 0 ds ≡ plain_number ds
  unfolding digits_from plain_number
  plain_digits h q = rw (le-leb 1 (length ds) h, q) (simp and-true)

  pub plain_empty : length ds < 1 → plain_number ds ≡ None
  unfolding plain_number
  plain_empty h = rw (lt-leb 1 (length ds) h, and-false)

  pub plain_zero : 2 ≤ length ds → get_or ds 0 0 ≡ byte "0" → plain_number ds ≡ None
  unfolding plain_number
  plain_zero l q = rw (eq-eqb (get_or ds 0 0) (byte "0") q, ne_eqb (length ds) 1 (λ e. omega arith), and-false)

  pub plain_one : 1 ≤ length ds → length ds < 2 → plain_number ds ≡ digits_from 0 ds
  plain_one h l = sym (plain_digits h (rw (eq-eqb (length ds) 1 (omega arith)) (either (λ t. t ≡ true) (eqb (get_or ds 0 0) (byte "0")) refl refl)))

  pub plain_more : 1 ≤ length ds → (get_or ds 0 0 ≡ byte "0" → ⊥) → plain_number ds ≡ digits_from 0 ds
  plain_more h n = sym (plain_digits h (rw (ne_eqb (get_or ds 0 0) (byte "0") n)))

-- what is known of a plain number that is there, and where there is none
there : (b : Bool) (n v : ℕ) → Some n ≡ cond b (Some v) None → (b ≡ true) × (n ≡ v)
there true n v e = (refl, cc)
there false n v e = let z : ◌≡◌ {A = ℕ} 0 1 = cc in absurd (omega arith)

missing : (b : Bool) (v : ℕ) → None ≡ cond b (Some v) None → b ≡ false
missing true v e = let z : ◌≡◌ {A = ℕ} 0 1 = cc in absurd (omega arith)
missing false v e = refl

without_middle : (p a b : Bool) → (p && b) ≡ false → (p && a && b) ≡ false
without_middle true a b h = rw (h, and-false)
without_middle false a b h = refl

below_too : (p : Bool) (v : ℕ) → (p && leb v nought) ≡ false → (p && leb v 2_147_483_647) ≡ false
below_too true v h = let l = leb-false v nought h in lt-leb v 2_147_483_647 (omega arith)
below_too false v h = refl

module _ (ds : List ℕ) where
  plain_there : (n : ℕ) → plain_number ds ≡ Some n → (plain ds ≡ true) × (n ≡ value_of 0 ds) × (n ≤ nought)
  unfolding plain_number
  plain_there n q =
      let p = plain ds in
      let v = value_of 0 ds in
      let t = there (p && leb v nought) n v (sym q) in
      let m = le_right p v nought t.0 in
      (and_left p (leb v nought) t.0, t.1, omega arith)

  plain_missing : plain_number ds ≡ None → (plain ds && leb (value_of 0 ds) nought) ≡ false
  unfolding plain_number
  plain_missing q = missing (plain ds && leb (value_of 0 ds) nought) (value_of 0 ds) (sym q)

  module _ (n : ℕ) (q : plain_number ds ≡ Some n) where
    pub plain_most : n ≤ nought
    plain_most = (plain_there n q).2

    pub negative_nought : n < 1 → negative ds ≡ None
    negative_nought l =
        let t = plain_there n q in
        rw (t.0, ← t.1, lt-leb 1 n l)

    pub negative_some : 1 ≤ n → negative ds ≡ Some (nought - n)
    negative_some l =
        let t = plain_there n q in
        rw (t.0, ← t.1, le-leb 1 n l, le-leb n nought t.2)

    pub unsigned_there : (r : Option ℕ) → SomeIff r (nought + n < 2 ^ 32) (nought + n) → r ≡ not_negative ds
    unsigned_there (Some x) s =
        let t = plain_there n q in
        rw (t.0, ← t.1, le-leb n 2_147_483_647 (omega (arith, s))) (ap (λ (y : ℕ). Some y) s.1)
    unsigned_there None s =
        let t = plain_there n q in
        rw (t.0, ← t.1, lt-leb n 2_147_483_647 (omega (arith, s)))

  pub negative_none : plain_number ds ≡ None → negative ds ≡ None
  negative_none q = let v = value_of 0 ds in rw (without_middle (plain ds) (leb 1 v) (leb v nought) (plain_missing q))

  pub unsigned_none : plain_number ds ≡ None → not_negative ds ≡ None
  unsigned_none q = rw (below_too (plain ds) (value_of 0 ds) (plain_missing q))

-- the ways to an integer
module _ (w : List ℕ) where
  pub integer_minus : get_or w 0 0 ≡ byte "-" → integer_of w ≡ negative (take (length w - 1) (drop 1 w))
  unfolding integer_of
  integer_minus q = rw (eq-eqb (get_or w 0 0) (byte "-") q, rest_is w 1)

  pub integer_digits : (get_or w 0 0 ≡ byte "-" → ⊥) → integer_of w ≡ not_negative w
  unfolding integer_of
  integer_digits n = rw (ne_eqb (get_or w 0 0) (byte "-") n)

pub integer_empty : (w : List ℕ) → length w < 1 → integer_of w ≡ not_negative w
unfolding integer_of
integer_empty [] h = refl
integer_empty (b ∷ bs) h = absurd (omega arith)

-- every byte passes a test where their run ends with them
all_past : (f : ℕ → Bool) (at : ℕ) (bs : List ℕ) → eqb (past f at bs) (at + length bs) ≡ all f bs
unfolding past all
all_past f at [] = eq-eqb at (at + 0) (omega arith)
all_past f at (b ∷ bs) = by_byte (all_past f (at + 1) bs) (f b) refl
  where
    by_byte : eqb (past f (at + 1) bs) (at + 1 + length bs) ≡ all f bs → (k : Bool) → f b ≡ k
        → eqb (past f at (b ∷ bs)) (at + length (b ∷ bs)) ≡ all f (b ∷ bs)
    by_byte ih true e = let n : at + length (b ∷ bs) ≡ at + 1 + length bs = omega arith in rw (e, n) ih
    by_byte ih false e = rw e (ne_eqb at (at + length (b ∷ bs)) (λ z. omega arith))

-- an integer of few digits
pub digits_all : (w : List ℕ) (e : ℕ) → PlaceIs w 0 (past (is digit) 0 (drop 0 w)) e → eqb e (length w) ≡ all (is digit) w
digits_all w e p = let n : 0 + length w ≡ length w = omega arith in rw p.is (rw n at (all_past (is digit) 0 w))

-- no byte above `9` is a digit
above_digits : (b : ℕ) → byte "9" < b → is digit b ≡ false
unfolding sort_of
above_digits b h =
    rw (lt-leb b (byte "9") h, and-false)
    (later (among b blanks) (within (byte "a") (byte "z") b) (within (byte "A") (byte "Z") b) (among b marks))
  where
    later : (p q r t : Bool) → eqb (cond p blank (cond q small (cond r capital (cond t mark other)))) digit ≡ false
    later true q r t = refl
    later false true r t = refl
    later false false true t = refl
    later false false false true = refl
    later false false false false = refl

digit-most : (b : ℕ) → is digit b ≡ true → b ≤ byte "9"
digit-most b e = by_order b (byte "9") (λ k. k) (λ k. absurd (false≢true (sym (above_digits b k) ∙ e)))

-- digits behind a number
value-most : (n m : ℕ) (ds : List ℕ) → n < m → all (is digit) ds ≡ true → value_of n ds < tenfold (length ds) m
unfolding value_of all tenfold
value-most n m [] h a = h
value-most n m (b ∷ bs) h a =
    let d = digit-most b (and_left (is digit b) (all (is digit) bs) a) in
    value-most (n * 10 + (b - byte "0")) (m * 10) bs (omega arith) (and_right (is digit b) (all (is digit) bs) a)

-- the first of digits is one
first_digit : (w : List ℕ) → 1 ≤ length w → all (is digit) w ≡ true → is digit (get_or w 0 0) ≡ true
unfolding all
first_digit [] h a = absurd (omega arith)
first_digit (b ∷ bs) h a = and_left (is digit b) (all (is digit) bs) a

-- few digits spell an integer
pub short_reads : (w : List ℕ) → short_integer w ≡ true → reads (integer_of w) ≡ true
unfolding short_integer integer_of tenfold
short_reads w e =
    let x = all (is digit) w in
    let y = leb 1 (length w) in
    let z = cond (eqb (get_or w 0 0) (byte "0")) (eqb (length w) 1) true in
    let p = and_left (plain w) (leb (length w) 9) e in
    let xy = and_left (x && y) z p in
    let a = and_left x y xy in
    let l = leb-true (length w) 9 (and_right (plain w) (leb (length w) 9) e) in
    let v = value-most 0 1 w (omega arith) a in
    let t = tenfold_more (length w) 9 1 l in
    let d = first_digit w (leb-true 1 (length w) (and_right x y xy)) a in
    rw (digit_dash (get_or w 0 0) d, p, le-leb (value_of 0 w) 2_147_483_647 (omega (arith, v, t)))

-- what each function stands on
pub ruleset digits_steps = (digits_end, digits_other, digits_large, digits_on)

pub ruleset plain_steps = (plain_empty, plain_zero, plain_one, plain_more)

pub ruleset negative_steps = (plain_most, negative_none, negative_nought, negative_some)

pub ruleset unsigned_steps = (unsigned_none, unsigned_there)

pub ruleset integer_steps = (integer_minus, integer_digits, integer_empty)
