-- Dates: what is read is a real day with one part to three, and a spelling that reads back. Assumes nothing.
use mathlib.Core.Path.{◌≡◌, refl}
use mathlib.Core.Bool.{true}
use Rattle.std.specs.Prelude.{Some}
use mathlib.Core.List.{List, [], ◌∷◌}
use Prim.Native.Nat.{ℕ, ◌/◌, ◌%◌, ◌≤◌, ◌<◌}
use native.Mathlib.Omega.{arith}
use lib.ListN.{length}
use Rattle.lexis.specs.Text.{byte, bytes}
use Rattle.lexis.specs.Bytes.{is, digit}
use Rattle.lexis.specs.Runs.{shaped}
use Rattle.lexis.specs.Spelling.{date_shape}
use Rattle.lexis.proofs.Cases.{by_cond, either}
use Rattle.values.specs.Integers.{value_of}
use Rattle.values.specs.Calendar.{real, packed, year_of, month_of, day_of}
use Rattle.values.specs.Dates.{exactly, digits_at, real_date, date_of}
use Rattle.values.specs.declared.dates.Date.{Date}
use Rattle.values.proofs.Common.{Each, none_each, some_each}
use Rattle.values.proofs.IntegerLaws.{digit_byte, digit_is}
use Rattle.values.proofs.CalendarLaws.{real_last}

-- a date that is read is real, with one part to three
pub record Good (d : Date) : Type 0 where
  pub is_real : real d.day ≡ true
  pub some_part : 1 ≤ d.parts
  pub three_parts : d.parts ≤ 3

real-good : (parts day : ℕ) → 1 ≤ parts → parts ≤ 3 → Each Good (real_date parts day)
real-good parts day l h =
    by_cond (Each Good) (real day)
    (λ t. some_each Good _ (record { is_real = t; some_part = l; three_parts = h }))
    (λ t. none_each _)

pub date-good : (w : List ℕ) (d : Date) → date_of w ≡ Some d → Good d
unfolding date_of
date-good w =
    let P = Each Good in
    either P (exactly (bytes "dddd") w) (real-good 1 _ (omega arith) (omega arith))
    (either P (exactly (bytes "dddd-dd") w) (real-good 2 _ (omega arith) (omega arith))
    (either P (exactly (bytes "dddd-dd-dd") w) (real-good 3 _ (omega arith) (omega arith)) (none_each _)))

-- the byte of the last digit of n is of the sort digit
abbrev last_digit : ℕ → ℕ
last_digit n = digit_byte (n % 10)

last_digit_lem : (n : ℕ) → is digit (last_digit n) ≡ true
last_digit_lem n = digit_is (n % 10) (omega arith)

-- yyyy-mm-dd of a packed date
unfoldable pub spell_date : ℕ → List ℕ
spell_date p =
    let y = year_of p in let m = month_of p in let d = day_of p in
    last_digit (y / 1000) ∷ last_digit (y / 100) ∷ last_digit (y / 10) ∷ last_digit y ∷ byte "-"
    ∷ last_digit (m / 10) ∷ last_digit m ∷ byte "-"
    ∷ last_digit (d / 10) ∷ last_digit d ∷ []

-- it has ten bytes, in the shape of a date
pub date-length : (p : ℕ) → length (spell_date p) ≡ 10
unfolding spell_date
date-length p = refl

pub date-shaped : (p : ℕ) → shaped date_shape (spell_date p) ≡ true
unfolding spell_date shaped
date-shaped p = simp last_digit_lem

-- four digits and two digits hold their number
four_value : (n : ℕ) → n < 10_000
    → value_of 0 (last_digit (n / 1000) ∷ last_digit (n / 100) ∷ last_digit (n / 10) ∷ last_digit n ∷ []) ≡ n
unfolding value_of
four_value n h =
    let a : n / 10 / 10 ≡ n / 100 = omega arith in
    let b : n / 100 / 10 ≡ n / 1000 = omega arith in
    let c : n / 1000 % 10 ≡ n / 1000 = omega arith in
    omega arith

two_value : (n : ℕ) → n < 100 → value_of 0 (last_digit (n / 10) ∷ last_digit n ∷ []) ≡ n
unfolding value_of
two_value n h = omega arith

date-value : (p : ℕ) → p < 100_000_000
    → packed (digits_at 0 4 (spell_date p)) (digits_at 5 2 (spell_date p)) (digits_at 8 2 (spell_date p)) ≡ p
unfolding spell_date
date-value p h = rw (four_value (year_of p) (omega arith), two_value (month_of p) (omega arith), two_value (day_of p) (omega arith)) (omega arith)

-- a real day that is spelled reads back
pub date_back : (p : ℕ) → real p ≡ true → date_of (spell_date p) ≡ Some (record { parts = 3; day = p })
unfolding date_of
date_back p e = let l = real_last p e in rw (date-length p, date-shaped p, date-value p (omega arith), e)
