-- Dates as they are spelled. Document 01, 'Constraint text': "date: four digits, `-`, two, `-`, two"; 'Data text': "a date `yyyy`, `yyyy-mm` or
-- `yyyy-mm-dd`". Assumes nothing.
use Rattle.std.specs.Prelude.{Bool, cond, ◌&&◌, List, ℕ, eqb, length, take, drop}
use Rattle.std.specs.Prelude.{Option, None, Some}
use Rattle.lexis.specs.Text.{bytes}
use Rattle.lexis.specs.Runs.{shaped}
use Rattle.values.specs.Integers.{value_of}
use Rattle.values.specs.Calendar.{real, packed}
pub use Rattle.values.specs.declared.dates.Date.{Date}

-- the bytes are of the shape, all of them
abbrev pub exactly : List ℕ → List ℕ → Bool
exactly shape w = eqb (length w) (length shape) && shaped shape w

-- the number that n digits spell from a place on
abbrev pub digits_at : ℕ → ℕ → List ℕ → ℕ
digits_at at n w = value_of 0 (take n (drop at w))

abbrev pub real_date : ℕ → ℕ → Option Date
real_date parts day = cond (real day) (Some (record { parts = parts; day = day })) None

unfoldable pub date_of : List ℕ → Option Date
date_of w =
    cond (exactly (bytes "dddd") w) (real_date 1 (packed (digits_at 0 4 w) 1 1))
    (cond (exactly (bytes "dddd-dd") w) (real_date 2 (packed (digits_at 0 4 w) (digits_at 5 2 w) 1))
    (cond (exactly (bytes "dddd-dd-dd") w)
    (real_date 3 (packed (digits_at 0 4 w) (digits_at 5 2 w) (digits_at 8 2 w))) None))
