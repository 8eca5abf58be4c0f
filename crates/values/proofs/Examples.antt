-- Examples of words, of the calendar, of values with a distance on either side and of patterns, each with what is expected. The cases stand in the tables.
-- Assumes nothing.
use mathlib.Core.Bool.{Bool, false, not, ◌&&◌}
use Rattle.std.specs.Prelude.{Option, None, Some}
use mathlib.Core.List.{List, [], ◌∷◌}
use Prim.Native.Nat.{ℕ}
use lib.Dec.{eqb}
use Rattle.lexis.specs.Runs.{same}
use Rattle.lexis.proofs.Tables.{or_nothing}
use Rattle.lexis.proofs.Examples.{agree}
use Rattle.values.specs.Integers.{integer_of, Pair, inside, around, twos_complement}
use Rattle.values.specs.Calendar.{leap, month_days, real, day_after, day_before}
use Rattle.values.specs.Dates.{date_of}
use Rattle.values.specs.declared.dates.Date.{Date}
use Rattle.values.specs.Times.{time_of}
use Rattle.values.specs.Durations.{duration_of}
use Rattle.values.specs.Patterns.{fits_date, fits_time, fits_duration}
use Rattle.values.specs.Words.{boolean_of, good}

-- a date as the tables spell it: how many of its parts are there, and the day
abbrev pub date : ℕ → ℕ → Date
date parts day = record { parts = parts; day = day }

abbrev pub date_list : Option Date → List ℕ
date_list None = []
date_list (Some d) = d.parts ∷ d.day ∷ []

-- a word, what it reads as, and whether it is good
pub data WordCase : Type 0 where
  reads : (word : List ℕ) (boolean integer : Option ℕ) (date : Option Date) (time duration : Option ℕ) (good : Bool)
      → WordCase

unfoldable pub word_right : WordCase → Bool
word_right (reads w b i d t u answer) =
    same (or_nothing (boolean_of w)) (or_nothing b)
    && same (or_nothing (integer_of w)) (or_nothing i)
    && same (date_list (date_of w)) (date_list d)
    && same (or_nothing (time_of w)) (or_nothing t)
    && same (or_nothing (duration_of w)) (or_nothing u)
    && agree (good w) answer

-- numbers of the calendar, values with a distance on either side, and the ends of the ranges
pub data NumberCase : Type 0 where
  leap_is : (year : ℕ) (answer : Bool) → NumberCase
  days_are : (year month days : ℕ) → NumberCase
  real_is : (packed : ℕ) (answer : Bool) → NumberCase
  follows precedes : (day other : ℕ) → NumberCase
  spreads : (value distance : ℕ) (ends : Option Pair) → NumberCase
  bits_are : (value bits : ℕ) → NumberCase
  end_is : (end value : ℕ) → NumberCase

abbrev pub spread_right : ℕ → ℕ → Option Pair → Bool
spread_right a d None = not (inside a d)
spread_right a d (Some p) = inside a d && eqb (around a d).low p.low && eqb (around a d).high p.high

unfoldable pub number_right : NumberCase → Bool
number_right (leap_is y answer) = agree (leap y) answer
number_right (days_are y m days) = eqb (month_days y m) days
number_right (real_is p answer) = agree (real p) answer
number_right (follows p q) = eqb (day_after p) q
number_right (precedes p q) = eqb (day_before p) q
number_right (spreads a d ends) = spread_right a d ends
number_right (bits_are x bits) = eqb (twos_complement x) bits
number_right (end_is end value) = eqb end value

-- a pattern's flag, a word, and whether the word is a date or a time that the pattern admits
pub data PatternCase : Type 0 where
  date_fits time_fits duration_fits : (flag : ℕ) (word : List ℕ) (answer : Bool) → PatternCase

abbrev pub date_admitted : ℕ → Option Date → Bool
date_admitted flag None = false
date_admitted flag (Some d) = fits_date flag d.parts

abbrev pub time_admitted : ℕ → Option ℕ → Bool
time_admitted flag None = false
time_admitted flag (Some parts) = fits_time flag parts

abbrev pub duration_admitted : ℕ → Option ℕ → Bool
duration_admitted flag None = false
duration_admitted flag (Some filled) = fits_duration flag filled

unfoldable pub pattern_right : PatternCase → Bool
pattern_right (date_fits flag w answer) = agree (date_admitted flag (date_of w)) answer
pattern_right (time_fits flag w answer) = agree (time_admitted flag (time_of w)) answer
pattern_right (duration_fits flag w answer) = agree (duration_admitted flag (duration_of w)) answer
