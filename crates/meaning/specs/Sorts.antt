-- What belongs to each sort of leaf, a row for each: the kind of its records, its flags or how its ends stand in a record, and how it reads a word. Document 01, 'Table', the table
-- of kinds; 'Meaning': "Lists admit a value in some item; a date interval admits full dates only. Patterns: lettered parts must be there, `??` may, `XX` may not .. the zone is free";
-- document 02, 1: "A value is admitted when each slot it fills is in the pattern .. New kind 9; .. the flag is 1 to 127".
-- Assumes nothing.
use Rattle.std.specs.Prelude.{Bool, false, ◌&&◌, ◌||◌, List, [], ◌∷◌, ℕ, eqb, leb}
use Rattle.values.specs.Integers.{integer_of, twos_complement}
use Rattle.values.specs.Dates.{date_of}
use Rattle.values.specs.Times.{time_of}
use Rattle.values.specs.Durations.{duration_of}
use Rattle.values.specs.Patterns.{fits_date, fits_time, fits_duration}
use Rattle.values.specs.Words.{boolean_of}
use Rattle.meaning.specs.Constraints.{Range, SingleSort, booleans, date_pattern, time_pattern, duration_pattern, RangeSort, integers, dates}
use Rattle.meaning.specs.Findings.{Finding, try}

-- the flag of Booleans has True as 1 and False as 2
abbrev pub in_flag : ℕ → ℕ → Bool
in_flag flag v = eqb flag v || eqb flag 3

abbrev pub in_range : ℕ → Range → Bool
in_range v x = leb x.low v && leb v x.high

unfoldable pub in_some : ℕ → List Range → Bool
in_some v [] = false
in_some v (x ∷ xs) = in_range v x || in_some v xs

-- the kind of its record, whose flags go from 1 to the greatest, and how a word stands to a flag
pub record SingleRow : Type 0 where
  pub kind : ℕ
  pub greatest : ℕ
  pub under : ℕ → List ℕ → Finding

abbrev pub single_row : SingleSort → SingleRow
single_row booleans = record { kind = 3; greatest = 3; under = λ flag w. try (boolean_of w) (in_flag flag) }
single_row date_pattern =
    record { kind = 6; greatest = 5; under = λ flag w. try (date_of w) (λ d. fits_date flag d.parts) }
single_row time_pattern = record { kind = 8; greatest = 4; under = λ flag w. try (time_of w) (fits_time flag) }
single_row duration_pattern =
    record { kind = 9; greatest = 127; under = λ flag w. try (duration_of w) (fits_duration flag) }

-- the kind of its records, an end as a record has it, which is also the way back, and how a word stands to the items
pub record RangeRow : Type 0 where
  pub kind : ℕ
  pub end : ℕ → ℕ
  pub under : List Range → List ℕ → Finding

abbrev pub range_row : RangeSort → RangeRow
range_row integers = record { kind = 4; end = twos_complement; under = λ l w. try (integer_of w) (λ v. in_some v l) }
range_row dates =
    record { kind = 7; end = λ x. x; under = λ l w. try (date_of w) (λ d. eqb d.parts 3 && in_some d.day l) }

-- the kind of the records of strings
abbrev pub text_kind : ℕ
text_kind = 5
