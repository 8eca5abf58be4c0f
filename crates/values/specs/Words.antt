-- Words. Document 01, 'Data text': "A word is read as the constraint's kind asks; it is good if it reads as at least one of: True or False; an integer;
-- a date ..; a time .."; document 02, 1: "A duration word, good too". Assumes nothing.
use Rattle.std.specs.Prelude.{Bool, true, false, cond, ◌||◌, List, ℕ}
use Rattle.std.specs.Prelude.{Option, None, Some}
use Rattle.lexis.specs.Text.{bytes}
use Rattle.lexis.specs.Runs.{same}
use Rattle.values.specs.Integers.{integer_of}
use Rattle.values.specs.Dates.{date_of}
use Rattle.values.specs.Times.{time_of}
use Rattle.values.specs.Durations.{duration_of}

-- True is 1 and False 2, as in the flag of kind 3 ('Table')
unfoldable pub boolean_of : List ℕ → Option ℕ
boolean_of w = cond (same (bytes "True") w) (Some 1) (cond (same (bytes "False") w) (Some 2) None)

abbrev pub reads : {A : Type 0} → Option A → Bool
reads None = false
reads (Some a) = true

unfoldable pub good : List ℕ → Bool
good w =
    reads (boolean_of w) || reads (integer_of w) || reads (date_of w) || reads (time_of w) || reads (duration_of w)
