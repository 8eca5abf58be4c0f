-- Patterns by their flags. Document 01, 'Constraint text': "Date patterns: yyyy-mm-dd, yyyy-mm-??, yyyy-??-??, yyyy-mm-XX, yyyy-??-XX. Time patterns:
-- Thh:mm:ss, Thh:mm:XX, Thh:??:XX, Thh:??:??", with flags 1..5 and 1..4 as listed ('Table'); 'Meaning': "lettered parts must be there, `??` may,
-- `XX` may not, and no part without the one before it"; document 02, 1: "A value is admitted when each slot it fills is in the pattern". Assumes nothing.
use Rattle.std.specs.Prelude.{Bool, true, false, cond, ◌&&◌, ◌||◌, List, [], ◌∷◌, ℕ, zero, suc, ◌-◌, ◌/◌, ◌%◌, eqb, get_or}

pub data Part : Type 0 where
  must may must_not : Part

-- year, month, day
abbrev pub date_patterns : List (List Part)
date_patterns =
    (must ∷ must ∷ must ∷ [])
    ∷ (must ∷ must ∷ may ∷ [])
    ∷ (must ∷ may ∷ may ∷ [])
    ∷ (must ∷ must ∷ must_not ∷ [])
    ∷ (must ∷ may ∷ must_not ∷ [])
    ∷ []

-- hour, minute, second
abbrev pub time_patterns : List (List Part)
time_patterns =
    (must ∷ must ∷ must ∷ [])
    ∷ (must ∷ must ∷ must_not ∷ [])
    ∷ (must ∷ may ∷ must_not ∷ [])
    ∷ (must ∷ may ∷ may ∷ [])
    ∷ []

-- a part that is there, or isn't, under what the pattern says of it
abbrev pub suits : Part → Bool → Bool
suits must there = there
suits may there = true
suits must_not true = false
suits must_not false = true

-- a value that has its first n parts, part by part
unfoldable pub fits : List Part → ℕ → Bool
fits [] n = eqb n 0
fits (p ∷ ps) n = suits p (cond (eqb n 0) false true) && fits ps (n - 1)

-- by the pattern's flag, counted from 1
unfoldable pub fits_date : ℕ → ℕ → Bool
fits_date flag parts = fits (get_or ([] ∷ date_patterns) flag []) parts

unfoldable pub fits_time : ℕ → ℕ → Bool
fits_time flag parts = fits (get_or ([] ∷ time_patterns) flag []) parts

-- a slot, by the lowest bit of what a value fills and of the pattern
abbrev pub slot_fits : ℕ → ℕ → Bool
slot_fits pattern filled = eqb (filled % 2) 0 || eqb (pattern % 2) 1

-- slot by slot, so many of them, from the lowest bit on
unfoldable pub slots_fit : ℕ → ℕ → ℕ → Bool
slots_fit zero pattern filled = true
slots_fit (suc slots) pattern filled = slot_fits pattern filled && slots_fit slots (pattern / 2) (filled / 2)

-- the slots y m w d h m s
unfoldable pub fits_duration : ℕ → ℕ → Bool
fits_duration pattern filled = slots_fit 7 pattern filled
