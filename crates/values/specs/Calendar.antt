-- The calendar. Document 01, 'Constraint text': "Gregorian months; leap years by 4, not 100, yet 400"; a missing end is "0000-01-01 and 9999-12-31
-- for dates"; 'Table', kind 7: "year×10,000+month×100+day". The order of dates is the order of the numbers so packed. Assumes nothing.
use Rattle.std.specs.Prelude.{Bool, cond, not, ◌&&◌, ◌||◌, List, [], ◌∷◌, ℕ, ◌+◌, ◌*◌, ◌-◌, ◌/◌, ◌%◌, eqb, leb, ltb, get_or}

unfoldable pub leap : ℕ → Bool
leap y = eqb (y % 4) 0 && (not (eqb (y % 100) 0) || eqb (y % 400) 0)

-- January to December
abbrev pub months : List ℕ
months = 31 ∷ 28 ∷ 31 ∷ 30 ∷ 31 ∷ 30 ∷ 31 ∷ 31 ∷ 30 ∷ 31 ∷ 30 ∷ 31 ∷ []

-- the days of a month; a month that is none has no day
unfoldable pub month_days : ℕ → ℕ → ℕ
month_days y m = cond (eqb m 2 && leap y) 29 (get_or (0 ∷ months) m 0)

-- the numbers that a packed date holds
abbrev pub year_of : ℕ → ℕ
year_of p = p / 10_000

abbrev pub month_of : ℕ → ℕ
month_of p = p / 100 % 100

abbrev pub day_of : ℕ → ℕ
day_of p = p % 100

abbrev pub packed : ℕ → ℕ → ℕ → ℕ
packed y m d = y * 10_000 + m * 100 + d

-- the day is one of the calendar, up to 9999-12-31
unfoldable pub real : ℕ → Bool
real p = leb p 99_991_231 && leb 1 (day_of p) && leb (day_of p) (month_days (year_of p) (month_of p))

abbrev pub first_day : ℕ
first_day = packed 0 1 1

abbrev pub last_day : ℕ
last_day = packed 9999 12 31

-- the next calendar day
unfoldable pub day_after : ℕ → ℕ
day_after p =
    cond (ltb (day_of p) (month_days (year_of p) (month_of p))) (p + 1)
    (cond (ltb (month_of p) 12) (packed (year_of p) (month_of p + 1) 1) (packed (year_of p + 1) 1 1))

-- the calendar day before, of a day after 0000-01-01
unfoldable pub day_before : ℕ → ℕ
day_before p =
    cond (ltb 1 (day_of p)) (p - 1)
    (cond (ltb 1 (month_of p)) (packed (year_of p) (month_of p - 1) (month_days (year_of p) (month_of p - 1)))
    (packed (year_of p - 1) 12 31))
