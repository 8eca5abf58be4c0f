-- The days of the calendar, as rules. Document 01, 'Constraint text': "Gregorian months; leap years by 4, not 100, yet 400"; 'Table', kind 7: "year×10,000+month×100+day", and
-- "dates real, none after 9999-12-31". Proved one with real, leap, month_days. Assumes nothing.
use Rattle.std.specs.Prelude.{◌≡◌, ◌≢◌, ℕ, ◌+◌, ◌*◌, ◌%◌, ◌≤◌}

-- leap years by 4, not 100, yet 400
pub data Leap (year : ℕ) : Type 0 where
  by_four : year % 4 ≡ 0 → year % 100 ≢ 0 → Leap year
  by_four_hundred : year % 400 ≡ 0 → Leap year

-- the days of each month
pub data MonthHas (year : ℕ) : (month days : ℕ) → Type 0 where
  january : MonthHas year 1 31
  february : ¬ Leap year → MonthHas year 2 28
  leap_february : Leap year → MonthHas year 2 29
  march : MonthHas year 3 31
  april : MonthHas year 4 30
  may : MonthHas year 5 31
  june : MonthHas year 6 30
  july : MonthHas year 7 31
  august : MonthHas year 8 31
  september : MonthHas year 9 30
  october : MonthHas year 10 31
  november : MonthHas year 11 30
  december : MonthHas year 12 31

-- a day of the calendar, up to 9999-12-31
pub data IsDay (year month day : ℕ) : Type 0 where
  is_day : {days : ℕ} → year ≤ 9999 → MonthHas year month days → 1 ≤ day → day ≤ days → IsDay year month day

-- a day packed into one number
pub data PackedDay : ℕ → Type 0 where
  packed_day : {year month day : ℕ} → IsDay year month day → PackedDay (year * 10_000 + month * 100 + day)
