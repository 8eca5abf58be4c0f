-- Times and zones. Document 01, 'Data text': "a time `hh`, `hh:mm` or `hh:mm:ss` with optional zone. Hours 00..23 (002: 24:00:00 nowhere), minutes and
-- seconds 00..59. Zone: `Z`, or sign and two digits, alone or with `:` and two more digits; hours to 13 after `+`, to 12 after `-`, minutes 00..59;
-- nought is never `-`." Assumes nothing.
use Rattle.std.specs.Prelude.{Bool, cond, ◌&&◌, ◌||◌, List, ℕ, ◌+◌, eqb, leb, length, drop}
use Rattle.std.specs.Prelude.{Option, None, Some}
use Rattle.lexis.specs.Text.{bytes}
use Rattle.lexis.specs.Runs.{same, shaped}
use Rattle.values.specs.Dates.{exactly, digits_at}

-- hours and minutes of a zone, 0 where no minutes are spelled
abbrev pub zone_hours : List ℕ → ℕ
zone_hours z = digits_at 1 2 z

abbrev pub zone_minutes : List ℕ → ℕ
zone_minutes z = digits_at 4 2 z

abbrev pub east : List ℕ → Bool
east z = leb (zone_hours z) 13 && leb (zone_minutes z) 59

abbrev pub west : List ℕ → Bool
west z = leb (zone_hours z) 12 && leb (zone_minutes z) 59 && leb 1 (zone_hours z + zone_minutes z)

-- there is no zone, or a good one
unfoldable pub zone : List ℕ → Bool
zone z =
    eqb (length z) 0
    || same (bytes "Z") z
    || (exactly (bytes "+dd") z || exactly (bytes "+dd:dd") z) && east z
    || (exactly (bytes "-dd") z || exactly (bytes "-dd:dd") z) && west z

abbrev pub hours : List ℕ → Bool
hours w = leb (digits_at 0 2 w) 23

abbrev pub minutes : List ℕ → Bool
minutes w = leb (digits_at 3 2 w) 59

abbrev pub seconds : List ℕ → Bool
seconds w = leb (digits_at 6 2 w) 59

abbrev pub good_time : Bool → ℕ → Option ℕ
good_time good parts = cond good (Some parts) None

-- how many of hours, minutes and seconds a word spells: where `:` and two digits go on, they are the next part
unfoldable pub time_of : List ℕ → Option ℕ
time_of w =
    cond (shaped (bytes "dd:dd:dd") w) (good_time (hours w && minutes w && seconds w && zone (drop 8 w)) 3)
    (cond (shaped (bytes "dd:dd") w) (good_time (hours w && minutes w && zone (drop 5 w)) 2)
    (cond (shaped (bytes "dd") w) (good_time (hours w && zone (drop 2 w)) 1) None))
