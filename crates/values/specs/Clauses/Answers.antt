-- What the code's answers stand for: numbers with the room that they take, and the parts of definitions that have a function of their own. Assumes
-- nothing.
use Rattle.std.specs.Prelude.{◌≡◌, Bool, cond, ◌&&◌, ◌||◌, List, ℕ, ◌-◌, ◌≤◌, ◌<◌, leb, length, drop}
use Rattle.std.specs.Prelude.{Option, None, Some}
use Rattle.lexis.specs.Text.{byte, bytes}
use Rattle.lexis.specs.Bytes.{is, digit}
use Rattle.lexis.specs.Runs.{all}
use Rattle.values.specs.Integers.{value_of, nought, plain}
use Rattle.values.specs.Dates.{exactly, digits_at}
use Rattle.values.specs.Times.{east, west, zone, hours, minutes, seconds}

-- what a byte counts as a digit
pub record DigitIs (b r : ℕ) : Type 0 where
  pub is : r ≡ b - byte "0"
  pub fits : r < 256

-- the number that n digits spell from a place on; other bytes in their place do not take it past `most` either
pub record DigitsAre (w : List ℕ) (at n most r : ℕ) : Type 0 where
  pub is : r ≡ digits_at at n w
  pub fits : r ≤ most

-- a number up to the largest distance from 0, spelled by digits behind the number n
unfoldable pub digits_from : ℕ → List ℕ → Option ℕ
digits_from n ds = cond (all (is digit) ds && leb (value_of n ds) nought) (Some (value_of n ds)) None

-- the same, spelled plainly
unfoldable pub plain_number : List ℕ → Option ℕ
plain_number ds = cond (plain ds && leb (value_of 0 ds) nought) (Some (value_of 0 ds)) None

-- at most nine digits, which spell an integer plainly
unfoldable pub short_integer : List ℕ → Bool
short_integer w = plain w && leb (length w) 9

-- a zone with `+`, and one with `-`
abbrev pub east_zone : List ℕ → Bool
east_zone z = (exactly (bytes "+dd") z || exactly (bytes "+dd:dd") z) && east z

abbrev pub west_zone : List ℕ → Bool
west_zone z = (exactly (bytes "-dd") z || exactly (bytes "-dd:dd") z) && west z

-- hh, hh:mm and hh:mm:ss, each with its zone
abbrev pub hour_time : List ℕ → Bool
hour_time w = hours w && zone (drop 2 w)

abbrev pub minute_time : List ℕ → Bool
minute_time w = hours w && minutes w && zone (drop 5 w)

abbrev pub second_time : List ℕ → Bool
second_time w = hours w && minutes w && seconds w && zone (drop 8 w)
