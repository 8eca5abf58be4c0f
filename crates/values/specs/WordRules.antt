-- What a word says, as rules. Document 01, 'Constraint text': "An integer is spelled without needless zeros, isn't `-0`, and lies in -2,147,483,648..2,147,483,647"; 'Data text': "it is good
-- if it reads as at least one of: True or False; an integer; a date `yyyy`, `yyyy-mm` or `yyyy-mm-dd`; a time `hh`, `hh:mm` or `hh:mm:ss` with optional zone. Hours 00..23 (002: 24:00:00
-- nowhere), minutes and seconds 00..59. Zone: `Z`, or sign and two digits, alone or with `:` and two more digits; hours to 13 after `+`, to 12 after `-`, minutes 00..59; nought is never
-- `-`."; document 02, 1: "A duration word, good too, is an optional `-`, P and slots in that order .. A value is admitted when each slot it fills is in the pattern". Proved one with boolean_of,
-- integer_of, date_of, zone, time_of, duration_of, good, fits_duration. Assumes nothing.
use Rattle.std.specs.Prelude.{◌≡◌, ◌≢◌, List, [], ◌∷◌, ◌++◌, ℕ, suc, ◌+◌, ◌*◌, ◌-◌, ◌≤◌, ◌<◌, length}
use Rattle.lexis.specs.Text.{byte, bytes}
use Rattle.lexis.specs.DurationRules.{SlotsBehindP, DigitsAndLetter}
use Rattle.values.specs.declared.dates.Date.{Date}
use Rattle.values.specs.Days.{IsDay}

-- True is 1 and False 2, as in the flag of kind 3 ('Table')
pub data IsBoolean : List ℕ → ℕ → Type 0 where
  is_true : IsBoolean (bytes "True") 1
  is_false : IsBoolean (bytes "False") 2

-- digits and the number that they spell
pub data DigitsSay : List ℕ → ℕ → Type 0 where
  none : DigitsSay [] 0
  further : {w : List ℕ} {n d : ℕ} → DigitsSay w n → d ≤ 9 → DigitsSay (w ++ ((byte "0" + d) ∷ [])) (n * 10 + d)

-- one digit or more, and no needless zero in front
pub data PlainNumber : List ℕ → ℕ → Type 0 where
  nought : PlainNumber (bytes "0") 0
  other : {b n : ℕ} {w : List ℕ} → b ≢ byte "0" → DigitsSay (b ∷ w) n → PlainNumber (b ∷ w) n

-- an integer, as its distance from -2,147,483,648
pub data IsInteger : List ℕ → ℕ → Type 0 where
  not_negative : {w : List ℕ} {n : ℕ} → PlainNumber w n → n ≤ 2_147_483_647 → IsInteger w (2_147_483_648 + n)
  negative : {w : List ℕ} {n : ℕ} → PlainNumber w n → 1 ≤ n → n ≤ 2_147_483_648
      → IsInteger (byte "-" ∷ w) (2_147_483_648 - n)

-- so many digits, and the number that they spell
pub data Fixed (size : ℕ) : List ℕ → ℕ → Type 0 where
  fixed : {w : List ℕ} {n : ℕ} → length w ≡ size → DigitsSay w n → Fixed size w n

-- a date, how many of its parts are there, and its day, packed, with 1 for a part that is not there
pub data IsDate : List ℕ → Date → Type 0 where
  year : {y : List ℕ} {year : ℕ} → Fixed 4 y year → IsDay year 1 1
      → IsDate y (record { parts = 1; day = year * 10_000 + 1 * 100 + 1 })
  month : {y m : List ℕ} {year month : ℕ} → Fixed 4 y year → Fixed 2 m month → IsDay year month 1
      → IsDate (y ++ (byte "-" ∷ m)) (record { parts = 2; day = year * 10_000 + month * 100 + 1 })
  day : {y m d : List ℕ} {year month day : ℕ} → Fixed 4 y year → Fixed 2 m month → Fixed 2 d day → IsDay year month day
      → IsDate (y ++ (byte "-" ∷ (m ++ (byte "-" ∷ d)))) (record { parts = 3; day = year * 10_000 + month * 100 + day })

-- two digits of a number that is at most so much
pub data UpTo (most : ℕ) : List ℕ → ℕ → Type 0 where
  up_to : {w : List ℕ} {n : ℕ} → Fixed 2 w n → n ≤ most → UpTo most w n

-- a zone, or none
pub data IsZone : List ℕ → Type 0 where
  none : IsZone []
  utc : IsZone (bytes "Z")
  east_hours : {h : List ℕ} {hours : ℕ} → UpTo 13 h hours → IsZone (byte "+" ∷ h)
  east : {h m : List ℕ} {hours minutes : ℕ} → UpTo 13 h hours → UpTo 59 m minutes
      → IsZone (byte "+" ∷ (h ++ (byte ":" ∷ m)))
  west_hours : {h : List ℕ} {hours : ℕ} → UpTo 12 h hours → hours ≢ 0 → IsZone (byte "-" ∷ h)
  west : {h m : List ℕ} {hours minutes : ℕ} → UpTo 12 h hours → UpTo 59 m minutes → hours + minutes ≢ 0
      → IsZone (byte "-" ∷ (h ++ (byte ":" ∷ m)))

-- a time, and how many of its parts are there
pub data IsTime : List ℕ → ℕ → Type 0 where
  hour : {h z : List ℕ} {hours : ℕ} → UpTo 23 h hours → IsZone z → IsTime (h ++ z) 1
  minute : {h m z : List ℕ} {hours minutes : ℕ} → UpTo 23 h hours → UpTo 59 m minutes → IsZone z
      → IsTime (h ++ (byte ":" ∷ (m ++ z))) 2
  second : {h m s z : List ℕ} {hours minutes seconds : ℕ} → UpTo 23 h hours → UpTo 59 m minutes → UpTo 59 s seconds
      → IsZone z
      → IsTime (h ++ (byte ":" ∷ (m ++ (byte ":" ∷ (s ++ z))))) 3

-- a duration, and the slots that it fills
pub data IsDuration : List ℕ → (flag : ℕ) → Type 0 where
  unsigned : {w : List ℕ} {flag : ℕ} → SlotsBehindP DigitsAndLetter w flag → IsDuration w flag
  signed : {w : List ℕ} {flag : ℕ} → SlotsBehindP DigitsAndLetter w flag → IsDuration (byte "-" ∷ w) flag

-- the flag has the bit with that number, counted from 0
pub data HasBit : (flag bit : ℕ) → Type 0 where
  lowest : (half : ℕ) → HasBit (half * 2 + 1) 0
  of_even : {half bit : ℕ} → HasBit half bit → HasBit (half * 2) (suc bit)
  of_odd : {half bit : ℕ} → HasBit half bit → HasBit (half * 2 + 1) (suc bit)

-- each slot that is filled is in the pattern
pub record SlotsWithin (pattern filled : ℕ) : Type 0 where
  pub within : (bit : ℕ) → bit < 7 → HasBit filled bit → HasBit pattern bit

-- a good word reads as at least one of these
pub data IsGood (w : List ℕ) : Type 0 where
  boolean : {b : ℕ} → IsBoolean w b → IsGood w
  integer : {v : ℕ} → IsInteger w v → IsGood w
  date : {d : Date} → IsDate w d → IsGood w
  time : {parts : ℕ} → IsTime w parts → IsGood w
  duration : {flag : ℕ} → IsDuration w flag → IsGood w
