-- Slots of durations. Document 02, 1: "P, then any of small y m w d in that order, then optionally T and any of small h m s in that order, at least one letter in all and at least one behind a
-- T. A duration word .. is .. P and slots in that order, each one to four digits and its letter in either case, at least one slot, T only with a slot behind it"; "flag bits 0 to 6 are y m w d h
-- m s". One walk reads both: what a slot is, is its argument. Assumes nothing.
use Rattle.std.specs.Prelude.{Bool, cond, ◌&&◌, ◌||◌, List, [], ◌∷◌, ℕ, ◌+◌, ◌*◌, eqb, leb, length, drop}
use Rattle.lexis.specs.Text.{byte, bytes}
use Rattle.lexis.specs.Bytes.{is, digit, within}
use Rattle.lexis.specs.Runs.{past, byte_at}

-- how many bytes the slot of a letter has with which these bytes begin, 0 where they begin with none: in a pattern the letter
unfoldable pub letter_slot : ℕ → List ℕ → ℕ
letter_slot letter [] = 0
letter_slot letter (b ∷ bs) = cond (eqb b letter) 1 0

-- a byte is a small letter, or that letter as a capital
abbrev pub in_either_case : ℕ → ℕ → Bool
in_either_case letter b = eqb b letter || eqb (b + 32) letter

-- behind so many digits: the letter in either case
unfoldable pub letter_behind : ℕ → ℕ → List ℕ → ℕ
letter_behind digits letter [] = 0
letter_behind digits letter (b ∷ bs) = cond (in_either_case letter b) (digits + 1) 0

-- in a word one to four digits and the letter
unfoldable pub digit_slot : ℕ → List ℕ → ℕ
digit_slot letter bs =
    let digits = past (is digit) 0 bs in
    cond (within 1 4 digits) (letter_behind digits letter (drop digits bs)) 0

-- what a walk over slots has come to: the slots filled, as a flag, and the bytes behind them
pub record Filled : Type 0 where
  pub flag : ℕ
  pub rest : List ℕ

abbrev pub filled : ℕ → List ℕ → Filled
filled flag rest = record { flag = flag; rest = rest }

-- the slot of a letter, whose bit is given, where one stands next
unfoldable pub fill : (ℕ → List ℕ → ℕ) → ℕ → ℕ → Filled → Filled
fill slot bit letter x =
    let size = slot letter x.rest in
    cond (eqb size 0) x (filled (x.flag + bit) (drop size x.rest))

-- slots of these letters in this order, each at most once; the first letter has the bit given, each other twice that before it
unfoldable pub fill_all : (ℕ → List ℕ → ℕ) → ℕ → List ℕ → Filled → Filled
fill_all slot bit [] x = x
fill_all slot bit (letter ∷ letters) x = fill_all slot (bit * 2) letters (fill slot bit letter x)

abbrev pub none_left : Filled → Bool
none_left x = eqb (length x.rest) 0

-- behind T: slots, one at least, and the end
unfoldable pub behind_time : (ℕ → List ℕ → ℕ) → ℕ → List ℕ → ℕ
behind_time slot flag bs =
    let x = fill_all slot 16 (bytes "hms") (filled 0 bs) in
    cond (none_left x && leb 1 x.flag) (flag + x.flag) 0

-- behind the slots before T: the end, or T
unfoldable pub behind_date : (ℕ → List ℕ → ℕ) → Filled → ℕ
behind_date slot x =
    cond (none_left x) x.flag
    (cond (eqb (byte_at x.rest 0) (byte "T")) (behind_time slot x.flag (drop 1 x.rest)) 0)

-- P and slots: the slots filled, as a flag; 0 where that is not how the bytes are spelled
unfoldable pub slots_of : (ℕ → List ℕ → ℕ) → List ℕ → ℕ
slots_of slot w =
    cond (eqb (byte_at w 0) (byte "P")) (behind_date slot (fill_all slot 1 (bytes "ymwd") (filled 0 (drop 1 w)))) 0

-- the flag of the Duration pattern that is spelled so, 0 for none
unfoldable pub pattern_slots : List ℕ → ℕ
pattern_slots w = slots_of letter_slot w

-- the sort of a Duration pattern, where a value may stand, is 100 and its flag
abbrev pub duration_pattern : ℕ
duration_pattern = 100
