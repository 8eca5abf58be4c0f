-- How durations are spelled, as rules. Document 02, 1: "P, then any of small y m w d in that order, then optionally T and any of small h m s in that order, at least one letter in all and at
-- least one behind a T"; a duration word has "slots in that order, each one to four digits and its letter in either case, at least one slot, T only with a slot behind it"; "flag bits 0 to 6 are y
-- m w d h m s". Proved one with pattern_slots, slots_of. Assumes nothing.
use Rattle.std.specs.Prelude.{◌≡◌, ◌≢◌, List, [], ◌∷◌, ◌++◌, ℕ, ◌+◌, ◌*◌, ◌≤◌, length}
use Rattle.lexis.specs.Text.{byte, bytes}
use Rattle.lexis.specs.SpellingRules.{Digits}

-- some of these letters' slots in their order, each at most once, and the sum of their bits: the first letter has the bit given, each other twice that before it
pub data SlotsInOrder (Slot : ℕ → List ℕ → Type 0) : (bit : ℕ) → List ℕ → List ℕ → (flag : ℕ) → Type 0 where
  none : {bit : ℕ} → SlotsInOrder Slot bit [] [] 0
  left_out : {bit letter flag : ℕ} {letters w : List ℕ} → SlotsInOrder Slot (bit * 2) letters w flag
      → SlotsInOrder Slot bit (letter ∷ letters) w flag
  filled : {bit letter flag : ℕ} {letters v w : List ℕ} → Slot letter v → SlotsInOrder Slot (bit * 2) letters w flag
      → SlotsInOrder Slot bit (letter ∷ letters) (v ++ w) (bit + flag)

-- P and slots, one at least, and T only with a slot behind it
pub data SlotsBehindP (Slot : ℕ → List ℕ → Type 0) : List ℕ → (flag : ℕ) → Type 0 where
  dates : {w : List ℕ} {flag : ℕ} → SlotsInOrder Slot 1 (bytes "ymwd") w flag → flag ≢ 0
      → SlotsBehindP Slot (byte "P" ∷ w) flag
  times : {w v : List ℕ} {date time : ℕ}
      → SlotsInOrder Slot 1 (bytes "ymwd") w date
      → SlotsInOrder Slot 16 (bytes "hms") v time
      → time ≢ 0
      → SlotsBehindP Slot (byte "P" ∷ (w ++ (byte "T" ∷ v))) (date + time)

-- in a pattern a slot is its letter
pub data LetterAlone (letter : ℕ) : List ℕ → Type 0 where
  letter_alone : LetterAlone letter (letter ∷ [])

-- in a word one to four digits and the letter, small or capital
pub data DigitsAndLetter (letter : ℕ) : List ℕ → Type 0 where
  small : {w : List ℕ} → Digits w → length w ≤ 4 → DigitsAndLetter letter (w ++ (letter ∷ []))
  capital : {w : List ℕ} (b : ℕ) → Digits w → length w ≤ 4 → b + 32 ≡ letter → DigitsAndLetter letter (w ++ (b ∷ []))

-- the Duration pattern with these slots
abbrev pub SpellsPattern : List ℕ → (flag : ℕ) → Type 0
SpellsPattern = SlotsBehindP LetterAlone
