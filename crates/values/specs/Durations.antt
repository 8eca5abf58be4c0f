-- Durations. Document 02, 1: "A duration word, good too, is an optional `-`, P and slots in that order, each one to four digits and its letter in either case, at least one slot, T only with a slot
-- behind it". Assumes nothing.
use Rattle.std.specs.Prelude.{cond, List, ℕ, eqb, drop}
use Rattle.std.specs.Prelude.{Option, None, Some}
use Rattle.lexis.specs.Text.{byte}
use Rattle.lexis.specs.Runs.{byte_at}
use Rattle.lexis.specs.Durations.{digit_slot, slots_of}

-- the sign is free
abbrev pub behind_sign : List ℕ → List ℕ
behind_sign w = cond (eqb (byte_at w 0) (byte "-")) (drop 1 w) w

abbrev pub slots_if : ℕ → Option ℕ
slots_if flag = cond (eqb flag 0) None (Some flag)

-- the slots that a duration word fills, as a flag: bits 0 to 6 are y m w d h m s
unfoldable pub duration_of : List ℕ → Option ℕ
duration_of w = slots_if (slots_of digit_slot (behind_sign w))
