-- How a value stands to a leaf. Document 01, 'Numbers of refusal', 20: "leaf unreadable as the kind asked", 24: "value not admitted". Assumes nothing.
use Rattle.std.specs.Prelude.{Bool, cond}
use Rattle.std.specs.Prelude.{Option, None, Some}

-- the value is not of the kind asked, is not admitted, or is
pub data Finding : Type 0 where
  unsuited refuted admitted : Finding

abbrev pub found : Bool → Finding
found good = cond good admitted refuted

-- the value, if it reads as the kind asked, is tried
abbrev pub try : {A : Type 0} → Option A → (A → Bool) → Finding
try None test = unsuited
try (Some a) test = found (test a)
