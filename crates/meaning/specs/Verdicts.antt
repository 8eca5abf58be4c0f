-- Verdicts: document 01, 'Numbers of refusal', 20 to 24: a reason, the record that fails and the data place, or valid. Assumes nothing.
use Rattle.std.specs.Prelude.{ℕ}

pub data Verdict : Type 0 where
  valid : Verdict
  fails : (reason number place : ℕ) → Verdict
