-- All faults of a data text of at most so many levels: those that parsing it finds, up to its first syntax fault. Assumes nothing.
use Rattle.std.specs.Prelude.{List, ℕ}
use Rattle.refusals.specs.declared.Refusal.{Refusal}
use Rattle.refusals.specs.Parsing.{faults_in}
use Rattle.dadl.specs.Data.{data_text}

unfoldable pub faults : ℕ → List ℕ → List Refusal
faults levels s = faults_in (data_text levels s)
