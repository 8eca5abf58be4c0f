-- The loop of `table::check::check_records`. Assumes nothing.
use Rattle.table.proofs.CheckSteps.{Reached}
use Rattle.table.proofs.check.check_records.Given as goal

abbrev pub invariant-loop-n : goal.invariant-loop-n
invariant-loop-n l = Reached l.table.bytes.now l.table.frame l.n
