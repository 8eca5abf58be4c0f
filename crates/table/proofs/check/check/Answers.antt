-- `table::check::check` meets its contract. Assumes nothing.
use Rattle.table.proofs.CheckSteps.{check_steps}
use borrow.Author.Rules.{rules}
use Rattle.table.proofs.check.check.Goals as goal

pub invariant_of-check_records : goal.invariant_of-check_records
invariant_of-check_records c = record { opened = search (check_steps, rules) }
