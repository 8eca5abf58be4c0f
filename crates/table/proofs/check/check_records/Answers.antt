-- `table::check::check_records` meets its contract. Assumes nothing.
use Rattle.table.proofs.CheckSteps.{check_steps}
use borrow.Author.Rules.{rules}
use Rattle.table.proofs.check.check_records.Goals as goal

pub returns-then-not-record_right : goal.returns-then-not-record_right
returns-then-not-record_right c = search (check_steps, rules)
