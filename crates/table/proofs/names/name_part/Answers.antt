-- `table::names::name_part` meets its contract. Assumes nothing.
use Rattle.table.proofs.NameSteps.{name_steps}
use borrow.Author.Rules.{rules}
use Rattle.table.proofs.names.name_part.Goals as goal

pub returns : goal.returns
returns c = search (name_steps, rules)
