-- `table::names::name` meets its contract. Assumes nothing.
use Rattle.table.proofs.NameSteps.{name_steps}
use borrow.Author.Rules.{rules}
use Rattle.table.proofs.names.name.Goals as goal

pub slice_bounds-result-end : goal.slice_bounds-result-end
slice_bounds-result-end c = search (name_steps, rules)
