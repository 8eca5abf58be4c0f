-- `table_merge::joining::write_joined` meets its contract. Assumes nothing.
use borrow.Author.Rules.{rules}
use Rattle.table_merge.proofs.JoinSteps.{join_steps}
use Rattle.table_merge.proofs.joining.write_joined.Goals as goal

pub returns : goal.returns
returns c = search (join_steps, rules)
