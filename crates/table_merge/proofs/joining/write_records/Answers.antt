-- `table_merge::joining::write_records` meets its contract. Assumes nothing.
use borrow.Author.Rules.{rules}
use Rattle.table_merge.proofs.JoinSteps.{join_steps}
use Rattle.table_merge.proofs.joining.write_records.Goals as goal

pub copy_records-requires : goal.copy_records-requires
copy_records-requires c = search (join_steps, rules)

pub copy_records-requires-2 : goal.copy_records-requires-2
copy_records-requires-2 c = search (join_steps, rules)

pub returns : goal.returns
returns c = search (join_steps, rules)
