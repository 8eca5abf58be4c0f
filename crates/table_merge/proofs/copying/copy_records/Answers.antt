-- `table_merge::copying::copy_records` meets its contract. Assumes nothing.
use borrow.Author.Rules.{rules}
use Rattle.table_merge.proofs.CopySteps.{copy_steps}
use Rattle.table_merge.proofs.copying.copy_records.Goals as goal

pub loop-n-preserved : goal.loop-n-preserved
loop-n-preserved c = search (copy_steps, rules)
