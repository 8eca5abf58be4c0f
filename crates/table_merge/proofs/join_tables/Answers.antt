-- `table_merge::join_tables` meets its contract. Assumes nothing.
use borrow.Author.Rules.{rules}
use Rattle.table_merge.proofs.MergeSteps.{merge_steps, join_large}
use Rattle.table_merge.proofs.join_tables.Goals as goal

pub returns-then-count-gt-RECORD_MOST : goal.returns-then-count-gt-RECORD_MOST
returns-then-count-gt-RECORD_MOST c = search (merge_steps, rules)

pub returns-then-pool-gt-POOL_MOST : goal.returns-then-pool-gt-POOL_MOST
returns-then-pool-gt-POOL_MOST c = search (join_large, rules)

pub returns-then-out-length : goal.returns-then-out-length
returns-then-out-length c = search (merge_steps, rules)

pub returns : goal.returns
returns c = search (merge_steps, rules)
