-- What the checker opens to compute with the definitions of this crate and those below. Assumes nothing.
use Rattle.table.proofs.Computes.{table_computes}
use Rattle.table_merge.specs.Joining.{merged}
use Rattle.table_merge.specs.Merge.{join, merge_answer}
use Rattle.table_merge.specs.Lists.{after_step}

unfoldable pub merge_computes : Unit {0}
unfolding table_computes merged join merge_answer after_step
merge_computes = tt
