-- The loop of `table_merge::copying::copy_records`: the records below `n` are written. Assumes nothing.
use Rattle.table_merge.specs.Clauses.Answers.{shifts}
use Rattle.table_merge.proofs.CopySteps.{InCopy}
use Rattle.table_merge.proofs.copying.copy_records.Given as goal

abbrev pub invariant-loop-n : goal.invariant-loop-n
invariant-loop-n l = InCopy l.table l.count (shifts l.records.0 l.pool.0) l.little l.initial.out l.n l.out
