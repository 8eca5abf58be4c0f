-- The loop of `table::copying::copy_bytes`. Assumes nothing.
use Rattle.table.proofs.CopySteps.{InCopy}
use Rattle.table.proofs.copying.copy_bytes.Given as goal

abbrev pub invariant-loop-i : goal.invariant-loop-i
invariant-loop-i l = InCopy l.bytes l.from l.to l.i l.initial.out l.out
