-- The loops of `judge_admission::in_some`. Assumes nothing.
use Rattle.judge_admission.proofs.ItemSteps.{InRanges, left}
use Rattle.judge_admission.proofs.in_some.Given as goal

abbrev pub invariant-loop-n : goal.invariant-loop-n
invariant-loop-n g l = InRanges l.records g.E.Ends.sort l.value l.initial.n l.n

abbrev pub decreases-loop-n : goal.decreases-loop-n
decreases-loop-n g l = left l.records l.n
