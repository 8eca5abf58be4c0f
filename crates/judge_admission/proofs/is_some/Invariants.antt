-- The loops of `judge_admission::is_some`. Assumes nothing.
use Rattle.judge_admission.proofs.ItemSteps.{InTexts, left}
use Rattle.judge_admission.proofs.is_some.Given as goal

abbrev pub invariant-loop-n : goal.invariant-loop-n
invariant-loop-n l = InTexts l.records l.pool l.value l.initial.n l.n

abbrev pub decreases-loop-n : goal.decreases-loop-n
decreases-loop-n l = left l.records l.n
