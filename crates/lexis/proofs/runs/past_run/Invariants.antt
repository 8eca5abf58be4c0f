-- The loops of `lexis::runs::past_run`. Assumes nothing.
use Rattle.lexis.proofs.RunSteps.{InRun}
use Rattle.lexis.proofs.runs.past_run.Given as goal

abbrev pub invariant-loop-at : goal.invariant-loop-at
invariant-loop-at g l = InRun g.C.Class.test l.s l.from l.at
