-- The loops of `lexis::runs::token_start`. Assumes nothing.
use Rattle.lexis.proofs.RunSteps.{InBlanks}
use Rattle.lexis.proofs.runs.token_start.Given as goal

abbrev pub invariant-loop-at : goal.invariant-loop-at
invariant-loop-at l = InBlanks l.s l.from l.at l.inside
