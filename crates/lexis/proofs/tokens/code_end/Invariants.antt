-- The loops of `lexis::tokens::code_end`. Assumes nothing.
use Rattle.lexis.proofs.TokenSteps.{InCode}
use Rattle.lexis.proofs.tokens.code_end.Given as goal

abbrev pub invariant-loop-at : goal.invariant-loop-at
invariant-loop-at l = InCode l.s l.from l.at l.some
