-- `dadl::tokens::typed_opening` meets its contract. Assumes nothing.
use Rattle.dadl.proofs.TokenSteps.{typed_bad, less_missing}
use Rattle.dadl.proofs.tokens.typed_opening.Goals as goal

pub returns-in_err-named : goal.returns-in_err-named
returns-in_err-named c = search (typed_bad, c.in_err-named.was, c.from_residual.ensures.1)

pub returns-in_err-less : goal.returns-in_err-less
returns-in_err-less c = search (less_missing, c.in_ok-named.was, c.in_err-less.was, c.from_residual-in_err-less.ensures.1)
