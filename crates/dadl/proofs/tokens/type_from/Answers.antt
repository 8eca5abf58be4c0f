-- `dadl::tokens::type_from` meets its contract. Assumes nothing.
use Rattle.dadl.proofs.TokenSteps.{type_closed, type_unclosed}
use Rattle.dadl.proofs.tokens.type_from.Goals as goal

pub returns-in_err-close : goal.returns-in_err-close
returns-in_err-close c = search (type_unclosed, c.in_err-close.was, c.from_residual.ensures.1)

pub returns : goal.returns
returns c = search (type_closed, c.in_ok-close.was)
