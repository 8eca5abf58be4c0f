-- `dadl::names::name_from` meets its contract. Assumes nothing.
use Rattle.dadl.proofs.NameSteps.{name_unclosed, name_closed}
use Rattle.dadl.proofs.names.name_from.Goals as goal

pub returns-in_err-equals : goal.returns-in_err-equals
returns-in_err-equals c = search (name_unclosed, c.in_err-equals.was, c.from_residual.ensures.1)

pub returns : goal.returns
returns c = search (name_closed, c.in_ok-equals.was)
