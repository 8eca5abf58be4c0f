-- `dadl::read_data` meets its contract. Assumes nothing.
use Rattle.dadl.proofs.DataSteps.{data_shut, data_refused, data_endless}
use Rattle.dadl.proofs.read_data.Goals as goal

pub returns-in_err-opening : goal.returns-in_err-opening
returns-in_err-opening c = search (data_shut, c.in_err-opening.was, c.from_residual.ensures.1)

pub returns-in_err-rows : goal.returns-in_err-rows
returns-in_err-rows c = search (data_refused, c.in_ok-opening.was, c.in_err-rows.was, c.from_residual-in_err-rows.ensures.1)

pub returns-in_err-last : goal.returns-in_err-last
returns-in_err-last c = search (data_endless, c.in_ok-opening.was, c.in_ok-rows.was, c.in_err-last.was, c.from_residual-in_err-last.ensures.1)
