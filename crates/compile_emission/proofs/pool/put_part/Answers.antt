-- `compile_emission::pool::put_part` meets its contract. Assumes nothing.
use Rattle.compile_emission.proofs.pool.put_part.Goals as goal

pub returns : goal.returns
returns c = c.copy.ensures
