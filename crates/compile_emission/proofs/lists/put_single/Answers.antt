-- `compile_emission::lists::put_single` meets its contract. Assumes nothing.
use Rattle.compile_emission.proofs.WritingSteps.{single_put}
use Rattle.compile_emission.proofs.lists.put_single.Goals as goal

pub returns : goal.returns
returns c = search single_put
