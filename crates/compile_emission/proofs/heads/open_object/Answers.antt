-- `compile_emission::heads::open_object` meets its contract. Assumes nothing.
use Rattle.compile_emission.proofs.HeadWriting.{object_put}
use Rattle.compile_emission.proofs.heads.open_object.Goals as goal

pub returns : goal.returns
returns c = search object_put
