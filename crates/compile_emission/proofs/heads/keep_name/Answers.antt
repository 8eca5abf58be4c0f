-- `compile_emission::heads::keep_name` meets its contract. Assumes nothing.
use Rattle.compile_emission.proofs.HeadWriting.{name_kept}
use Rattle.compile_emission.proofs.heads.keep_name.Goals as goal

pub returns : goal.returns
returns c = search name_kept
