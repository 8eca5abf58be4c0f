-- What the checker opens to compute with the definitions of this crate and those below. Assumes nothing.
use Rattle.cadl_objects.proofs.Computes.{constraint_computes}
use Rattle.meaning.proofs.Computes.{meaning_computes}
use Rattle.table.proofs.Computes.{table_computes}
use Rattle.compile_flatten.specs.Flatten.{object_table, image_of_tree}
use Rattle.compile.specs.Compile.{compile_answer}

unfoldable pub compile_computes : Unit {0}
unfolding constraint_computes meaning_computes table_computes object_table image_of_tree compile_answer
compile_computes = tt
