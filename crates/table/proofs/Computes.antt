-- What the checker opens to compute with the definitions of this crate and those below. Assumes nothing.
use Rattle.values.proofs.Computes.{values_compute}
use Rattle.refusals.specs.Refusals.{number_of}
use Rattle.table.specs.Records.{decode, encode, image_of, bytes_of}
use Rattle.table.specs.Rows.{shape_of}
use Rattle.table.specs.Check.{pair_right, field_right, obeys, clean, broken, framed, table_fault}
use Rattle.table.specs.Names.{name_answer}
use Rattle.table.specs.Trees.{cells_of, trees_of, tree_at}

unfoldable pub table_computes : Unit {0}
unfolding values_compute number_of decode encode image_of bytes_of shape_of pair_right field_right obeys clean broken framed table_fault name_answer cells_of trees_of tree_at
table_computes = tt
