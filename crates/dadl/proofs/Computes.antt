-- What the checker opens to compute with the definitions of this crate and those below. Assumes nothing.
use Rattle.values.proofs.Computes.{values_compute}
use Rattle.refusals.specs.Refusals.{number_of}
use Rattle.dadl.specs.Data.{expect_data, type_from, leaf_from, typed, content_from, name_from, members, deeper_block, block_from, outermost, datum_alone, data_text, block_of, datum_of}
use Rattle.dadl.specs.Placed.{spelled_block}

unfoldable pub data_computes : Unit {0}
unfolding values_compute number_of expect_data type_from leaf_from typed content_from name_from members deeper_block block_from outermost datum_alone data_text block_of datum_of spelled_block
data_computes = tt
