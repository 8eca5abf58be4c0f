-- What the checker opens to compute with the definitions of this crate and those below. Assumes nothing.
use Rattle.cadl_items.proofs.Computes.{items_compute}
use Rattle.meaning.specs.Counting.{object_records, object_pool, object_numbers}
use Rattle.cadl_objects.specs.Existence.{opening, from_nought, from_one, bounds, existence_from}
use Rattle.cadl_objects.specs.Objects.{object_type, object_code, attribute_name, attribute_from, attributes, object_from}
use Rattle.cadl_objects.specs.Texts.{object_alone, constraint_text, constraint_of}
use Rattle.cadl_objects.specs.Clauses.Told

unfoldable pub constraint_computes : Unit {0}
unfolding items_compute object_records object_pool object_numbers opening from_nought from_one bounds existence_from object_type object_code attribute_name attribute_from attributes object_from object_alone constraint_text constraint_of Told.object_from
constraint_computes = tt
