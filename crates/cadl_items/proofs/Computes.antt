-- What the checker opens to compute with the definitions of this crate and those below. Assumes nothing.
use Rattle.values.proofs.Computes.{values_compute}
use Rattle.refusals.specs.Refusals.{number_of}
use Rattle.refusals.specs.Expecting.{expect}
use Rattle.cadl_intervals.specs.Intervals.{literal, up_to, above, spread, from, between, interval}
use Rattle.cadl_items.specs.Ranges.{start, ranges}
use Rattle.cadl_items.specs.Strings.{start_string, strings}
use Rattle.cadl_items.specs.Leaves.{second_boolean, boolean_list, leaf}
use Rattle.cadl_items.specs.Clauses.Told

unfoldable pub items_compute : Unit {0}
unfolding values_compute number_of expect literal up_to above spread from between interval start ranges start_string strings second_boolean boolean_list leaf Told.leaf
items_compute = tt
