-- What the checker opens to compute with the definitions of this crate and those below. Assumes nothing.
use Rattle.values.proofs.Computes.{values_compute}
use Rattle.meaning.specs.Counting.{object_records, object_pool, object_numbers}
use Rattle.meaning.specs.Sorts.{in_some}
use Rattle.meaning.specs.Admission.{is_some, word_under, string_under}
use Rattle.meaning.specs.Judging.{member_of, judge}
use Rattle.meaning.specs.Moving.{moved_object}

unfoldable pub meaning_computes : Unit {0}
unfolding values_compute object_records object_pool object_numbers in_some is_some word_under string_under member_of judge moved_object
meaning_computes = tt
