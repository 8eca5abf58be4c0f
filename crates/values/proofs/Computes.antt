-- What the checker opens to compute with the definitions of this crate and those below. Assumes nothing.
use Rattle.lexis.proofs.Computes.{lexis_computes}
use Rattle.values.specs.Integers.{value_of, integer_of, inside, around}
use Rattle.values.specs.Calendar.{leap, month_days, real, day_after, day_before}
use Rattle.values.specs.Dates.{date_of}
use Rattle.values.specs.Times.{zone, time_of}
use Rattle.values.specs.Durations.{duration_of}
use Rattle.values.specs.Patterns.{fits, fits_date, fits_time, slots_fit, fits_duration}
use Rattle.values.specs.Words.{boolean_of, good}

unfoldable pub values_compute : Unit {0}
unfolding lexis_computes value_of integer_of inside around leap month_days real day_after day_before date_of zone time_of duration_of fits fits_date fits_time slots_fit fits_duration boolean_of good
values_compute = tt
