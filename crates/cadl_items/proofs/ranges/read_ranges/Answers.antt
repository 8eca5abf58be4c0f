-- `cadl_items::ranges::read_ranges` meets its contract. Assumes nothing.
use mathlib.Core.Path.{refl}
use Rattle.cadl_items.proofs.RangeSteps.{ranges_last}
use Rattle.cadl_items.proofs.ranges.read_ranges.Goals as goal

pub returns-in-Last : goal.returns-in-Last
returns-in-Last c = ranges_last _ _ _ _ _ _ _ c.loop-k.invariant _ _ c.in_ok-k.ensures _ _ c.in-Last.is _ refl refl refl
