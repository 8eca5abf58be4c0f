-- `cadl_items::ranges::overlaps` meets its contract. Assumes nothing.
use Rattle.cadl_items.proofs.RangeSteps.{pairs_start, pairs_on}
use Rattle.cadl_items.proofs.ranges.overlaps.Goals as goal

pub loop-k-init : goal.loop-k-init
loop-k-init c = search pairs_start

pub loop-k-preserved : goal.loop-k-preserved
loop-k-preserved c = pairs_on _ _ _ _ _ c.loop-k.invariant c.if-meet.ensures
