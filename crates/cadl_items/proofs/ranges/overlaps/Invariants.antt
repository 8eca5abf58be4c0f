-- The loop of `cadl_items::ranges::overlaps`. Assumes nothing.
use Rattle.cadl_items.proofs.RangeSteps.{InPairs}
use Rattle.cadl_items.proofs.ranges.overlaps.Given as goal

abbrev pub invariant-loop-k : goal.invariant-loop-k
invariant-loop-k l = InPairs l.scratch l.count l.low l.high l.k
