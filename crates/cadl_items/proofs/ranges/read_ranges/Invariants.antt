-- The loops of `cadl_items::ranges::read_ranges`. Assumes nothing.
use Prim.Native.Nat.{◌-◌}
use Rattle.refusals.specs.Limits.{item_limit}
use Rattle.cadl_items.proofs.RangeSteps.{InRanges}
use Rattle.cadl_items.proofs.ranges.read_ranges.Given as goal

abbrev pub invariant-loop-k : goal.invariant-loop-k
invariant-loop-k l = InRanges l.s l.number l.from l.scratch l.kind l.count l.at

abbrev pub decreases-loop-k : goal.decreases-loop-k
decreases-loop-k l = item_limit - l.count
