-- The loops of `cadl_items::strings::read_strings`. Assumes nothing.
use Prim.Native.Nat.{◌-◌}
use Rattle.refusals.specs.Limits.{item_limit}
use Rattle.cadl_items.proofs.StringSteps.{InStrings}
use Rattle.cadl_items.proofs.strings.read_strings.Given as goal

abbrev pub invariant-loop-next : goal.invariant-loop-next
invariant-loop-next l = InStrings l.s l.number l.from l.scratch l.count l.at

abbrev pub decreases-loop-next : goal.decreases-loop-next
decreases-loop-next l = item_limit - l.count
