-- `cadl_items::ranges::roomy_start` meets its contract. Assumes nothing.
use Rattle.cadl_items.proofs.RangeSteps.{room_there}
use Rattle.cadl_items.proofs.ranges.roomy_start.Goals as goal

pub returns : goal.returns
returns c = room_there _ _ _ _ _ _ c.in_ok-start.ensures _ c.in_ok-room_left.ensures c.requires
