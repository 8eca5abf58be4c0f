-- `cadl_items::strings::roomy_string` meets its contract. Assumes nothing.
use Rattle.cadl_items.proofs.StringSteps.{text_there}
use Rattle.cadl_items.proofs.strings.roomy_string.Goals as goal

pub returns : goal.returns
returns c = text_there _ _ _ _ _ c.in_ok-t.ensures _ c.in_ok-room_left.ensures c.requires
