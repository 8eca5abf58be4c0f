-- `cadl_items::strings::read_strings` meets its contract. Assumes nothing.
use mathlib.Core.Path.{refl}
use Rattle.cadl_items.proofs.StringSteps.{strings_last}
use Rattle.cadl_items.proofs.strings.read_strings.Goals as goal

pub returns-in-Last : goal.returns-in-Last
returns-in-Last c = strings_last _ _ _ _ _ _ c.loop-next.invariant _ _ c.in_ok-next.ensures _ c.in-Last.is _ refl refl
