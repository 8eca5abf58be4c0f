-- `cadl_intervals::literals::read_literal` meets its contract. Assumes nothing.
use mathlib.Core.Path.{refl}
use Rattle.cadl_intervals.proofs.IntervalSteps.{literal_there}
use Rattle.cadl_intervals.proofs.literals.read_literal.Goals as goal

pub returns-in-Some : goal.returns-in-Some
returns-in-Some c = literal_there _ _ _ c.in_ok-t.t c.in_ok-t.ensures _ refl c.in-Some.ensures
