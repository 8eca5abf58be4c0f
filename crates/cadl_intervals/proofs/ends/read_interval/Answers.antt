-- `cadl_intervals::ends::read_interval` meets its contract. Assumes nothing.
use Rattle.cadl_intervals.proofs.IntervalSteps.{bar_closed}
use Rattle.cadl_intervals.proofs.ends.read_interval.Goals as goal

pub returns : goal.returns
returns c = bar_closed _ _ _ c.in_ok-ends.ends c.in_ok-ends.ensures c.requires c.in_ok-bar.bar c.in_ok-bar.ensures c.if-empty.ensures c.closed.result c.closed.ensures
