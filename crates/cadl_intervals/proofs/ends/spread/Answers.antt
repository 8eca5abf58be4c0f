-- `cadl_intervals::ends::spread` meets its contract. Assumes nothing.
use Rattle.cadl_intervals.proofs.IntervalSteps.{spread_ends}
use Rattle.cadl_intervals.proofs.ends.spread.Goals as goal

pub returns : goal.returns
returns c = spread_ends c.args.s.now c.args.a c.args.from c.token_at-t.result c.token_at-t.ensures c.in_ok-d.d c.in_ok-d.ensures c.if-not-inside.ensures _ _ _ c.around-ends.ensures c.from.ensures
