-- `cadl_items::ranges::keep_range` meets its contract. Assumes nothing.
use Rattle.cadl_items.proofs.RangeSteps.{keep_more, keep_last}
use Rattle.cadl_items.proofs.ranges.keep_range.Goals as goal

pub returns-then-t-eq-COMMA : goal.returns-then-t-eq-COMMA
returns-then-t-eq-COMMA c = search (keep_more c.args.s.now c.args.number c.args.count c.args.place c.args.item c.args.scratch.now c.if-overlaps.ensures c.requires)

pub returns : goal.returns
returns c = search (keep_last c.args.s.now c.args.number c.args.count c.args.place c.args.item c.args.scratch.now c.if-overlaps.ensures c.requires)
