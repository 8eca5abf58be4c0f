-- `judge_tape::memo::mark_items` meets its contract. Assumes nothing.
use borrow.Author.Rules.{rules}
use Rattle.judge_tape.proofs.ListSteps.{listing_start, listing_few, listing_next, listing_end}
use Rattle.judge_tape.proofs.memo.mark_items.Goals as goal

pub loop-n-init : goal.loop-n-init
loop-n-init c = search listing_start

pub overflow_cast-n : goal.overflow_cast-n
overflow_cast-n c = search listing_few

pub loop-n-preserved : goal.loop-n-preserved
loop-n-preserved c = search listing_next

pub returns : goal.returns
returns c = record { memo_after = search listing_end; items_marked = search rules }
