-- `judge_tape::memo::enter_leaf` meets its contract. Assumes nothing.
use Rattle.judge_tape.proofs.ListSteps.{row_listing, row_marked}
use Rattle.judge_tape.proofs.memo.enter_leaf.Goals as goal

pub mark_items-requires : goal.mark_items-requires
mark_items-requires c = search row_listing

pub returns-clause-memo_good_2 : goal.returns-clause-memo_good_2
returns-clause-memo_good_2 c = search row_marked
