-- `judge_tape::memo::mark_item` meets its contract. Assumes nothing.
use borrow.Author.Rules.{rules}
use Rattle.judge_tape.proofs.ListSteps.{item_named, item-marked, items_same, item_unlisted, item_kept, item-set}
use Rattle.judge_tape.proofs.memo.mark_item.Goals as goal
use Rattle.judge_tape.proofs.memo.mark_item.Goals.{else-is_listed-via-then-is_listed+else-leads_in, else-is_listed-via-else-is_listed}

pub leads_in-requires : goal.leads_in-requires
leads_in-requires c = record { named_record = search item_named; base_bound = search rules }

pub returns-then-leads_in : goal.returns-then-leads_in
returns-then-leads_in c = record { memo_after = search item-set; items_marked = search item-marked }

pub returns-else-is_listed-clause-memo_after : goal.returns-else-is_listed-clause-memo_after
returns-else-is_listed-clause-memo_after c =
    elim c.else-is_listed.branch [
      | else-is_listed-via-then-is_listed+else-leads_in w ↦ item_kept _ _ _ _ _ _ _ _ c.entry_at-e.ensures _ c.is_listed.ensures w.if-is_listed.true _ w.leads_in.ensures w.if-leads_in.false
      | else-is_listed-via-else-is_listed w ↦ item_unlisted _ _ _ _ _ _ _ _ c.entry_at-e.ensures _ c.is_listed.ensures w.if-is_listed.false
    ]

pub returns-else-is_listed-clause-items_marked : goal.returns-else-is_listed-clause-items_marked
returns-else-is_listed-clause-items_marked c = search items_same
