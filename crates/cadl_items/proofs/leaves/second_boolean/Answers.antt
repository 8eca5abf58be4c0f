-- `cadl_items::leaves::second_boolean` meets its contract. Assumes nothing.
use Rattle.cadl_items.proofs.LeafSteps.{second_other, second_same, second_both}
use Rattle.cadl_items.proofs.leaves.second_boolean.Goals as goal

pub returns-then-not-is_boolean : goal.returns-then-not-is_boolean
returns-then-not-is_boolean c = second_other _ _ _ _ c.token_at-t.ensures c.if-not-is_boolean.ensures _ c.syntax_fault.ensures

pub returns-then-boolean_flag-flag : goal.returns-then-boolean_flag-flag
returns-then-boolean_flag-flag c = rw c.at.ensures (second_same _ _ _ _ c.token_at-t.ensures c.if-not-is_boolean.ensures _ c.boolean_flag.ensures c.if-boolean_flag-flag.true)

pub returns : goal.returns
returns c = second_both _ _ _ _ c.token_at-t.ensures c.if-not-is_boolean.ensures _ c.boolean_flag.ensures c.if-boolean_flag-flag.false
