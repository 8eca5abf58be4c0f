-- `judge_attributes::judge_value` meets its contract. Assumes nothing.
use Rattle.std.proofs.lemmas.Result.{err_from_is_err_and}
use Rattle.judge_attributes.proofs.AttributeSteps.{value_any, value_lies, value_some, value_nested, value_unsuited, value_items, value_row, value_admitted, value_fails}
use Rattle.judge_attributes.proofs.judge_value.Goals as goal

pub kind_of-takes_block-requires : goal.kind_of-takes_block-requires
kind_of-takes_block-requires c = search value_lies

pub returns-then-value-eq0-clause-value_is : goal.returns-then-value-eq0-clause-value_is
returns-then-value-eq0-clause-value_is c = search value_any

pub returns-then-takes_block-holds_block-clause-value_is : goal.returns-then-takes_block-holds_block-clause-value_is
returns-then-takes_block-holds_block-clause-value_is c = search value_unsuited

pub returns-then-holds_block-clause-value_is : goal.returns-then-holds_block-clause-value_is
returns-then-holds_block-clause-value_is c = search value_nested

pub judge_leaf-requires-clause-items_good : goal.judge_leaf-requires-clause-items_good
judge_leaf-requires-clause-items_good c = search value_items

pub judge_leaf-requires-clause-leaf_row : goal.judge_leaf-requires-clause-leaf_row
judge_leaf-requires-clause-leaf_row c = search value_row

pub judge_leaf-requires-clause-le_first : goal.judge_leaf-requires-clause-le_first
judge_leaf-requires-clause-le_first c = search value_some

pub returns-in_err-judge_leaf-clause-value_is : goal.returns-in_err-judge_leaf-clause-value_is
returns-in_err-judge_leaf-clause-value_is c =
    let p = err_from_is_err_and c.from_residual.result c.from_residual.ensures.1 in
    let e = c.in_err-judge_leaf.ensures.result_value in
    rw (p.1, p.2) (search value_fails)

pub returns-clause-value_is : goal.returns-clause-value_is
returns-clause-value_is c = let e = c.in_ok-judge_leaf.ensures.result_value in search value_admitted
