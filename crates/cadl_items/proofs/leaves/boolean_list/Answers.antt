-- `cadl_items::leaves::boolean_list` meets its contract. Assumes nothing.
use Rattle.cadl_items.proofs.LeafSteps.{list_second, list_one}
use Rattle.cadl_items.proofs.leaves.boolean_list.Goals as goal

pub returns-then-u-eq-COMMA : goal.returns-then-u-eq-COMMA
returns-then-u-eq-COMMA c = list_second _ _ _ c.boolean_flag-flag.ensures _ c.token_at-u.ensures c.if-u-eq-COMMA.true _ c.second_boolean.ensures

pub returns : goal.returns
returns c = list_one _ _ _ c.boolean_flag-flag.ensures _ c.token_at-u.ensures c.if-u-eq-COMMA.false
