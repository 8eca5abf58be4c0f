-- `cadl_items::leaves::read_leaf` meets its contract. Assumes nothing.
use native.Mathlib.Omega.{arith}
use Rattle.cadl_items.proofs.LeafSteps.{range_there, strings_there, leaf_ranges, leaf_strings, leaf_single}
use Rattle.cadl_items.proofs.leaves.read_leaf.Goals as goal

pub returns-in_ok-list-in-9 : goal.returns-in_ok-list-in-9
returns-in_ok-list-in-9 c = leaf_ranges _ _ _ _ c.requires.token_is c.in-9.is _ _ (range_there _ _ _ _ c.requires.leaf_room _ c.in_ok-list-in-9.ensures _ c.range_sort.ensures)

pub returns-in_ok-list-in-11 : goal.returns-in_ok-list-in-11
returns-in_ok-list-in-11 c = leaf_strings _ _ _ _ c.requires.token_is c.in-11.is _ _ (strings_there _ _ _ _ c.requires.leaf_room _ c.in_ok-list-in-11.ensures)

pub returns-in_default : goal.returns-in_default
returns-in_default c =
    leaf_single _ _ _ _ c.requires.token_is (λ z. grind arith) (λ z. grind arith) (λ z. grind arith) _ _ c.requires.leaf_room c.single_leaf.ensures
