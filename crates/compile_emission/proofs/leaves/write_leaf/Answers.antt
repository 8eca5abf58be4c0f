-- `compile_emission::leaves::write_leaf` meets its contract. Assumes nothing.
use Rattle.compile_emission.proofs.LeafWriting.{leaf_single, leaf_ranges, leaf_strings}
use Rattle.compile_emission.proofs.leaves.write_leaf.Goals as goal

pub returns-in-Single : goal.returns-in-Single
returns-in-Single c = let e = c.in_ok-leaf.ensures in search leaf_single

pub returns-in-Ranges : goal.returns-in-Ranges
returns-in-Ranges c = let e = c.in_ok-leaf.ensures in search leaf_ranges

pub returns-in-Strings : goal.returns-in-Strings
returns-in-Strings c = let e = c.in_ok-leaf.ensures in search leaf_strings
