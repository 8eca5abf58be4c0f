-- `lexis::sorts::sort_of` meets its contract: the test of the table, which antt computes, and what it says of the entry read. Assumes nothing.
use Rattle.lexis.specs.Bytes.{sort_of}
use Rattle.lexis.proofs.ByteLaws.{sort_entry}
use borrow.Author.Rules.{rules}
use Rattle.lexis.proofs.sorts.sort_of.Goals as goal

pub bounds-b : goal.bounds-b
unfolding sort_of
bounds-b c = search rules

pub returns : goal.returns
unfolding sort_of
returns c = search (sort_entry, rules)
