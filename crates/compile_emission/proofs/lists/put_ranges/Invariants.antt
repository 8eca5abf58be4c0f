-- The loops of `compile_emission::lists::put_ranges`. Assumes nothing.

use Rattle.compile_emission.proofs.WritingSteps.{InRanges}
use Rattle.cadl_items.specs.Clauses.Answers.{range_sort_of}
use Rattle.compile_emission.proofs.lists.put_ranges.Given as goal

abbrev pub invariant-loop-i : goal.invariant-loop-i
invariant-loop-i l = InRanges l.little l.p (range_sort_of l.sort) l.scratch l.count l.end l.initial.records l.i l.records
