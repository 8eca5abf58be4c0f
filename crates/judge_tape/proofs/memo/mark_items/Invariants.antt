-- The loop of `judge_tape::memo::mark_items`. Assumes nothing.
use Rattle.judge_tape.proofs.ListSteps.{InListing}
use Rattle.judge_tape.proofs.memo.mark_items.Given as goal

abbrev pub invariant-loop-n : goal.invariant-loop-n
invariant-loop-n l = InListing l.records l.pool l.initial.memo l.base l.is_string l.value l.memo l.n
