-- The loops of `judge_tape::memo::mark_chain`. Assumes nothing.
use Rattle.judge_admission.proofs.ItemSteps.{left}
use Rattle.judge_tape.proofs.MemoSteps.{InChain}
use Rattle.judge_tape.proofs.memo.mark_chain.Given as goal

abbrev pub invariant-loop-visit : goal.invariant-loop-visit
invariant-loop-visit l = InChain l.records l.initial.memo l.visit l.first l.memo l.n

abbrev pub decreases-loop-visit : goal.decreases-loop-visit
decreases-loop-visit l = left l.records l.n
