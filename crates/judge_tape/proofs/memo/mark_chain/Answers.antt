-- `judge_tape::memo::mark_chain` meets its contract. Assumes nothing.
use Rattle.judge_tape.proofs.MemoSteps.{chain_lies, chain_less, chain_next, chain_end}
use Rattle.judge_tape.proofs.memo.mark_chain.Goals as goal

pub entry_at-e-requires : goal.entry_at-e-requires
entry_at-e-requires c = search chain_lies

pub loop-visit-smaller : goal.loop-visit-smaller
loop-visit-smaller c = search chain_less

pub loop-visit-preserved : goal.loop-visit-preserved
loop-visit-preserved c = search chain_next

pub returns-clause-memo_after : goal.returns-clause-memo_after
returns-clause-memo_after c = search chain_end
