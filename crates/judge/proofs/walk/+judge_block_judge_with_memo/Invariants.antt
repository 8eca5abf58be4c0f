-- The measures of the functions that call each other, and the loop over attributes. Assumes nothing.
use lib.ListN.{length}
use Rattle.judge.proofs.WalkSteps.{InAttributes, effort, effort_of_memo}
use Rattle.judge_admission.proofs.ItemSteps.{left}
use Rattle.judge.proofs.walk.+judge_block_judge_with_memo.Given as goal

abbrev pub decreases-judge_block : goal.decreases-judge_block
decreases-judge_block l = effort l.levels (length l.memo.now)

abbrev pub decreases-judge_with_memo : goal.decreases-judge_with_memo
decreases-judge_with_memo l = effort_of_memo l.levels

abbrev pub invariant-judge_block-loop-object : goal.invariant-judge_block-loop-object
invariant-judge_block-loop-object l =
    InAttributes l.inputs.records.now l.inputs.pool.now l.inputs.text.now l.inputs.tape.now l.inputs.rows l.levels l.object.0 l.block l.visit l.initial.memo l.memo l.initial.n l.n

abbrev pub decreases-judge_block-loop-object : goal.decreases-judge_block-loop-object
decreases-judge_block-loop-object l = left l.inputs.records.now l.n
