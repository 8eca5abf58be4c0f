-- `judge::judge_on` meets its contract. Assumes nothing.
use Rattle.std.proofs.lemmas.Result.{err_from_is_err_and}
use Rattle.judge.proofs.JudgeSteps.{text_refused, text_under, text_judged}
use Rattle.judge_tape.proofs.MemoLaws.{memo_zeros}
use Rattle.judge.proofs.judge_on.Goals as goal

pub returns-in_err-data : goal.returns-in_err-data
returns-in_err-data c =
    let p = err_from_is_err_and c.from_residual.result c.from_residual.ensures.1 in
    rw (p.1, p.2) (text_refused _ _ _ _ c.requires.table_good c.requires.root_value _ _ _ c.read_data.ensures _ c.in_err-data.was)

pub invariant_of-inputs : goal.invariant_of-inputs
invariant_of-inputs c = record {
  walk = (text_under _ _ _ _ c.requires.table_good c.requires.root_value _ _ _ c.read_data.ensures _ c.in_ok-data.was c.requires.tape_room _ c.type_at.ensures).walk;
}

pub judge_block-requires : goal.judge_block-requires
judge_block-requires c = record {
  under = text_under _ _ _ _ c.requires.table_good c.requires.root_value _ _ _ c.read_data.ensures _ c.in_ok-data.was c.requires.tape_room _ c.type_at.ensures;
  memo_good = memo_zeros _ _ _ _ _ 0;
}

pub returns-in_err-judge_block : goal.returns-in_err-judge_block
returns-in_err-judge_block c =
    let p = err_from_is_err_and c.from_residual-in_err-judge_block.result c.from_residual-in_err-judge_block.ensures.1 in
    rw (p.1, p.2)
    (text_judged _ _ _ _ c.requires.table_good c.requires.root_value _ _ _ c.read_data.ensures _ c.in_ok-data.was c.requires.tape_room _ c.type_at.ensures _ c.in_err-judge_block.ensures.result_value)

pub returns : goal.returns
returns c =
    text_judged _ _ _ _ c.requires.table_good c.requires.root_value _ _ _ c.read_data.ensures _ c.in_ok-data.was c.requires.tape_room _ c.type_at.ensures _ c.in_ok-judge_block.ensures.result_value
