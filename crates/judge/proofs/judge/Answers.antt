-- `judge::judge` meets its contract. Assumes nothing.
use Rattle.table.proofs.NameSteps.{passed_none}
use Rattle.judge.proofs.JudgeSteps.{table_refused, table_judged}
use Rattle.judge.proofs.judge.Goals as goal

pub judge_checked-requires : goal.judge_checked-requires
judge_checked-requires c = let e = c.in_ok-check.was in search passed_none

pub returns-in_err-check : goal.returns-in_err-check
returns-in_err-check c = table_refused _ _ _ _ c.check.ensures _ c.in_err-check.was _ c.from_residual.ensures.1

pub returns : goal.returns
returns c = table_judged _ _ _ _ c.check.ensures _ _ c.in_ok-check.was c.judge_checked.ensures
