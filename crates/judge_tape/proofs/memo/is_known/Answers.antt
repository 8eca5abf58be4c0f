-- `judge_tape::memo::is_known` meets its contract. Assumes nothing.
use Rattle.judge_tape.proofs.ListSteps.{row_fits, row_sum}
use Rattle.judge_tape.proofs.memo.is_known.Goals as goal

pub overflow_mul-base : goal.overflow_mul-base
overflow_mul-base c = record { fits = search row_fits }

pub overflow_add-base-2 : goal.overflow_add-base-2
overflow_add-base-2 c = record { fits = search row_sum }
