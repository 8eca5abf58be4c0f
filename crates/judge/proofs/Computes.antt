-- What the checker opens to compute with the definitions of this crate and those below. Assumes nothing.
use Rattle.dadl.proofs.Computes.{data_computes}
use Rattle.meaning.proofs.Computes.{meaning_computes}
use Rattle.table.proofs.Computes.{table_computes}
use Rattle.judge.specs.Judge.{judge_answer}

unfoldable pub judge_computes : Unit {0}
unfolding data_computes meaning_computes table_computes judge_answer
judge_computes = tt
