-- What the answers of the functions stand for. Assumes nothing.
use Rattle.std.specs.Prelude.{List, ℕ, eqb}
use Rattle.std.specs.declared.result.Result.{Result}
use Rattle.std.specs.declared.result.Result.TheVariants.{Ok, Err}
use Rattle.lexis.specs.Runs.{part}
use Rattle.meaning.specs.Verdicts.{Verdict, valid, fails}
use Rattle.meaning.specs.Judging.{verdict_of}
use Rattle.dadl.specs.Clauses.Tape.{is_string, row_number}
use Rattle.judge_admission.specs.Clauses.Items.{record_leaf}
use Rattle.judge_admission.specs.Clauses.Answers.{finding_under}
use Rattle.judge_attributes.specs.Reasons.{number_of}
use Rattle.judge_attributes.specs.declared.Failure.{Failure}

-- a row's string or word by the leaf whose first item has a number
abbrev pub leaf_verdict : List ℕ → List ℕ → List ℕ → ℕ → List ℕ → Verdict
leaf_verdict records pool s first row =
    verdict_of first (row_number row 3)
    (finding_under (record_leaf records pool first) (eqb (row_number row 0) is_string)
    (part s (row_number row 6) (row_number row 7)))

-- a failure, and a verdict of the walk
abbrev pub failed : Failure → Verdict
failed f = fails (number_of f.reason) f.«record».0 f.place

abbrev pub verdict_in : {A : Type 0} → Result A Failure → Verdict
verdict_in (Ok x) = valid
verdict_in (Err f) = failed f
