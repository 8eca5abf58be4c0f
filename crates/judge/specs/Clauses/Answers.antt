-- What the answers of the functions stand for. Assumes nothing.
use Rattle.std.specs.declared.result.Result.{Result}
use Rattle.std.specs.declared.result.Result.TheVariants.{Ok, Err}
use Rattle.refusals.specs.Outcomes.{Outcome, refused, gave}
use Rattle.refusals.specs.declared.Refusal.{Refusal}
use Rattle.meaning.specs.Verdicts.{Verdict, valid}
use Rattle.judge_attributes.specs.Clauses.Answers.{failed}
use Rattle.judge.specs.declared.Denial.{Denial}
use Rattle.judge.specs.declared.Denial.TheVariants.{Refused, Failed}

-- why a text isn't valid: a refusal, whose cause gives document 01's number, with its place; or a reason of document 01, 20 to 24, with its record and its data place
abbrev pub denied : Denial → Outcome Refusal Verdict
denied (Refused r) = refused r
denied (Failed f) = gave (failed f)

-- what judging answers
abbrev pub answer_of : {A : Type 0} → Result A Denial → Outcome Refusal Verdict
answer_of (Ok x) = gave valid
answer_of (Err d) = denied d
