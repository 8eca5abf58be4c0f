-- What the jobs and the functions of the C interface answer: document 01's number, 0 where there is no refusal, and for each outcome the values that it names; a value that is not named for an
-- outcome is 0. Document 01, 'What form to use where': "Where an answer is an enum, a definition gives this paper's number and values for each of the enum's cases. The promises use that
-- definition". Assumes nothing.
use Rattle.std.specs.Prelude.{◌≡◌, List, ℕ}
use Rattle.std.specs.Prelude.{Option, None, Some}
use Rattle.refusals.specs.Refusals.{number_of}
use Rattle.refusals.specs.Outcomes.{Outcome, refused, gave, Answered}
use Rattle.refusals.specs.declared.Refusal.{Refusal}
use Rattle.meaning.specs.Verdicts.{Verdict, valid, fails}
use Rattle.table.specs.Names.{Slice}
use Rattle.table.specs.declared.names.NamePart.{NamePart}
use Rattle.table_merge.specs.Merge.{MergeReport, MergeRefusal}
use Rattle.table_merge.specs.declared.Merged.{Merged}
use Rattle.table_merge.specs.declared.MergeRefusal.{MergeRefusal as RefusedMerge}
use Rattle.table_merge.specs.TableNumbers.{table_number}
use Rattle.judge_attributes.specs.Reasons.{number_of as reason_number}
use Rattle.judge.specs.declared.Denial.{Denial}
use Rattle.judge.specs.declared.Denial.TheVariants as denial
use Rattle.std.specs.declared.result.Result.{Result}
use Rattle.std.specs.declared.result.Result.TheVariants.{Ok, Err}

-- a number and a place
pub record Placed : Type 0 where
  pub number : ℕ
  pub place : ℕ

abbrev pub placed : ℕ → ℕ → Placed
placed number place = record { number = number; place = place }

abbrev pub refusal_told : Refusal → Placed
refusal_told r = placed (number_of r.cause) r.place

-- what a job says and the output are those of its answer
pub record AnswerIs {E A S : Type 0} (tell : Outcome E A → S) (a : Answered E A) (said : S)
    (bytes : List ℕ) : Type 0 where
  pub is : said ≡ tell a.answer
  pub out : bytes ≡ a.out

-- compiling: on 0 the place is the table's length
abbrev pub compile_told : Outcome Refusal ℕ → Placed
compile_told (refused r) = refusal_told r
compile_told (gave length) = placed 0 length

-- the check: 0 and 0, or a refusal
abbrev pub check_told : Option Refusal → Placed
check_told None = placed 0 0
check_told (Some r) = refusal_told r

-- merging: on 0 the place is the table's length; the table named for 12 and 13 is 1 or 2
pub record MergeSaid : Type 0 where
  pub told : Placed
  pub records : ℕ
  pub pool : ℕ
  pub which : ℕ

abbrev pub merge_said : Placed → ℕ → ℕ → ℕ → MergeSaid
merge_said told records pool which = record { told = told; records = records; pool = pool; which = which }

abbrev pub merge_told : Outcome MergeRefusal MergeReport → MergeSaid
merge_told (refused r) = merge_said (refusal_told r.why) 0 0 r.table
merge_told (gave m) = merge_said (placed 0 m.length) m.shifts.records m.shifts.pool 0

-- judging: 0 is valid; the record is 0 with a refusal
pub record JudgeTold : Type 0 where
  pub told : Placed
  pub constraint : ℕ

abbrev pub judge_said : Placed → ℕ → JudgeTold
judge_said told constraint = record { told = told; constraint = constraint }

abbrev pub verdict_told : Verdict → JudgeTold
verdict_told valid = judge_said (placed 0 0) 0
verdict_told (fails reason number place) = judge_said (placed reason place) number

abbrev pub judge_told : Outcome Refusal Verdict → JudgeTold
judge_told (refused r) = judge_said (refusal_told r) 0
judge_told (gave v) = verdict_told v

-- a name: the start and the length of the part; with a refusal the start is its place
pub record NameTold : Type 0 where
  pub told : Placed
  pub length : ℕ

abbrev pub name_said : Placed → ℕ → NameTold
name_said told length = record { told = told; length = length }

abbrev pub name_told : Outcome Refusal Slice → NameTold
name_told (refused r) = name_said (refusal_told r) 0
name_told (gave p) = name_said (placed 0 p.start) p.length

-- the number and the values of each case of the jobs' answers
abbrev pub compile_numbers : Result ℕ Refusal → Placed
compile_numbers (Ok length) = placed 0 length
compile_numbers (Err r) = refusal_told r

abbrev pub check_numbers : Result Unit Refusal → Placed
check_numbers (Ok _) = placed 0 0
check_numbers (Err r) = refusal_told r

abbrev pub merge_numbers : Result Merged RefusedMerge → MergeSaid
merge_numbers (Ok m) = merge_said (placed 0 m.length) m.records.0 m.pool.0 0
merge_numbers (Err r) = merge_said (refusal_told r.refusal) 0 0 (table_number r.table)

abbrev pub judge_numbers : Result Unit Denial → JudgeTold
judge_numbers (Ok _) = judge_said (placed 0 0) 0
judge_numbers (Err (denial.Refused r)) = judge_said (refusal_told r) 0
judge_numbers (Err (denial.Failed f)) = judge_said (placed (reason_number f.reason) f.place) f.«record».0

abbrev pub name_numbers : Result NamePart Refusal → NameTold
name_numbers (Ok part) = name_said (placed 0 part.start) part.length
name_numbers (Err r) = name_said (refusal_told r) 0
