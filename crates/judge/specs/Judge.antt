-- What judging answers. Document 01, 'Numbers of refusal': "Judge: table, 14, then the whole data text (1 to 5, 9), then 20 to 24"; 14 at that number: "root asked isn't an
-- object of the table". Assumes nothing.
use Rattle.std.specs.Prelude.{Option, None, Some}
use Rattle.std.specs.Prelude.{List, ℕ}
use Rattle.refusals.specs.Limits.{level_limit}
use Rattle.refusals.specs.Refusals.{refusal}
use Rattle.refusals.specs.Reading.{Reading}
use Rattle.refusals.specs.Outcomes.{Outcome, refused, gave, or_fault, after_reading}
use Rattle.refusals.specs.declared.Refusal.{Refusal}
use Rattle.refusals.specs.declared.Cause.TheVariants.{NotAnObject}
use Rattle.meaning.specs.Constraints.{Object}
use Rattle.meaning.specs.Data.{Datum}
use Rattle.meaning.specs.Verdicts.{Verdict}
use Rattle.meaning.specs.Moving.{moved_verdict}
use Rattle.meaning.specs.Judging.{judge}
use Rattle.dadl.specs.Data.{datum_of}
use Rattle.table.specs.Records.{image_of}
use Rattle.table.specs.Check.{table_fault}
use Rattle.table.specs.Trees.{object_at}

-- a data text by an object
abbrev pub judge_datum : Object → Reading Datum → Outcome Refusal Verdict
judge_datum o r = after_reading r (λ d. gave (judge o d))

abbrev pub judge_text : Object → List ℕ → Outcome Refusal Verdict
judge_text o text = judge_datum o (datum_of level_limit text)

abbrev pub under_root : ℕ → List ℕ → Option Object → Outcome Refusal Verdict
under_root root text None = refused (refusal NotAnObject root)
under_root root text (Some o) = judge_text o text

unfoldable pub judge_answer : List ℕ → ℕ → List ℕ → Outcome Refusal Verdict
judge_answer table root text = or_fault (table_fault table) (under_root root text (object_at (image_of table) root))

-- the same answer, its record's number moved
abbrev pub moved_answer : ℕ → Outcome Refusal Verdict → Outcome Refusal Verdict
moved_answer s (refused r) = refused r
moved_answer s (gave v) = gave (moved_verdict s v)
