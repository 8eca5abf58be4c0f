-- What merging is asked and answers, and the output buffer behind it. Document 01, 'Numbers of refusal': "Merge: first table, second, 8, 10, 11, naming the table for 12 and 13";
-- 8 at 0: "merged count above 2,048", 10 at 0: "pool above 16,384", 11 at the needed length: "output too short". 'Table': "Merging writes all in the order asked"; "Both shifts are
-- reported". Assumes nothing.
use Rattle.std.specs.Prelude.{Bool, List, ℕ, ◌+◌, ltb, length}
use Rattle.std.specs.Prelude.{option_map as map}
use Rattle.refusals.specs.Limits.{record_limit, pool_limit}
use Rattle.refusals.specs.Refusals.{refusal}
use Rattle.refusals.specs.Outcomes.{Outcome, or_fault, unless, Written, writes, fitting, Answered, write}
use Rattle.refusals.specs.declared.Refusal.{Refusal}
use Rattle.refusals.specs.declared.Cause.{Cause}
use Rattle.refusals.specs.declared.Cause.TheVariants.{TooManyRecords, PoolTooLarge}
use Rattle.table.specs.Records.{Image, count, image_of, bytes_of}
use Rattle.table.specs.Check.{table_fault}
use Rattle.table_merge.specs.Joining.{Shifts, shifts_by, merged}

-- what is asked: two tables, and the order, whether the lowest byte comes first
pub record MergeRequest : Type 0 where
  pub first : List ℕ
  pub second : List ℕ
  pub little : Bool

abbrev pub request : List ℕ → List ℕ → Bool → MergeRequest
request first second little = record { first = first; second = second; little = little }

-- what is reported: the joined table's length, and how far the second table was moved
pub record MergeReport : Type 0 where
  pub length : ℕ
  pub shifts : Shifts

abbrev pub report : ℕ → Shifts → MergeReport
report length shifts = record { length = length; shifts = shifts }

-- why there is no joined table, and which table is named for 12 and 13, 1 or 2; else 0
pub record MergeRefusal : Type 0 where
  pub table : ℕ
  pub why : Refusal

abbrev pub of_table : ℕ → Refusal → MergeRefusal
of_table table why = record { table = table; why = why }

-- a refusal that is neither table's own
abbrev pub neither : Cause → ℕ → MergeRefusal
neither cause place = of_table 0 (refusal cause place)

-- two tables that pass the check, for an output of so many bytes
unfoldable pub join : Image → Image → Bool → (room : ℕ) → Outcome MergeRefusal (Written MergeReport)
join x y little room =
    let bs = bytes_of little (merged x y) in
    unless (ltb record_limit (length x.records + count y)) (neither TooManyRecords 0)
    (unless (ltb pool_limit (length x.pool + length y.pool)) (neither PoolTooLarge 0)
    (fitting neither (length bs) room (writes bs (report (length bs) (shifts_by x)))))

abbrev pub merge_outcome : MergeRequest → (room : ℕ) → Outcome MergeRefusal (Written MergeReport)
merge_outcome q room =
    or_fault (map (of_table 1) (table_fault q.first))
    (or_fault (map (of_table 2) (table_fault q.second))
    (join (image_of q.first) (image_of q.second) q.little room))

unfoldable pub merge_answer : MergeRequest → List ℕ → Answered MergeRefusal MergeReport
merge_answer q out = write (merge_outcome q (length out)) out
