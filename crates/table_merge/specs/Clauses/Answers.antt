-- What the functions take and answer, as the definitions have it. Assumes nothing.
use Rattle.std.specs.Prelude.{◌≡◌, List, [], ◌∷◌, ℕ, ◌+◌, ◌*◌, ◌-◌, ◌^◌, ◌≤◌, ◌<◌}
use Rattle.std.specs.Prelude.{Option, None, Some}
use Rattle.std.proofs.Math.ListN
use Rattle.refusals.specs.Limits.{record_limit, pool_limit}
use Rattle.refusals.specs.Outcomes.{Outcome, refused, gave}
use Rattle.table.specs.Records.{Record, record_size, make, field, record_in}
use Rattle.table.specs.Rows.{Shape, shape_of, place, link, row_for}
use Rattle.table.specs.Check.{table_fault}
use Rattle.table.specs.Clauses.Answers.{Opened}
use Rattle.table.specs.declared.records.Frame.{Frame}
use Rattle.table_merge.specs.Joining.{Shifts, moved_field, moved_fields}
use Rattle.table_merge.specs.Merge.{MergeReport, report, MergeRefusal, of_table}
use Rattle.table_merge.specs.declared.Merged.{Merged}
use Rattle.table_merge.specs.declared.MergeRefusal.{MergeRefusal as Refused}
use Rattle.table_merge.specs.TableNumbers.{table_number}
use Rattle.std.specs.declared.result.Result.{Result}
use Rattle.std.specs.declared.result.Result.TheVariants.{Ok, Err}

-- the shifts of both kinds of number
abbrev pub shifts : ℕ → ℕ → Shifts
shifts records pool = record { records = records; pool = pool }

-- a link, and a place of so many bytes, moved
abbrev pub moved_link : ℕ → ℕ → ℕ
moved_link by x = moved_field (shifts by 0) (link []) x 0

abbrev pub moved_place : ℕ → ℕ → ℕ → ℕ
moved_place by x length = moved_field (shifts 0 by) (place 0 0) x length

-- a record moved as one of a shape
abbrev pub moved_as : Shifts → Shape → Record → Record
moved_as s shape r =
    record { kind = r.kind; flag = r.flag; fields = moved_fields s ((row_for shape).uses r.fields) r.fields }

-- a record that is moved so still fits: each field is below 2 ^ 32
pub record Movable (s : Shifts) (shape : Shape) (r : Record) : Type 0 where
  pub fits : (i : ℕ) → field (moved_as s shape r) i < 2 ^ 32

-- the records from number 1 on and below a count stand in the table and can be moved, and the output has room for them
pub record Copying (bs : List ℕ) (count : ℕ) (s : Shifts) (out : List ℕ) : Type 0 where
  pub inside : record_size * count ≤ ListN.length bs
  pub room : record_size * (s.records + count) ≤ ListN.length out
  pub few : s.records + count < 2 ^ 32
  pub movable : (n : ℕ) → 1 ≤ n → n < count → Movable s (shape_of (record_in bs n).kind) (record_in bs n)

-- a header of these counts and this root
abbrev pub header_with : ℕ → ℕ → ℕ → Record
header_with count pool root = make 0 0 (count ∷ pool ∷ root ∷ [])

-- two tables that pass the check, with their counts, are not too large for one
pub record Joinable (first second : List ℕ) (x y : Frame) : Type 0 where
  pub first_passes : table_fault first ≡ None
  pub second_passes : table_fault second ≡ None
  pub first_opened : Opened first x
  pub second_opened : Opened second y
  pub few : x.count - 1 + y.count ≤ record_limit
  pub small : x.pool + y.pool ≤ pool_limit

-- how long they are together
abbrev pub joined_length : Frame → Frame → ℕ
joined_length x y = record_size * (x.count - 1 + y.count) + (x.pool + y.pool)

-- a refusal with its table, by the definitions, and the one that is answered, if there is one
abbrev pub refusal_of : Refused → MergeRefusal
refusal_of r = of_table (table_number r.table) r.refusal

abbrev pub fault_in : {A : Type 0} → Result A Refused → Option MergeRefusal
fault_in (Ok x) = None
fault_in (Err r) = Some (refusal_of r)

-- the answer of a merge, by the definitions
abbrev pub answer_of : Result Merged Refused → Outcome MergeRefusal MergeReport
answer_of (Ok m) = gave (report m.length (shifts m.records.0 m.pool.0))
answer_of (Err r) = refused (refusal_of r)
