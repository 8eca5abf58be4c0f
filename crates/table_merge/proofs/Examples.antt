-- Examples of merging: two tables into an output, and lists of merges. The cases stand in MergeTable, RefusalTable, MadeTable, LimitTable and StepTable. Assumes nothing.
use mathlib.Core.Bool.{Bool, ◌&&◌}
use mathlib.Core.List.{List, [], ◌∷◌}
use Prim.Native.Nat.{ℕ}
use lib.Dec.{eqb}
use lib.ListN.{replicate}
use Rattle.lexis.specs.Runs.{same}
use Rattle.refusals.specs.Outcomes.{Answered, write}
use Rattle.refusals.proofs.Examples.{is_refusal, is_refused, is_given}
use Rattle.table.specs.Records.{Image}
use Rattle.table.proofs.Hex.{filling}
use Rattle.table_merge.specs.Merge.{request, MergeReport, MergeRefusal, join, merge_answer}
use Rattle.table_merge.specs.Lists.{MergeStep, Carried, carried, after_steps}

-- two tables, the order asked, the output before; the answer, and the output behind it: a refusal leaves it as it was
pub data Case : Type 0 where
  merges : (first second : List ℕ) (little : Bool) (out : List ℕ) → (length records pool : ℕ) → (after : List ℕ) → Case
  refuses : (first second : List ℕ) (little : Bool) (out : List ℕ) → (table number place : ℕ) → Case

-- whether an answer is a report, or a refusal that leaves the output as it was
abbrev pub reports : Answered MergeRefusal MergeReport → ℕ → ℕ → ℕ → Bool
reports a length records pool = is_given a.answer (λ m. eqb m.length length && eqb m.shifts.records records && eqb m.shifts.pool pool)

abbrev pub refused_with : Answered MergeRefusal MergeReport → List ℕ → ℕ → ℕ → ℕ → Bool
refused_with a out table number place = is_refused a.answer (λ r. eqb r.table table && is_refusal r.why number place) && same a.out out

unfoldable pub right : Case → Bool
right (merges first second little out length records pool after) =
    let a = merge_answer (request first second little) out in
    reports a length records pool && same a.out after
right (refuses first second little out table number place) = refused_with (merge_answer (request first second little) out) out table number place

-- a table of so many objects without attributes, its header not counted, and so many bytes
abbrev pub objects : ℕ → ℕ → Image
objects n bytes = record { root = 1; pool = replicate bytes 65; records = replicate n (record { kind = 1; flag = 0; fields = 0 ∷ 1 ∷ 0 ∷ 0 ∷ 0 ∷ [] }) }

-- two such tables, by their counts and bytes, and an output of so many bytes
pub data JoinCase : Type 0 where
  join_refuses : (first bytes second more : ℕ) (little : Bool) (room : ℕ) → (number place : ℕ) → JoinCase

unfoldable pub join_right : JoinCase → Bool
join_right (join_refuses first bytes second more little room number place) =
    refused_with (write (join (objects first bytes) (objects second more) little room) (filling 7 room)) (filling 7 room) 0 number place

-- a list of merges, the table and the sum behind it
pub data StepCase : Type 0 where
  carries : (start : List ℕ) (steps : List MergeStep) → (end : List ℕ) (sum : ℕ) → StepCase

abbrev pub step : List ℕ → Bool → Bool → List ℕ → MergeStep
step other carried_first little out = record { other = other; carried_first = carried_first; little = little; out = out }

abbrev pub is_carried : Carried → List ℕ → ℕ → Bool
is_carried c end sum = same c.table end && eqb c.sum sum

unfoldable pub steps_right : StepCase → Bool
steps_right (carries start steps end sum) = is_carried (after_steps steps (carried start 0)) end sum
