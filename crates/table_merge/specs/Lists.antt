-- A list of merges: document 01, 'The merges of demand 3'. "Each merge is lent the carried table alone, without the bytes behind its end, as first or second; the other table
-- is any bytes .. all other arguments are free. It is refused exactly when the rules of merging say so, and then table and sum stay. Otherwise the table written .. is the
-- carried one from there on; where the carried table was second, the sum grows by the record shift reported". Assumes nothing.
use Rattle.std.specs.Prelude.{Bool, cond, List, [], ◌∷◌, ℕ, ◌+◌, take}
use Rattle.refusals.specs.Outcomes.{Outcome, refused, gave, Answered}
use Rattle.table_merge.specs.Merge.{MergeRequest, request, MergeReport, MergeRefusal, merge_answer}

-- one merge: the other table, whether the carried one comes first, the order asked, and the output as lent
pub record MergeStep : Type 0 where
  pub other : List ℕ
  pub carried_first : Bool
  pub little : Bool
  pub out : List ℕ

-- the carried table and the sum of the shifts
pub record Carried : Type 0 where
  pub table : List ℕ
  pub sum : ℕ

abbrev pub carried : List ℕ → ℕ → Carried
carried table sum = record { table = table; sum = sum }

-- what a step asks, and its merge
abbrev pub request_of : MergeStep → List ℕ → MergeRequest
request_of s table = cond s.carried_first (request table s.other s.little) (request s.other table s.little)

abbrev pub merge_of : MergeStep → List ℕ → Answered MergeRefusal MergeReport
merge_of s table = merge_answer (request_of s table) s.out

-- what is carried behind an answer: the table written, without the bytes behind its end
abbrev pub behind : Bool → Carried → List ℕ → Outcome MergeRefusal MergeReport → Carried
behind first c out (refused r) = c
behind first c out (gave m) = carried (take m.length out) (cond first c.sum (c.sum + m.shifts.records))

unfoldable pub after_step : MergeStep → Carried → Carried
after_step s c = behind s.carried_first c (merge_of s c.table).out (merge_of s c.table).answer

abbrev pub after_steps : List MergeStep → Carried → Carried
after_steps [] c = c
after_steps (s ∷ ss) c = after_steps ss (after_step s c)
