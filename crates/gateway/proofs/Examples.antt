-- Examples of what the functions of the C interface return and set. The cases stand in InterfaceTable. Assumes nothing.
use mathlib.Core.Bool.{Bool, ◌&&◌}
use mathlib.Core.List.{List}
use Prim.Native.Nat.{ℕ}
use lib.Dec.{eqb}
use Rattle.table.specs.Check.{table_fault}
use Rattle.table.specs.Names.{name_answer}
use Rattle.table_merge.specs.Merge.{request, merge_answer}
use Rattle.compile.specs.Compile.{compile_answer}
use Rattle.judge.specs.Judge.{judge_answer}
use Rattle.gateway.specs.Interface.{Placed, compile_told, check_told, MergeSaid, merge_told, JudgeTold, judge_told, NameTold, name_told}

-- what a function is given, and what it returns and sets
pub data Case : Type 0 where
  compiles : (text : List ℕ) (little : Bool) (out : List ℕ) → (returned place : ℕ) → Case
  checks : (table : List ℕ) → (returned place : ℕ) → Case
  merges : (first second : List ℕ) (little : Bool) (out : List ℕ) → (returned place records pool which : ℕ) → Case
  judges : (table : List ℕ) (root : ℕ) (text : List ℕ) → (returned place number : ℕ) → Case
  names : (table : List ℕ) (number : ℕ) → (returned start length : ℕ) → Case

abbrev pub is_placed : Placed → ℕ → ℕ → Bool
is_placed t number place = eqb t.number number && eqb t.place place

abbrev pub is_merged : MergeSaid → ℕ → ℕ → ℕ → ℕ → ℕ → Bool
is_merged m number place records pool which =
    is_placed m.told number place && eqb m.records records && eqb m.pool pool && eqb m.which which

abbrev pub is_judged : JudgeTold → ℕ → ℕ → ℕ → Bool
is_judged j number place constraint = is_placed j.told number place && eqb j.constraint constraint

abbrev pub is_named : NameTold → ℕ → ℕ → ℕ → Bool
is_named n number start length = is_placed n.told number start && eqb n.length length

unfoldable pub right : Case → Bool
right (compiles text little out number place) = is_placed (compile_told (compile_answer text little out).answer) number place
right (checks table number place) = is_placed (check_told (table_fault table)) number place
right (merges first second little out number place records pool which) =
    is_merged (merge_told (merge_answer (request first second little) out).answer) number place records pool which
right (judges table root text number place constraint) = is_judged (judge_told (judge_answer table root text)) number place constraint
right (names table record' number start length) = is_named (name_told (name_answer table record')) number start length
