-- Examples of demand 3: a text compiled, a list of merges, and data judged by the carried table at 1 + the sum. What is expected is the answer, and that the two texts alone mean
-- the same with the record moved by the sum. The cases stand in ListTable. Assumes nothing.
use mathlib.Core.Bool.{Bool, ◌&&◌}
use mathlib.Core.List.{List}
use Prim.Native.Nat.{ℕ, ◌+◌}
use lib.Dec.{eqb}
use Rattle.refusals.specs.Outcomes.{Outcome}
use Rattle.refusals.specs.declared.Refusal.{Refusal}
use Rattle.refusals.proofs.Examples.{is_refusal, is_refused, is_given}
use Rattle.meaning.specs.Verdicts.{Verdict}
use Rattle.meaning.proofs.Examples.{is_verdict}
use Rattle.table_merge.specs.Lists.{MergeStep, Carried, carried, after_steps}
use Rattle.compile.specs.Compile.{compile_answer}
use Rattle.judge.specs.Judge.{judge_answer, moved_answer}
use Rattle.demands.specs.Demands.{meaning_of}
use Rattle.demands.specs.Marked.{table_in}

-- a text, the order and the output that it is compiled into, the merges, the sum behind them, a data text; the verdict, or the refusal's number and place
pub data Case : Type 0 where
  judges : (text : List ℕ) (little : Bool) (out : List ℕ) → List MergeStep → (sum : ℕ) → (form : List ℕ) → Verdict
      → Case
  refuses : (text : List ℕ) (little : Bool) (out : List ℕ) → List MergeStep → (sum : ℕ) → (form : List ℕ)
      → (number place : ℕ) → Case

-- what is carried behind the list
abbrev pub carried_behind : List ℕ → Bool → List ℕ → List MergeStep → Carried
carried_behind text little out steps = let c = compile_answer text little out in after_steps steps (carried (table_in c.out c.answer) 0)

-- the test of an answer, of the carried table's and of the two texts'
abbrev pub agrees : (Outcome Refusal Verdict → Bool) → List ℕ → Carried → ℕ → List ℕ → Bool
agrees test text c sum form = eqb c.sum sum && test (judge_answer c.table (1 + c.sum) form) && test (moved_answer c.sum (meaning_of text form))

unfoldable pub right : Case → Bool
right (judges text little out steps sum form v) = agrees (λ a. is_given a (λ x. is_verdict x v)) text (carried_behind text little out steps) sum form
right (refuses text little out steps sum form number place) = agrees (λ a. is_refused a (λ r. is_refusal r number place)) text (carried_behind text little out steps) sum form
