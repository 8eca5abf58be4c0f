-- Examples of judging a data text by a table at a root. The cases stand in JudgeTable, RefusalTable and MadeTable. Assumes nothing.
use mathlib.Core.Bool.{Bool}
use mathlib.Core.List.{List}
use Prim.Native.Nat.{ℕ}
use Rattle.refusals.proofs.Examples.{is_refusal, is_refused, is_given}
use Rattle.meaning.specs.Verdicts.{Verdict}
use Rattle.meaning.proofs.Examples.{is_verdict}
use Rattle.judge.specs.Judge.{judge_answer}

-- a table, a root, a data text; the verdict, or the refusal's number and place
pub data Case : Type 0 where
  judges : (table : List ℕ) (root : ℕ) (text : List ℕ) → Verdict → Case
  refuses : (table : List ℕ) (root : ℕ) (text : List ℕ) → (number place : ℕ) → Case

unfoldable pub right : Case → Bool
right (judges table root text v) = is_given (judge_answer table root text) (λ x. is_verdict x v)
right (refuses table root text number place) = is_refused (judge_answer table root text) (λ r. is_refusal r number place)
