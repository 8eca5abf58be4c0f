-- Examples of compiling: a text into an output, with the answer and the output behind it. The cases stand in CompileTable, RefusalTable and MadeTable. Assumes nothing.
use mathlib.Core.Bool.{Bool, ◌&&◌}
use mathlib.Core.List.{List}
use Prim.Native.Nat.{ℕ}
use lib.Dec.{eqb}
use Rattle.lexis.specs.Runs.{same}
use Rattle.refusals.proofs.Examples.{is_refusal, is_refused, is_given}
use Rattle.compile.specs.Compile.{compile_answer}

-- a text, the order asked, the output before; the answer, and the output behind it: a refusal leaves it as it was
pub data Case : Type 0 where
  compiles : (text : List ℕ) (little : Bool) (out : List ℕ) → (length : ℕ) → (after : List ℕ) → Case
  refuses : (text : List ℕ) (little : Bool) (out : List ℕ) → (number place : ℕ) → Case

unfoldable pub right : Case → Bool
right (compiles text little out length after) =
    let a = compile_answer text little out in
    is_given a.answer (λ l. eqb l length) && same a.out after
right (refuses text little out number place) =
    let a = compile_answer text little out in
    is_refused a.answer (λ r. is_refusal r number place) && same a.out out
