-- What compiling that is not refused gives: the text is read as a tree, the tree's table has room, and it stands in front in the output. Assumes nothing.
use mathlib.Core.Path.{◌≡◌, sym, ap, ◌∙◌}
use mathlib.Core.Bool.{Bool}
use mathlib.Core.List.{List}
use Prim.Native.Nat.{ℕ, ◌≤◌}
use lib.ListN.{length, take}
use Rattle.refusals.specs.Reading.{got}
use Rattle.refusals.specs.Refusals.{refusal}
use Rattle.refusals.specs.Outcomes.{gave, writes}
use Rattle.refusals.proofs.Outcomes.{gives, front_is, fits, was_read}
use Rattle.meaning.specs.Constraints.{Object}
use Rattle.cadl_objects.specs.Texts.{constraint_of}
use Rattle.compile.specs.Compile.{table_of, table_for, compile_outcome, compile_answer}

pub record Compiled (text : List ℕ) (little : Bool) (out : List ℕ) (size : ℕ) : Type 0 where
  pub tree : Object
  pub end : ℕ
  pub is : constraint_of text ≡ got tree end
  pub size_is : size ≡ length (table_of little tree)
  pub room : length (table_of little tree) ≤ length out
  pub written_is : take size (compile_answer text little out).out ≡ table_of little tree

pub compile_gives : (text : List ℕ) (little : Bool) (out : List ℕ) (size : ℕ)
    → (compile_answer text little out).answer ≡ gave size → Compiled text little out size
unfolding compile_answer
compile_gives text little out size h =
    let g = gives (compile_outcome text little (length out)) out size h in
    let x = was_read (constraint_of text) (table_for little (length text) (length out)) g.written g.is in
    let bs = table_of little x.value in
    let w = fits refusal (length text) (length out) (writes bs (length bs)) g.written x.follows in
    let n : size ≡ length bs = sym (ap (λ v. v.report) w.1 ∙ g.report_is) in
    record {
      tree = x.value;
      end = x.place;
      is = x.is;
      size_is = n;
      room = w.0;
      written_is = ap (λ k. take k (compile_answer text little out).out) n ∙ front_is g (writes bs (length bs)) w.1;
    }
