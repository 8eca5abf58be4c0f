-- What is carried behind a merge of a list is what the rules say. Assumes nothing.
use mathlib.Core.Path.{◌≡◌, refl, sym, ap, ◌∙◌, subst}
use mathlib.Core.Bool.{Bool, true, false, cond}
use mathlib.Core.List.{List}
use Prim.Native.Nat.{ℕ, ◌+◌}
use lib.ListN.{length, take, drop}
use lib.Seq.{take-append_seam}
use Rattle.refusals.specs.Outcomes.{Outcome, refused, gave}
use Rattle.table_merge.specs.Merge.{MergeRequest, request, MergeReport, MergeRefusal, merge_answer}
use Rattle.table_merge.specs.Lists.{MergeStep, Carried, carried, behind, after_step}
use Rattle.table_merge.specs.MergeRules.{Sizes, IsMerged, Merges, StepIs, first_refused, second_refused, as_first, as_second}
use Rattle.table_merge.proofs.MergeRuleLaws.{merge_done, merge_refused, merge_written}

-- the table written, lent alone
written_alone : (q : MergeRequest) (out : List ℕ) (z : Sizes) (m : MergeReport) → Merges q (length out) z m
    → IsMerged q.first q.second q.little z (take m.length (merge_answer q out).out)
written_alone q out z m h =
    let (joined, is, out_is) = merge_written q out z m h in
    let e : m.length ≡ length joined = h.length ∙ sym is.sized in
    subst (IsMerged q.first q.second q.little z) (sym (ap (λ k. take k (merge_answer q out).out) e ∙ ap (take (length joined)) out_is ∙ take-append_seam joined (drop (length joined) out))) is

pub step_is : (s : MergeStep) (c : Carried) → StepIs s c (after_step s c)
unfolding after_step
step_is s c = by s.carried_first refl
  where
    first : s.carried_first ≡ true → (a : Outcome MergeRefusal MergeReport)
        → let q = request c.table s.other s.little in
        (merge_answer q s.out).answer ≡ a → StepIs s c (behind true c (merge_answer q s.out).out a)
    first f (refused r) e = first_refused f ((merge_refused _ s.out r).0 e)
    first f (gave m) e =
        let (z, h) = (merge_done _ s.out m).0 e in
        as_first f h (written_alone _ s.out z m h)

    second : s.carried_first ≡ false → (a : Outcome MergeRefusal MergeReport)
        → let q = request s.other c.table s.little in
        (merge_answer q s.out).answer ≡ a → StepIs s c (behind false c (merge_answer q s.out).out a)
    second f (refused r) e = second_refused f ((merge_refused _ s.out r).0 e)
    second f (gave m) e =
        let (z, h) = (merge_done _ s.out m).0 e in
        let q = request s.other c.table s.little in
        subst (λ (k : ℕ). StepIs s c (carried (take m.length (merge_answer q s.out).out) (c.sum + k))) (sym h.records) (as_second f h (written_alone _ s.out z m h))

    by : (b : Bool) → s.carried_first ≡ b
        → let q = cond b (request c.table s.other s.little) (request s.other c.table s.little) in
        StepIs s c (behind b c (merge_answer q s.out).out (merge_answer q s.out).answer)
    by true f = first f _ refl
    by false f = second f _ refl
