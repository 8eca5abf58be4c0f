-- `judge::walk::judge_block`, which calls itself, and `judge_with_memo`, which it is given up for, meet their contracts: the levels left fall, or a memo is there. Assumes nothing.
use mathlib.Core.Path.{sym, ap}
use mathlib.Core.Bool.{not}
use Prim.Native.Nat.{ℕ}
use lib.Dec.{lit<}
use lib.ListN.{length-replicate}
use Rattle.std.proofs.lemmas.Result.{err_from_is_err_and}
use Rattle.judge.proofs.WalkSteps.{memo_effort, object_lies, object_name, visit_small, type_differs_lem, attributes-start, visit_near, attributes_end, attributes_chain, attributes_known, attribute_lies, attribute_at, attribute_less, told_valid, told_fails, levels_some, levels_fall, memo_fall, nested_under, nested_valid, nested_fails}
use Rattle.judge_tape.proofs.MemoLaws.{memo_zeros}
use Rattle.judge.proofs.walk.+judge_block_judge_with_memo.Goals as goal

pub judge_block-entry_at-e-requires : goal.judge_block-entry_at-e-requires
judge_block-entry_at-e-requires t c = search object_lies

pub judge_block-type_suits-requires-clause-b_in_bounds : goal.judge_block-type_suits-requires-clause-b_in_bounds
judge_block-type_suits-requires-clause-b_in_bounds t c = search object_name

pub judge_block-returns-then-not-type_suits-clause-result_value : goal.judge_block-returns-then-not-type_suits-clause-result_value
judge_block-returns-then-not-type_suits-clause-result_value t c = search type_differs_lem

pub judge_block-enter-visit-requires : goal.judge_block-enter-visit-requires
judge_block-enter-visit-requires t c = search visit_small

pub judge_block-loop-object-init : goal.judge_block-loop-object-init
judge_block-loop-object-init t c = search attributes-start

pub judge_block-is_admitted-requires : goal.judge_block-is_admitted-requires
judge_block-is_admitted-requires t c = search visit_near

pub judge_block-judge_with_memo-requires : goal.judge_block-judge_with_memo-requires
judge_block-judge_with_memo-requires t c =
    (memo_fall _ _ _ _ _ _ _ _ _ _ _ _ _ c.loop-object.invariant _ _ c.may_visit.ensures.value (ap not c.if-not-may_visit.true) _ t c.enter-visit.auto.memo c.decreases, c.loop-object.invariant.under)

pub judge_block-returns-then-not-may_visit-clause-memo_good_2 : goal.judge_block-returns-then-not-may_visit-clause-memo_good_2
judge_block-returns-then-not-may_visit-clause-memo_good_2 t c = c.loop-object.invariant.known

pub judge_block-entry_at-a-requires : goal.judge_block-entry_at-a-requires
judge_block-entry_at-a-requires t c =
    attribute_lies _ _ _ _ _ _ _ _ _ _ _ _ _ c.loop-object.invariant _ c.is_admitted.ensures (ap not c.loop-object-test.true)

pub judge_block-judge_attribute-requires-clause-attribute_at : goal.judge_block-judge_attribute-requires-clause-attribute_at
judge_block-judge_attribute-requires-clause-attribute_at t c =
    attribute_at _ _ _ _ _ _ _ _ _ _ _ _ _ c.loop-object.invariant _ c.is_admitted.ensures (ap not c.loop-object-test.true) _ c.entry_at-a.ensures

pub judge_block-judge_attribute-requires-clause-memo_good : goal.judge_block-judge_attribute-requires-clause-memo_good
judge_block-judge_attribute-requires-clause-memo_good t c = c.loop-object.invariant.known

pub judge_block-returns-in_err-inner-clause-result_value : goal.judge_block-returns-in_err-inner-clause-result_value
judge_block-returns-in_err-inner-clause-result_value t c =
    let p = err_from_is_err_and c.from_residual.result c.from_residual.ensures.1 in
    rw (p.1, p.2) (told_fails _ _ _ _ _ _ _ _ _ _ _ _ _ c.loop-object.invariant _ c.is_admitted.ensures (ap not c.loop-object-test.true) _ c.entry_at-a.ensures _ c.judge_attribute.ensures.attribute_answer_is _ c.judge_attribute.ensures.memo_good_2 c.judge_attribute.auto.memo _ c.in_err-inner.was)

pub judge_block-overflow_sub-levels : goal.judge_block-overflow_sub-levels
judge_block-overflow_sub-levels t c = levels_some _ _ _ _ _ _ _ _ _ _ _ _ _ c.loop-object.invariant

pub judge_block-judge_block-requires : goal.judge_block-judge_block-requires
judge_block-judge_block-requires t c =
    (levels_fall _ _ _ _ _ _ _ _ _ _ _ _ _ c.loop-object.invariant _ _ t c.decreases, (nested_under _ _ _ _ _ _ _ _ _ _ _ _ _ c.loop-object.invariant _ c.is_admitted.ensures (ap not c.loop-object-test.true) _ c.entry_at-a.ensures _ c.judge_attribute.ensures.attribute_answer_is _ c.judge_attribute.ensures.memo_good_2 c.judge_attribute.auto.memo _ _ c.in_ok-inner.was c.in-Some.is, c.judge_attribute.ensures.memo_good_2))

pub judge_block-returns-in_err-judge_block-clause-result_value : goal.judge_block-returns-in_err-judge_block-clause-result_value
judge_block-returns-in_err-judge_block-clause-result_value t c =
    let p = err_from_is_err_and c.from_residual-in_err-judge_block.result c.from_residual-in_err-judge_block.ensures.1 in
    rw (p.1, p.2) (nested_fails _ _ _ _ _ _ _ _ _ _ _ _ _ c.loop-object.invariant _ c.is_admitted.ensures (ap not c.loop-object-test.true) _ c.entry_at-a.ensures _ c.judge_attribute.ensures.attribute_answer_is _ c.judge_attribute.ensures.memo_good_2 c.judge_attribute.auto.memo _ _ c.in_ok-inner.was c.in-Some.is _ c.in_err-judge_block.ensures.result_value)

pub judge_block-loop-object-smaller : goal.judge_block-loop-object-smaller
judge_block-loop-object-smaller t c =
    attribute_less _ _ _ _ _ _ _ _ _ _ _ _ _ c.loop-object.invariant _ c.is_admitted.ensures (ap not c.loop-object-test.true) _ c.entry_at-a.ensures

pub judge_block-loop-object-preserved : goal.judge_block-loop-object-preserved
judge_block-loop-object-preserved t c =
    told_valid _ _ _ _ _ _ _ _ _ _ _ _ _ c.loop-object.invariant _ c.is_admitted.ensures (ap not c.loop-object-test.true) _ c.entry_at-a.ensures _ c.judge_attribute.ensures.attribute_answer_is _ c.judge_attribute.ensures.memo_good_2 c.judge_attribute.auto.memo _ c.in_ok-inner.was c.in_default.is

pub judge_block-loop-object-smaller-in_ok-judge_block : goal.judge_block-loop-object-smaller-in_ok-judge_block
judge_block-loop-object-smaller-in_ok-judge_block t c =
    attribute_less _ _ _ _ _ _ _ _ _ _ _ _ _ c.loop-object.invariant _ c.is_admitted.ensures (ap not c.loop-object-test.true) _ c.entry_at-a.ensures

pub judge_block-loop-object-preserved-in_ok-judge_block : goal.judge_block-loop-object-preserved-in_ok-judge_block
judge_block-loop-object-preserved-in_ok-judge_block t c =
    nested_valid _ _ _ _ _ _ _ _ _ _ _ _ _ c.loop-object.invariant _ c.is_admitted.ensures (ap not c.loop-object-test.true) _ c.entry_at-a.ensures _ c.judge_attribute.ensures.attribute_answer_is _ c.judge_attribute.ensures.memo_good_2 c.judge_attribute.auto.memo _ _ c.in_ok-inner.was c.in-Some.is c.in_ok-judge_block.ensures.result_value _ c.judge_block.ensures.memo_good_2 c.judge_block.auto.memo

pub judge_block-mark_chain-requires-clause-chain_good : goal.judge_block-mark_chain-requires-clause-chain_good
judge_block-mark_chain-requires-clause-chain_good t c = search attributes_chain

pub judge_block-returns-clause-result_value : goal.judge_block-returns-clause-result_value
judge_block-returns-clause-result_value t c =
    attributes_end _ _ _ _ _ _ _ _ _ _ _ _ _ c.loop-object.invariant _ c.is_admitted.ensures (ap not c.loop-object-test.false)

pub judge_block-returns-clause-memo_good_2 : goal.judge_block-returns-clause-memo_good_2
judge_block-returns-clause-memo_good_2 t c =
    attributes_known _ _ _ _ _ _ _ _ _ _ _ _ _ c.loop-object.invariant _ c.is_admitted.ensures (ap not c.loop-object-test.false) _ c.mark_chain.ensures.chain_marked

pub judge_with_memo-slice_bounds-judge_block-end : goal.judge_with_memo-slice_bounds-judge_block-end
judge_with_memo-slice_bounds-judge_block-end t c = sym (length-replicate {0} {A = ℕ} 1_048_832 0)

pub judge_with_memo-judge_block-requires : goal.judge_with_memo-judge_block-requires
judge_with_memo-judge_block-requires t c =
    (memo_effort _ 1_048_832 t (lit< tt) c.decreases, (c.requires, memo_zeros _ _ _ _ _ 1_048_832))
