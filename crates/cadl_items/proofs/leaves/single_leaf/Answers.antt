-- `cadl_items::leaves::single_leaf` meets its contract. Assumes nothing.
use native.Mathlib.Omega.{arith}
use Rattle.std.proofs.lemmas.Result.{err_from_is_err_and}
use Rattle.cadl_items.proofs.LeafSteps.{single_other, single_full, single_boolean, single_date, single_time, single_duration}
use Rattle.cadl_items.proofs.leaves.single_leaf.Goals as goal
use Rattle.cadl_items.proofs.leaves.single_leaf.Goals.{in_default-via-then-sort-lt31, in_default-via-else-sort-lt31+else-sort-lt36+then-sort-lt41, in_default-via-else-sort-lt31+else-sort-lt36+else-sort-lt41+else-sort-lt45+then-sort-lt101, in_default-via-else-sort-lt31+else-sort-lt36+else-sort-lt41+else-sort-lt45+else-sort-lt101+else-sort-lt228}

pub returns-then-is_boolean : goal.returns-then-is_boolean
returns-then-is_boolean c = single_boolean _ _ _ c.if-is_boolean.ensures _ c.in_ok-record_left.ensures _ c.boolean_list.ensures

pub returns-in-31-to-35 : goal.returns-in-31-to-35
returns-in-31-to-35 c = search (single_date c.args.s.now c.args.number c.args.t c.if-is_boolean.ensures)

pub returns-in-41-to-44 : goal.returns-in-41-to-44
returns-in-41-to-44 c = search (single_time c.args.s.now c.args.number c.args.t c.if-is_boolean.ensures)

pub returns-in-101-to-227 : goal.returns-in-101-to-227
returns-in-101-to-227 c = search (single_duration c.args.s.now c.args.number c.args.t c.if-is_boolean.ensures)

pub returns-in_default : goal.returns-in_default
returns-in_default c =
    single_other _ _ _ c.if-is_boolean.ensures
    (λ a b. elim c.in_default.branch [ in_default-via-then-sort-lt31 w ↦ omega arith | in_default-via-else-sort-lt31+else-sort-lt36+then-sort-lt41 w ↦ omega arith | in_default-via-else-sort-lt31+else-sort-lt36+else-sort-lt41+else-sort-lt45+then-sort-lt101 w ↦ omega arith | in_default-via-else-sort-lt31+else-sort-lt36+else-sort-lt41+else-sort-lt45+else-sort-lt101+else-sort-lt228 w ↦ omega arith ])
    (λ a b. elim c.in_default.branch [ in_default-via-then-sort-lt31 w ↦ omega arith | in_default-via-else-sort-lt31+else-sort-lt36+then-sort-lt41 w ↦ omega arith | in_default-via-else-sort-lt31+else-sort-lt36+else-sort-lt41+else-sort-lt45+then-sort-lt101 w ↦ omega arith | in_default-via-else-sort-lt31+else-sort-lt36+else-sort-lt41+else-sort-lt45+else-sort-lt101+else-sort-lt228 w ↦ omega arith ])
    (λ a b. elim c.in_default.branch [ in_default-via-then-sort-lt31 w ↦ omega arith | in_default-via-else-sort-lt31+else-sort-lt36+then-sort-lt41 w ↦ omega arith | in_default-via-else-sort-lt31+else-sort-lt36+else-sort-lt41+else-sort-lt45+then-sort-lt101 w ↦ omega arith | in_default-via-else-sort-lt31+else-sort-lt36+else-sort-lt41+else-sort-lt45+else-sort-lt101+else-sort-lt228 w ↦ omega arith ])
    _ c.syntax_fault.ensures

pub returns-in_err-record_left : goal.returns-in_err-record_left
returns-in_err-record_left c =
    let p = err_from_is_err_and c.from_residual.result c.from_residual.ensures.1 in
    rw (p.1, p.2) (single_full _ _ _ c.if-is_boolean.ensures _ c.in_err-record_left.ensures)
