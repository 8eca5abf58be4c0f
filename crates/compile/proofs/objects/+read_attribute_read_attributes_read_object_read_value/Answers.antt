-- `compile::objects::read_object`, `read_attributes`, `read_attribute` and `read_value`, which call each other, meet their contracts: the levels left fall. Assumes nothing.
use mathlib.Core.Path.{refl}
use native.Mathlib.Omega.{arith}
use borrow.Author.Rules.{rules}
use Rattle.std.proofs.lemmas.Result.{err_from_is_err_and}
use Rattle.compile.proofs.ObjectSteps.{counted, object_faulty, object_level, object_any, object_more, object_attributes, value_any, value_object, value_leaf}
use Rattle.compile.proofs.AttributeSteps.{attribute_spans, attribute_faulty, name_room, value_stacked, value_refused, value_closing, value_closed}
use Rattle.compile.proofs.AttributesSteps.{attributes_start, attributes_not, attributes_last, attributes_less, attributes_next, attributes_fits}
use Rattle.compile.proofs.objects.+read_attribute_read_attributes_read_object_read_value.Goals as goal

pub read_attribute-attribute_head-requires : goal.read_attribute-attribute_head-requires
read_attribute-attribute_head-requires t c = search (counted, attribute_spans, rules)

pub read_attribute-returns-in_err-head : goal.read_attribute-returns-in_err-head
read_attribute-returns-in_err-head t c =
    let p = err_from_is_err_and c.from_residual.result c.from_residual.ensures.1 in
    rw (p.1, p.2) (attribute_faulty c.requires _ _ _ _ _ c.in_err-head.ensures)

pub read_attribute-keep_name-inner-requires : goal.read_attribute-keep_name-inner-requires
read_attribute-keep_name-inner-requires t c = name_room c.requires c.in_ok-head.ensures

pub read_attribute-read_value-requires : goal.read_attribute-read_value-requires
read_attribute-read_value-requires t c = (search rules, value_stacked c.requires c.in_ok-head.ensures c.keep_name-inner.ensures)

pub read_attribute-returns-in_err-q : goal.read_attribute-returns-in_err-q
read_attribute-returns-in_err-q t c =
    let p = err_from_is_err_and c.from_residual-in_err-q.result c.from_residual-in_err-q.ensures.1 in
    rw (p.1, p.2) (value_refused c.requires c.in_ok-head.ensures c.keep_name-inner.ensures _ _ _ c.in_err-q.ensures _ refl)

pub read_attribute-close_attribute-requires : goal.read_attribute-close_attribute-requires
read_attribute-close_attribute-requires t c =
    value_closing c.requires c.in_ok-head.ensures c.keep_name-inner.ensures _ _ _ c.in_ok-q.ensures refl

pub read_attribute-returns : goal.read_attribute-returns
read_attribute-returns t c =
    value_closed c.requires c.in_ok-head.ensures c.keep_name-inner.ensures _ _ _ c.in_ok-q.ensures refl _ _ (search rules) c.close_attribute.ensures

pub read_attributes-loop-behind-init : goal.read_attributes-loop-behind-init
read_attributes-loop-behind-init t c = attributes_start _ _ _ _ _ _ c.requires

pub read_attributes-returns-in_err-behind : goal.read_attributes-returns-in_err-behind
read_attributes-returns-in_err-behind t c =
    let p = err_from_is_err_and c.from_residual.result c.from_residual.ensures.1 in
    rw (p.1, p.2) (attributes_not c.loop-behind.invariant c.in_err-behind.ensures _ refl)

pub read_attributes-returns-in-Last : goal.read_attributes-returns-in-Last
read_attributes-returns-in-Last t c = let d = c.in_ok-behind.ensures in search attributes_last

pub read_attributes-overflow_add-top : goal.read_attributes-overflow_add-top
read_attributes-overflow_add-top t c = search (attributes_fits, rules)

pub read_attributes-loop-behind-smaller : goal.read_attributes-loop-behind-smaller
read_attributes-loop-behind-smaller t c = let d = c.in_ok-behind.ensures in search attributes_less

pub read_attributes-loop-behind-preserved : goal.read_attributes-loop-behind-preserved
read_attributes-loop-behind-preserved t c =
    let inv = c.loop-behind.invariant in
    let d = c.in_ok-behind.ensures in
    let g = c.in-More.is in
    search attributes_next

pub read_object-object_head-requires : goal.read_object-object_head-requires
read_object-object_head-requires t c = search (counted, rules)

pub read_object-returns-in_err-head : goal.read_object-returns-in_err-head
read_object-returns-in_err-head t c =
    let p = err_from_is_err_and c.from_residual.result c.from_residual.ensures.1 in
    rw (p.1, p.2) (object_faulty c.requires _ _ _ _ _ _ c.in_err-head.ensures)

pub read_object-returns-then-any : goal.read_object-returns-then-any
read_object-returns-then-any t c = let e = c.in_ok-head.ensures in search object_any

pub read_object-overflow_sub-levels : goal.read_object-overflow_sub-levels
read_object-overflow_sub-levels t c = object_level c.requires _ c.in_ok-head.ensures

pub read_object-read_attributes-requires : goal.read_object-read_attributes-requires
read_object-read_attributes-requires t c =
    let l = object_level c.requires _ c.in_ok-head.ensures in
    (omega arith, object_more c.requires _ c.in_ok-head.ensures c.token_at-t.ensures c.open_object-q.ensures)

pub read_object-returns : goal.read_object-returns
read_object-returns t c =
    let pre = c.requires in
    let e = c.in_ok-head.ensures in
    let tok = c.token_at-t.ensures in
    let put = c.open_object-q.ensures in
    let left = c.if-any.false in
    let d = c.read_attributes.ensures in
    search object_attributes

pub read_value-returns-in-15 : goal.read_value-returns-in-15
read_value-returns-in-15 t c = search value_any

pub read_value-returns-in-2 : goal.read_value-returns-in-2
read_value-returns-in-2 t c = search value_object

pub read_value-returns-in_default : goal.read_value-returns-in_default
read_value-returns-in_default t c = search value_leaf
