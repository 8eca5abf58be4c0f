-- Judging is valid exactly where the object admits the datum, and tells a failure exactly where it is the first. Assumes nothing.
use mathlib.Core.Path.{◌≡◌, refl, sym, ap, ◌∙◌, subst, subst₂}
use mathlib.Core.Logic.{◌≢◌, ◌↔◌}
use mathlib.Core.Bool.{true, cond}
use Rattle.std.specs.Prelude.{Option, None, Some}
use mathlib.Core.List.{List}
use Prim.Native.Nat.{ℕ}
use lib.Dec.{eqb}
use borrow.Author.Tests.{eqb-true, eqb-false, ne_eqb}
use Rattle.lexis.specs.Runs.{same}
use Rattle.lexis.proofs.Cases.{by_cond}
use Rattle.meaning.specs.Constraints.{Leaf, ObjectHead, Object, AttributeHead, Attributes, Value, required, prohibited}
use Rattle.meaning.specs.Constraints
use Rattle.meaning.specs.Data.{Datum, datum, Members, Content}
use Rattle.meaning.specs.Data
use Rattle.meaning.specs.Verdicts.{Verdict, valid, fails}
use Rattle.meaning.specs.Findings.{Finding, unsuited, refuted, admitted}
use Rattle.meaning.specs.Admission.{string_under, word_under, leaf_number}
use Rattle.meaning.specs.Judging.{then_judge, place_of, member_of, type_suits, verdict_of, judge_leaf, judge_member, judge_content, object_number, judge, judge_attributes, judge_value}
use Rattle.rules_grammar.specs.Admits.{TypeSuits, AttributeOf, first, further, MemberOf, Missing, Readable, LeafAdmits, Admits, admits, Satisfy, without, holding, ValueAdmits, anything, block_of, leaf_of}
use Rattle.rules_grammar.specs.Admits
use Rattle.rules_grammar.specs.FirstFailure.{LeafFails, FirstFailure, AttributesFail, AttributeFails, ValueFails}
use Rattle.rules_grammar.specs.FirstFailure
use Rattle.lexis.proofs.TestLaws.{none_some, same_eq, same_self, same_ne, ne_same}
use Rattle.rules_grammar.proofs.Leaves.{Stands, word_stands, string_stands}

-- the member of a name is the one that is looked up
looked_up : (w : List ℕ) (ms : Members) (c : Content) → member_of w ms ≡ Some c → MemberOf w c ms
unfolding member_of
looked_up w Data.no_more c e = absurd (none_some e)
looked_up w (Data.member u x more) c e =
    by_cond (λ (o : Option Content). o ≡ Some c → MemberOf w c (Data.member u x more)) (same w u)
    (λ h g. let p : x ≡ c = cc in let q = same_eq w u h in subst₂ (λ (a : List ℕ) (b : Content). MemberOf w c (Data.member a b more)) q (sym p) Admits.here)
    (λ h g. Admits.behind (same_ne w u h) (looked_up w more c g))
    e

found : {w : List ℕ} {c : Content} {ms : Members} → MemberOf w c ms → member_of w ms ≡ Some c
unfolding member_of
found {w = w} Admits.here = rw (same_self w)
found {w = w} (Admits.behind {u = u} h m) = rw (ne_same w u h) (found m)

not_found : (w : List ℕ) (ms : Members) → member_of w ms ≡ None → Missing w ms
not_found w ms e c m = none_some (sym e ∙ found m)

missed : (w : List ℕ) (ms : Members) → Missing w ms → member_of w ms ≡ None
missed w ms h = go (member_of w ms) refl
  where
    go : (o : Option Content) → member_of w ms ≡ o → o ≡ None
    go None e = refl
    go (Some c) e = absurd (h c (looked_up w ms c e))

-- what a verdict tells of each part
abbrev Told : Object → Datum → Verdict → Type 0
Told o d valid = Admits o d
Told o d (fails r k q) = FirstFailure o d r k q

abbrev AttributesTold : Attributes → ℕ → Members → Verdict → Type 0
AttributesTold xs p ms valid = (a : AttributeHead) (v : Value) → AttributeOf a v xs → Satisfy ms a v
AttributesTold xs p ms (fails r k q) = AttributesFail xs p ms r k q

abbrev MemberTold : AttributeHead → Value → ℕ → Members → Verdict → Type 0
MemberTold a v p ms valid = Satisfy ms a v
MemberTold a v p ms (fails r k q) = AttributeFails a v p ms r k q

abbrev ValueTold : Value → Content → Verdict → Type 0
ValueTold v c valid = ValueAdmits v c
ValueTold v c (fails r k q) = ValueFails v c r k q

-- a leaf
finding_told : (l : Leaf) (c : Content) (f : Finding) → Stands l c f
    → ValueTold (Constraints.leaf l) c (verdict_of (leaf_number l) (place_of c) f)
finding_told l c unsuited h = FirstFailure.leaf_fails (FirstFailure.unreadable h)
finding_told l c refuted h = FirstFailure.leaf_fails (FirstFailure.not_admitted h.0 h.1)
finding_told l c admitted h = leaf_of h

leaf_told : (l : Leaf) (c : Content) → ValueTold (Constraints.leaf l) c (judge_leaf l c)
leaf_told l (Data.string p w) = finding_told l (Data.string p w) (string_under l w) (string_stands l p w)
leaf_told l (Data.word p w) = finding_told l (Data.word p w) (word_under l w) (word_stands l p w)
leaf_told l (Data.block (datum p t ms)) = FirstFailure.leaf_fails FirstFailure.block_for_leaf

-- a member, given its value
some_told : (a : AttributeHead) (v : Value) (p : ℕ) (ms : Members) (o : Option Content) → member_of a.name ms ≡ o
    → ((c : Content) → ValueTold v c (judge_value v c))
    → MemberTold a v p ms (judge_member a p o (λ x. judge_value v x))
some_told a v p ms None h f =
    by_cond (MemberTold a v p ms) (eqb a.existence required)
    (λ g. FirstFailure.missing (eqb-true a.existence required g) (not_found a.name ms h))
    (λ g. without (eqb-false a.existence required g) (not_found a.name ms h))
some_told a v p ms (Some c) h f =
    by_cond (MemberTold a v p ms) (eqb a.existence prohibited)
    (λ g. FirstFailure.forbidden (eqb-true a.existence prohibited g) (looked_up a.name ms c h))
    (λ g. go (eqb-false a.existence prohibited g) (looked_up a.name ms c h) (judge_value v c) (f c))
  where
    go : a.existence ≢ prohibited → MemberOf a.name c ms → (x : Verdict) → ValueTold v c x → MemberTold a v p ms x
    go b m valid t = holding b m t
    go b m (fails r k q) t = FirstFailure.value_fails b m t

-- one attribute and those behind it
more_told : (a : AttributeHead) (v : Value) (more : Attributes) (p : ℕ) (ms : Members) (x y : Verdict)
    → MemberTold a v p ms x → AttributesTold more p ms y
    → AttributesTold (Constraints.attribute a v more) p ms (then_judge x y)
more_told a v more p ms valid valid s t = each
  where
    each : (b : AttributeHead) (x : Value) → AttributeOf b x (Constraints.attribute a v more) → Satisfy ms b x
    each b x first = s
    each b x (further y) = t b x y
more_told a v more p ms valid (fails r k q) s t = FirstFailure.later s t
more_told a v more p ms (fails r k q) y s t = FirstFailure.now s

-- a block, given its attributes
block_told : (o : ObjectHead) (xs : Attributes) (p : ℕ) (u : Option (List ℕ)) (ms : Members) (a : Verdict)
    → AttributesTold xs p ms a
    → Told (Constraints.object o xs) (datum p u ms) (cond (type_suits o.type u) a (fails 21 o.number p))
block_told o xs p None ms valid h = admits Admits.unwritten h
block_told o xs p None ms (fails r k q) h = FirstFailure.inside Admits.unwritten h
block_told o xs p (Some u) ms a h =
    by_cond (Told (Constraints.object o xs) (datum p (Some u) ms)) (same o.type u)
    (λ e. subst (λ x. Told (Constraints.object o xs) (datum p (Some x) ms) a) (same_eq o.type u e) (go a h))
    (λ e. FirstFailure.type_differs (same_ne o.type u e))
  where
    go : (b : Verdict) → AttributesTold xs p ms b → Told (Constraints.object o xs) (datum p (Some o.type) ms) b
    go valid g = admits Admits.own g
    go (fails r k q) g = FirstFailure.inside Admits.own g

content_told : (o : Object) (c : Content) → ((d : Datum) → Told o d (judge o d))
    → ValueTold (Constraints.nested o) c (judge_content (object_number o) (λ d. judge o d) c)
content_told o (Data.string p w) h = FirstFailure.string_for_block
content_told o (Data.word p w) h = FirstFailure.word_for_block
content_told o (Data.block d) h = go (judge o d) (h d)
  where
    go : (x : Verdict) → Told o d x → ValueTold (Constraints.nested o) (Data.block d) x
    go valid t = block_of t
    go (fails r k q) t = FirstFailure.block_fails t

mutual
  unfolding judge

  told : (o : Object) (d : Datum) → Told o d (judge o d)
  told (Constraints.object o xs) (datum p u ms) = block_told o xs p u ms (judge_attributes xs p ms) (attributes_told xs p ms)

  attributes_told : (xs : Attributes) (p : ℕ) (ms : Members) → AttributesTold xs p ms (judge_attributes xs p ms)
  attributes_told Constraints.no_more p ms = λ a v. elim [ ]
  attributes_told (Constraints.attribute a v more) p ms =
      more_told a v more p ms (judge_member a p (member_of a.name ms) (λ x. judge_value v x)) (judge_attributes more p ms)
      (some_told a v p ms (member_of a.name ms) refl (λ c. value_told v c))
      (attributes_told more p ms)

  value_told : (v : Value) (c : Content) → ValueTold v c (judge_value v c)
  value_told Constraints.any c = anything
  value_told (Constraints.nested o) c = content_told o c (λ d. told o d)
  value_told (Constraints.leaf l) c = leaf_told l c

-- the other way round: what holds of each part is the verdict on it
suits : {t : List ℕ} {u : Option (List ℕ)} → TypeSuits t u → type_suits t u ≡ true
suits Admits.unwritten = refl
suits {t = t} Admits.own = same_self t

-- an admitted value is readable
readable : {l : Leaf} {c : Content} → LeafAdmits l c → Readable l c
readable (LeafAdmits.boolean e h) = Readable.boolean e
readable (LeafAdmits.integer e h) = Readable.integer e
readable (LeafAdmits.string h) = Readable.string
readable (LeafAdmits.pattern_date e k h) = Readable.pattern_date e
readable (LeafAdmits.full_date e g h) = Readable.interval_date e
readable (LeafAdmits.time e k h) = Readable.time e
readable (LeafAdmits.duration e h) = Readable.duration e

-- a value stands to a leaf in one way
one_finding : (l : Leaf) (c : Content) (f g : Finding) → Stands l c f → Stands l c g → f ≡ g
one_finding l c unsuited unsuited a b = refl
one_finding l c unsuited refuted a b = absurd (a b.0)
one_finding l c unsuited admitted a b = absurd (a (readable b))
one_finding l c refuted unsuited a b = absurd (b a.0)
one_finding l c refuted refuted a b = refl
one_finding l c refuted admitted a b = absurd (a.1 b)
one_finding l c admitted unsuited a b = absurd (b (readable a))
one_finding l c admitted refuted a b = absurd (b.1 a)
one_finding l c admitted admitted a b = refl

-- a leaf is no block
no_block : (l : Leaf) (d : Datum) → ¬ Readable l (Data.block d)
no_block l d r = elim r [ ]

leaf_finding : (l : Leaf) (c : Content) (f : Finding) → Stands l c f
    → judge_leaf l c ≡ verdict_of (leaf_number l) (place_of c) f
leaf_finding l (Data.string p w) f h = ap (verdict_of (leaf_number l) p) (one_finding l (Data.string p w) (string_under l w) f (string_stands l p w) h)
leaf_finding l (Data.word p w) f h = ap (verdict_of (leaf_number l) p) (one_finding l (Data.word p w) (word_under l w) f (word_stands l p w) h)
leaf_finding l (Data.block (datum p t ms)) unsuited h = refl
leaf_finding l (Data.block (datum p t ms)) refuted h = absurd (no_block l _ h.0)
leaf_finding l (Data.block (datum p t ms)) admitted h = absurd (no_block l _ (readable h))

leaf_failed : (l : Leaf) (c : Content) (r : ℕ) → LeafFails l c r → judge_leaf l c ≡ fails r (leaf_number l) (place_of c)
leaf_failed l (Data.block (datum p t ms)) r FirstFailure.block_for_leaf = refl
leaf_failed l c r (FirstFailure.unreadable h) = leaf_finding l c unsuited h
leaf_failed l c r (FirstFailure.not_admitted h k) = leaf_finding l c refuted (h, k)

member_judged : (a : AttributeHead) (v : Value) (p : ℕ) (ms : Members) (x : Verdict)
    → ((c : Content) (y : Verdict) → ValueTold v c y → judge_value v c ≡ y)
    → MemberTold a v p ms x
    → judge_member a p (member_of a.name ms) (λ c. judge_value v c) ≡ x
member_judged a v p ms valid f (without h m) = rw (missed a.name ms m, ne_eqb a.existence required h)
member_judged a v p ms valid f (holding {c = c} h m t) = rw (found m, ne_eqb a.existence prohibited h) (f c valid t)
member_judged a v p ms (fails r k q) f (FirstFailure.missing h m) = rw (missed a.name ms m, h)
member_judged a v p ms (fails r k q) f (FirstFailure.forbidden h m) = rw (found m, h)
member_judged a v p ms (fails r k q) f (FirstFailure.value_fails {c = c} h m t) = rw (found m, ne_eqb a.existence prohibited h) (f c (fails r k q) t)

no_attribute : {p r k q : ℕ} {ms : Members} → ¬ AttributesFail Constraints.no_more p ms r k q
no_attribute = elim [ ]

no_failure : {c : Content} {r k q : ℕ} → ¬ ValueFails Constraints.any c r k q
no_failure = elim [ ]

-- a value, given its object's verdict
any_judged : (c : Content) (x : Verdict) → ValueTold Constraints.any c x → judge_value Constraints.any c ≡ x
unfolding judge
any_judged c valid h = refl
any_judged c (fails r k q) h = absurd (no_failure h)

nested_judged : (o : Object) (c : Content) (x : Verdict)
    → ((d : Datum) (y : Verdict) → Told o d y → judge o d ≡ y)
    → ValueTold (Constraints.nested o) c x
    → judge_value (Constraints.nested o) c ≡ x
unfolding judge
nested_judged o c valid f (block_of {d = d} h) = f d valid h
nested_judged o c (fails r k q) f FirstFailure.string_for_block = refl
nested_judged o c (fails r k q) f FirstFailure.word_for_block = refl
nested_judged o c (fails r k q) f (FirstFailure.block_fails {d = d} h) = f d (fails r k q) h

leaf-judged : (l : Leaf) (c : Content) (x : Verdict) → ValueTold (Constraints.leaf l) c x
    → judge_value (Constraints.leaf l) c ≡ x
unfolding judge
leaf-judged l c valid (leaf_of h) = leaf_finding l c admitted h
leaf-judged l c (fails r k q) (FirstFailure.leaf_fails h) = leaf_failed l c r h

mutual
  unfolding judge

  judged : (o : Object) (d : Datum) (x : Verdict) → Told o d x → judge o d ≡ x
  judged (Constraints.object o xs) (datum p u ms) valid (admits h k) = rw (suits h) (attributes-judged xs p ms valid k)
  judged (Constraints.object o xs) (datum p u ms) (fails r k q) (FirstFailure.type_differs {u = z} h) = rw (ne_same o.type z h)
  judged (Constraints.object o xs) (datum p u ms) (fails r k q) (FirstFailure.inside h g) = rw (suits h) (attributes-judged xs p ms (fails r k q) g)

  attributes-judged : (xs : Attributes) (p : ℕ) (ms : Members) (x : Verdict) → AttributesTold xs p ms x
      → judge_attributes xs p ms ≡ x
  attributes-judged Constraints.no_more p ms valid h = refl
  attributes-judged Constraints.no_more p ms (fails r k q) h = absurd (no_attribute h)
  attributes-judged (Constraints.attribute a v more) p ms valid h =
      rw (member_judged a v p ms valid (λ c y t. value-judged v c y t) (h a v first)) (attributes-judged more p ms valid (λ b x y. h b x (further y)))
  attributes-judged (Constraints.attribute a v more) p ms (fails r k q) (FirstFailure.now h) =
      rw (member_judged a v p ms (fails r k q) (λ c y t. value-judged v c y t) h)
  attributes-judged (Constraints.attribute a v more) p ms (fails r k q) (FirstFailure.later s t) =
      rw (member_judged a v p ms valid (λ c y t. value-judged v c y t) s) (attributes-judged more p ms (fails r k q) t)

  value-judged : (v : Value) (c : Content) (x : Verdict) → ValueTold v c x → judge_value v c ≡ x
  value-judged Constraints.any c x h = any_judged c x h
  value-judged (Constraints.nested o) c x h = nested_judged o c x (λ d y t. judged o d y t) h
  value-judged (Constraints.leaf l) c x h = leaf-judged l c x h

-- judging is valid exactly where the object admits the datum
pub valid_admits : (o : Object) (d : Datum) → (judge o d ≡ valid) ↔ Admits o d
valid_admits o d = (λ e. subst (Told o d) e (told o d), λ h. judged o d valid h)

-- judging tells a failure exactly where it is the first in the walk
pub fails_first : (o : Object) (d : Datum) (r n p : ℕ) → (judge o d ≡ fails r n p) ↔ FirstFailure o d r n p
fails_first o d r n p = (λ e. subst (Told o d) e (told o d), λ h. judged o d (fails r n p) h)
