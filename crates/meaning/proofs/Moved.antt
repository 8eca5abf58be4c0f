-- Judging by a tree whose numbers are moved moves the record told, and nothing else. Assumes nothing.
use mathlib.Core.Path.{◌≡◌, refl, sym, ap, ap₂, ◌∙◌}
use mathlib.Core.Bool.{Bool, true, false, cond, ◌||◌}
use Rattle.std.specs.Prelude.{Option, None, Some}
use mathlib.Core.List.{List, [], ◌∷◌, map}
use Prim.Native.Nat.{ℕ, ◌+◌}
use native.Mathlib.Nat.{zero-add, add_assoc}
use native.Mathlib.Omega.{arith}
use lib.Dec.{eqb}
use Rattle.lexis.specs.Runs.{same}
use Rattle.meaning.specs.Constraints.{Range, Text, integers, dates, Leaf, single, ranges, texts, Object, object, AttributeHead, Attributes, attribute, Value, any, nested, leaf, required, prohibited}
use Rattle.meaning.specs.Constraints
use Rattle.meaning.specs.Data.{Datum, datum, Members, Content, string, word, block}
use Rattle.meaning.specs.Verdicts.{Verdict, valid, fails}
use Rattle.meaning.specs.Findings.{Finding, unsuited, refuted, admitted}
use Rattle.meaning.specs.Sorts.{in_range, in_some}
use Rattle.meaning.specs.Admission.{is_some, word_under, string_under, leaf_number}
use Rattle.meaning.specs.Judging.{then_judge, place_of, member_of, type_suits, verdict_of, judge_leaf, judge_member, judge_content, object_number, judge, judge_attributes, judge_value}
use Rattle.meaning.specs.Moving.{moved_range, moved_text, moved_leaf, moved_attribute_head, moved_object, moved_attributes, moved_value, moved_verdict}
use Rattle.meaning.specs.Clauses.Proper.{ProperLeaf, ProperObject, ProperAttributes, ProperValue}

-- the choices on the way
move_cond : (s : ℕ) (b : Bool) (u v : Verdict)
    → moved_verdict s (cond b u v) ≡ cond b (moved_verdict s u) (moved_verdict s v)
move_cond s true u v = refl
move_cond s false u v = refl

move_then : (s : ℕ) (u v : Verdict) → moved_verdict s (then_judge u v) ≡ then_judge (moved_verdict s u) (moved_verdict s v)
move_then s valid v = refl
move_then s (fails r n p) v = refl

move_finding : (s n p : ℕ) (f : Finding) → moved_verdict s (verdict_of n p f) ≡ verdict_of (s + n) p f
move_finding s n p unsuited = refl
move_finding s n p refuted = refl
move_finding s n p admitted = refl

-- a leaf admits the same, and its first item's number is moved
in_some_moved : (s v : ℕ) (l : List Range) → in_some v (map (moved_range s) l) ≡ in_some v l
unfolding in_some
in_some_moved s v [] = refl
in_some_moved s v (x ∷ xs) = ap (λ b. in_range v x || b) (in_some_moved s v xs)

is_some_moved : (s : ℕ) (w : List ℕ) (l : List Text) → is_some w (map (moved_text s) l) ≡ is_some w l
unfolding is_some
is_some_moved s w [] = refl
is_some_moved s w (x ∷ xs) = ap (λ b. same w x.text || b) (is_some_moved s w xs)

word_moved : (s : ℕ) (l : Leaf) (w : List ℕ) → word_under (moved_leaf s l) w ≡ word_under l w
unfolding word_under
word_moved s (single sort n flag) w = refl
word_moved s (ranges integers l) w = simp in_some_moved
word_moved s (ranges dates l) w = simp in_some_moved
word_moved s (texts l) w = refl

string-moved : (s : ℕ) (l : Leaf) (w : List ℕ) → string_under (moved_leaf s l) w ≡ string_under l w
unfolding string_under
string-moved s (single sort n flag) w = refl
string-moved s (ranges sort l) w = refl
string-moved s (texts l) w = simp is_some_moved

pub number-moved : (s : ℕ) (l : Leaf) → ProperLeaf l → leaf_number (moved_leaf s l) ≡ s + leaf_number l
number-moved s (single sort n flag) h = refl
number-moved s (ranges sort []) h = absurd (omega (arith, h.0))
number-moved s (ranges sort (x ∷ xs)) h = refl
number-moved s (texts []) h = absurd (omega (arith, h.0))
number-moved s (texts (x ∷ xs)) h = refl

leaf-moved : (s : ℕ) (l : Leaf) → ProperLeaf l → (c : Content)
    → judge_leaf (moved_leaf s l) c ≡ moved_verdict s (judge_leaf l c)
leaf-moved s l h (string p w) = rw (number-moved s l h, string-moved s l w) (sym (move_finding s (leaf_number l) p (string_under l w)))
leaf-moved s l h (word p w) = rw (number-moved s l h, word_moved s l w) (sym (move_finding s (leaf_number l) p (word_under l w)))
leaf-moved s l h (block (datum p t ms)) = rw (number-moved s l h)

member_moved : (s : ℕ) (a : AttributeHead) (place : ℕ) (o : Option Content) (f g : Content → Verdict)
    → ((c : Content) → f c ≡ moved_verdict s (g c))
    → judge_member (moved_attribute_head s a) place o f ≡ moved_verdict s (judge_member a place o g)
member_moved s a place None f g h = sym (move_cond s (eqb a.existence required) (fails 22 a.number place) valid)
member_moved s a place (Some c) f g h =
    let banned = eqb a.existence prohibited in
    ap (cond banned (fails 23 (s + a.number) (place_of c))) (h c) ∙ sym (move_cond s banned (fails 23 a.number (place_of c)) (g c))

content_moved : (s n : ℕ) (f g : Datum → Verdict) → ((d : Datum) → f d ≡ moved_verdict s (g d)) → (c : Content)
    → judge_content (s + n) f c ≡ moved_verdict s (judge_content n g c)
content_moved s n f g h (string p w) = refl
content_moved s n f g h (word p w) = refl
content_moved s n f g h (block d) = h d

object_number_lem : (o : Object) (s : ℕ) → object_number (moved_object o s) ≡ s + object_number o
unfolding moved_object
object_number_lem (object h xs) s = refl

mutual
  unfolding judge moved_object ProperObject

  pub judge_moved : (o : Object) (s : ℕ) → ProperObject o → (d : Datum)
      → judge (moved_object o s) d ≡ moved_verdict s (judge o d)
  judge_moved (object a xs) s h (datum p u ms) =
      let suits = type_suits a.type u in
      ap (λ (v : Verdict). cond suits v (fails 21 (s + a.number) p)) (attributes-moved xs s h.2 p ms)
      ∙ sym (move_cond s suits (judge_attributes xs p ms) (fails 21 a.number p))

  attributes-moved : (xs : Attributes) (s : ℕ) → ProperAttributes xs → (place : ℕ) (ms : Members)
      → judge_attributes (moved_attributes xs s) place ms ≡ moved_verdict s (judge_attributes xs place ms)
  attributes-moved Constraints.no_more s h place ms = refl
  attributes-moved (attribute a v more) s h place ms =
      let member = member_of a.name ms in
      ap₂ then_judge (member_moved s a place member (λ x. judge_value (moved_value v s) x) (λ x. judge_value v x) (λ x. value-moved v s h.2 x)) (attributes-moved more s h.3 place ms)
      ∙ sym (move_then s (judge_member a place member (λ x. judge_value v x)) (judge_attributes more place ms))

  value-moved : (v : Value) (s : ℕ) → ProperValue v → (c : Content)
      → judge_value (moved_value v s) c ≡ moved_verdict s (judge_value v c)
  value-moved any s h c = refl
  value-moved (nested o) s h c =
      ap (λ n. judge_content n (λ d. judge (moved_object o s) d) c) (object_number_lem o s)
      ∙ content_moved s (object_number o) (λ d. judge (moved_object o s) d) (λ d. judge o d) (λ d. judge_moved o s h d) c
  value-moved (leaf l) s h c = leaf-moved s l h c

-- moving by nothing, and moving twice
ranges_none : (l : List Range) → map (moved_range 0) l ≡ l
ranges_none [] = refl
ranges_none (x ∷ xs) = ap₂ ◌∷◌ (λ i. record { number = zero-add x.number i; low = x.low; high = x.high }) (ranges_none xs)

texts_none : (l : List Text) → map (moved_text 0) l ≡ l
texts_none [] = refl
texts_none (x ∷ xs) = ap₂ ◌∷◌ (λ i. record { number = zero-add x.number i; text = x.text }) (texts_none xs)

ranges_twice : (s r : ℕ) (l : List Range) → map (moved_range s) (map (moved_range r) l) ≡ map (moved_range (s + r)) l
ranges_twice s r [] = refl
ranges_twice s r (x ∷ xs) = ap₂ ◌∷◌ (λ i. record { number = sym (add_assoc s r x.number) i; low = x.low; high = x.high }) (ranges_twice s r xs)

texts_twice : (s r : ℕ) (l : List Text) → map (moved_text s) (map (moved_text r) l) ≡ map (moved_text (s + r)) l
texts_twice s r [] = refl
texts_twice s r (x ∷ xs) = ap₂ ◌∷◌ (λ i. record { number = sym (add_assoc s r x.number) i; text = x.text }) (texts_twice s r xs)

leaf_none : (l : Leaf) → moved_leaf 0 l ≡ l
leaf_none (single sort n flag) = simp zero-add
leaf_none (ranges sort l) = ap (ranges sort) (ranges_none l)
leaf_none (texts l) = ap texts (texts_none l)

leaf_twice : (s r : ℕ) (l : Leaf) → moved_leaf s (moved_leaf r l) ≡ moved_leaf (s + r) l
leaf_twice s r (single sort n flag) = simp add_assoc
leaf_twice s r (ranges sort l) = ap (ranges sort) (ranges_twice s r l)
leaf_twice s r (texts l) = ap texts (texts_twice s r l)

mutual
  unfolding moved_object

  pub moved_none : (o : Object) → moved_object o 0 ≡ o
  moved_none (object h xs) = λ i. object (record { number = zero-add h.number i; type = h.type; code = h.code }) (attributes_none xs i)

  attributes_none : (xs : Attributes) → moved_attributes xs 0 ≡ xs
  attributes_none Constraints.no_more = refl
  attributes_none (attribute h v more) = λ i. attribute (record { number = zero-add h.number i; existence = h.existence; name = h.name }) (value_none v i) (attributes_none more i)

  value_none : (v : Value) → moved_value v 0 ≡ v
  value_none any = refl
  value_none (nested o) = ap nested (moved_none o)
  value_none (leaf l) = ap leaf (leaf_none l)

mutual
  unfolding moved_object

  pub moved_twice : (o : Object) (s r : ℕ) → moved_object (moved_object o r) s ≡ moved_object o (s + r)
  moved_twice (object h xs) s r = λ i. object (record { number = sym (add_assoc s r h.number) i; type = h.type; code = h.code }) (attributes_twice xs s r i)

  attributes_twice : (xs : Attributes) (s r : ℕ) → moved_attributes (moved_attributes xs r) s ≡ moved_attributes xs (s + r)
  attributes_twice Constraints.no_more s r = refl
  attributes_twice (attribute h v more) s r = λ i. attribute (record { number = sym (add_assoc s r h.number) i; existence = h.existence; name = h.name }) (value_twice v s r i) (attributes_twice more s r i)

  value_twice : (v : Value) (s r : ℕ) → moved_value (moved_value v r) s ≡ moved_value v (s + r)
  value_twice any s r = refl
  value_twice (nested o) s r = ap nested (moved_twice o s r)
  value_twice (leaf l) s r = ap leaf (leaf_twice s r l)
