-- Steps of the functions that test the fields of each kind. Assumes nothing.
use mathlib.Core.Path.{◌≡◌, refl, sym, ap, ◌∙◌}
use mathlib.Core.Bool.{Bool, true, ◌&&◌, ◌||◌, and-true, and_assoc, and_comm, or-true}
use mathlib.Core.List.{List, [], ◌∷◌}
use Prim.Native.Nat.{ℕ, ◌≤◌, ◌<◌}
use native.Mathlib.Omega.{arith}
use lib.Dec.{eqb}
use borrow.Author.Tests.{le-leb}
use Rattle.table.specs.Records.{Image, image_of}
use Rattle.meaning.specs.Constraints.{RangeSort, integers, dates}
use Rattle.meaning.specs.Sorts.{range_row}
use Rattle.table.specs.Rows.{range, shape_of, object_kind, place, link, items, none_named, row_of}
use Rattle.table.specs.Check.{pair_right, field_right, fields_right, rest_nought, uses_of, flag_right, obeys, clean}
use Rattle.table.specs.Clauses.Answers.{record_of, Opened, RecordPlaceIs, fields_kept, next_right}
use Rattle.table.specs.declared.records.Entry.{Entry}
use Rattle.table.specs.declared.records.Frame.{Frame}
use Rattle.table.proofs.UseLaws.{shape_kind, plain_kind, plain_shape, none_uses, across_none}
use Rattle.table.proofs.FrameLaws.{pool_opened}

-- what the test of a place tells, in a table that is open
pub place_told : (bs : List ℕ) (f : Frame) (n least most x next : ℕ) (r : Bool) → Opened bs f
    → RecordPlaceIs f.pool least most x next r → r ≡ field_right (image_of bs) n (place least most) x next
place_told bs f n least most x next r o p = p.is (image_of bs) n (pool_opened bs f o)

-- a number below 4 that is none of the first three
three : (k : ℕ) → (k ≡ 0 → ⊥) → (k ≡ 1 → ⊥) → (k ≡ 2 → ⊥) → k < 4 → k ≡ 3
three k h0 h1 h2 l = omega arith

uses_none : (k : ℕ) (xs : List ℕ) → plain_kind k ≡ true → (row_of k).uses xs ≡ none_named
uses_none k xs h = none_uses (shape_of k) xs (plain_shape k h)

-- the tests of each kind's fields, in the order taken
module _ (m : Image) (n : ℕ) (e : Entry) (r : Bool) where
  pub object_is : e.kind ≡ 1
      → r ≡ (field_right m n (place 1 63) e.a e.b
      && (field_right m n (place 0 31) e.c e.d && field_right m n (link (2 ∷ [])) e.e 0))
      → r ≡ fields_kept m n (record_of e)
  unfolding fields_kept clean shape_of field_right
  object_is h q = rw h (simp and-true q)

  pub attribute_is : e.kind ≡ 2
      → r ≡ (field_right m n (place 1 63) e.a e.b
      && (field_right m n (link (object_kind ∷ items)) e.c 0
      && (field_right m n (link (2 ∷ [])) e.d 0 && eqb e.e 0)))
      → r ≡ fields_kept m n (record_of e)
  unfolding fields_kept clean shape_of field_right
  attribute_is h q = rw h (simp (and-true, and_assoc) (simp and_assoc at q))

  range_is : (sort : RangeSort) → e.kind ≡ (range_row sort).kind → r ≡ (pair_right sort e.a e.b && next_right m n e)
      → r ≡ fields_kept m n (record_of e)
  unfolding fields_kept clean field_right
  range_is sort h q = rw (h, uses_of, row_of, shape_kind (range sort)) (simp (and-true, and_assoc) (simp and_assoc at (rw h at q)))

  pub integer_is : e.kind ≡ 4 → r ≡ (pair_right integers e.a e.b && next_right m n e)
      → r ≡ fields_kept m n (record_of e)
  integer_is h q = range_is integers h q

  pub interval_is : e.kind ≡ 7 → r ≡ (pair_right dates e.a e.b && next_right m n e)
      → r ≡ fields_kept m n (record_of e)
  interval_is h q = range_is dates h q

  pub string_is : e.kind ≡ 5 → r ≡ (field_right m n (place 0 255) e.a e.b && next_right m n e)
      → r ≡ fields_kept m n (record_of e)
  unfolding fields_kept clean shape_of field_right
  string_is h q = rw h (simp (and-true, and_assoc) (simp and_assoc at (rw h at q)))

  -- every other kind names no field
  unused_is : plain_kind e.kind ≡ true → r ≡ rest_nought none_named (record_of e).fields
      → r ≡ fields_kept m n (record_of e)
  unfolding fields_kept clean field_right
  unused_is h q = rw (uses_none e.kind (record_of e).fields h) q

  pub unused_at : (k : ℕ) → e.kind ≡ k → plain_kind k ≡ true → r ≡ rest_nought none_named (record_of e).fields
      → r ≡ fields_kept m n (record_of e)
  unused_at k h u q = unused_is (rw h u) q

  pub unused_three : (e.kind ≡ 0 → ⊥) → (e.kind ≡ 1 → ⊥) → (e.kind ≡ 2 → ⊥) → e.kind < 4
      → r ≡ rest_nought none_named (record_of e).fields → r ≡ fields_kept m n (record_of e)
  unused_three h0 h1 h2 l q = unused_at 3 (three e.kind h0 h1 h2 l) refl q

  pub unused_six : 6 ≤ e.kind → e.kind < 7 → r ≡ rest_nought none_named (record_of e).fields
      → r ≡ fields_kept m n (record_of e)
  unused_six h l q = unused_at 6 (omega arith) refl q

  pub unused_from : 7 ≤ e.kind → (e.kind ≡ 7 → ⊥) → r ≡ rest_nought none_named (record_of e).fields
      → r ≡ fields_kept m n (record_of e)
  unused_from h h7 q = unused_is (rw (le-leb 8 e.kind (omega arith)) (or-true (eqb e.kind 0 || eqb e.kind 3 || eqb e.kind 6))) q

-- the rules of the kind and flag, and of the fields
pub rules_are : (m : Image) (n : ℕ) (e : Entry) (r : Bool)
    → r ≡ (fields_kept m n (record_of e) && flag_right e.kind e.flag)
    → r ≡ (obeys m n (record_of e) && clean (record_of e))
unfolding obeys fields_kept
rules_are m n e r q =
    let x = record_of e in
    let flag = flag_right e.kind e.flag in
    let fields = fields_right m n (uses_of x) x.fields in
    rw (across_none (shape_of e.kind) m n x.fields)
    (q ∙ and_comm (fields_kept m n x) flag ∙ sym (and_assoc flag fields (clean x)) ∙ ap (◌&& clean x) (sym (and-true (flag && fields))))

pub ruleset kind_steps = (place_told, object_is, attribute_is, integer_is, string_is, interval_is, unused_at, unused_three, unused_six, unused_from, rules_are)
