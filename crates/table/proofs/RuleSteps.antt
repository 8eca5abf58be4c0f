-- Steps of the functions that test a record's flag and fields. Assumes nothing.
use mathlib.Core.Path.{◌≡◌, refl, sym, subst}
use mathlib.Core.Bool.{Bool, true, false, cond, ◌&&◌, and-false, or-false, false≢true}
use mathlib.Core.List.{List, [], ◌∷◌}
use Prim.Native.Nat.{ℕ, zero, suc, ◌+◌, ◌^◌, ◌≤◌, ◌<◌}
use native.Mathlib.Omega.{arith}
use lib.Dec.{eqb, leb, ltb, leb-zero, leb-suc-zero, eqb-suc-zero}
use lib.ListN.{get_or, get_or-eq_default}
use lib.ListN
use Rattle.std.proofs.Common.{zero-le}
use borrow.Author.Tests.{eq-eqb, ne_eqb, le-leb, lt-leb, lt-ltb}
use Rattle.lexis.specs.Bytes.{within, among}
use Rattle.values.specs.Integers.{twos_complement}
use Rattle.values.specs.Calendar.{real}
use Rattle.values.proofs.Common.{below}
use Rattle.table.specs.Records.{image_of}
use Rattle.meaning.specs.Constraints.{integers, dates}
use Rattle.table.specs.Rows.{table_header, shapes, shape_of, object_kind, is_item, link, items}
use Rattle.table.specs.Check.{kind_at, pair_right, field_right, flag_right}
use Rattle.table.specs.Clauses.Answers.{Opened, RecordPlaceIs}
use Rattle.table.specs.declared.records.Frame.{Frame}
use Rattle.table.proofs.FrameLaws.{count_opened}
use Rattle.table.proofs.UseLaws.{past_shapes, item_shape}

-- a flag of those from 0 on, of those from 1 on, and none
module _ (most x : ℕ) where
  pub flag_in : x < suc most → true ≡ within 0 most x
  flag_in h = rw (le-leb 0 x (omega arith), le-leb x most (omega arith))

  pub flag_set : (x ≡ 0 → ⊥) → x < suc most → true ≡ within 1 most x
  flag_set h g = rw (le-leb 1 x (omega arith), le-leb x most (omega arith))

  pub flag_unset : x ≡ 0 → false ≡ within 1 most x
  flag_unset h = rw h

  pub flag_over : (least : ℕ) → most < x → false ≡ within least most x
  flag_over least h = rw (lt-leb x most h) (sym (and-false (leb least x)))

pub flag_none : (x : ℕ) → eqb x 0 ≡ within 0 0 x
flag_none zero = refl
flag_none (suc x) = rw (leb-zero (suc x), leb-suc-zero x, eqb-suc-zero x)

-- a number that is not the lowest it may be
next : (a k : ℕ) → a ≤ k → (k ≡ a → ⊥) → suc a ≤ k
next a k h g = omega arith

-- the flags of a kind that is known, and of a kind that no record has
module _ (kind flag : ℕ) where
  pub flag_of : (k : ℕ) (x : Bool) → kind ≡ k → x ≡ flag_right k flag → x ≡ flag_right kind flag
  flag_of k x h e = rw h e

  pub flag_of_none : (kind ≡ 0 → ⊥) → (kind ≡ 1 → ⊥) → (kind ≡ 2 → ⊥) → (kind ≡ 3 → ⊥) → (kind ≡ 4 → ⊥) → (kind ≡ 5 → ⊥)
      → (kind ≡ 6 → ⊥) → (kind ≡ 7 → ⊥) → (kind ≡ 8 → ⊥) → (kind ≡ 9 → ⊥)
      → false ≡ flag_right kind flag
  unfolding shape_of
  flag_of_none h0 h1 h2 h3 h4 h5 h6 h7 h8 h9 =
      let l5 = next 4 kind (next 3 kind (next 2 kind (next 1 kind (next 0 kind zero-le h0) h1) h2) h3) h4 in
      let l = next 9 kind (next 8 kind (next 7 kind (next 6 kind (next 5 kind l5 h5) h6) h7) h8) h9 in
      let e : get_or shapes kind table_header ≡ table_header = get_or-eq_default shapes table_header {n = kind} l in
      rw e

-- a place and its length
module _ (pool least most x next : ℕ) where
  pub place_short : next < least → RecordPlaceIs pool least most x next false
  unfolding field_right
  place_short h = record { is = λ m n e. rw (lt-leb least next h) }

  module _ (l : least ≤ next) where
    pub place_long : most < next → RecordPlaceIs pool least most x next false
    unfolding field_right
    place_long h = record { is = λ m n e. rw (le-leb least next l, lt-leb next most h) }

    module _ (k : next ≤ most) where
      pub place_empty : next ≡ 0 → RecordPlaceIs pool least most x next (eqb x 0)
      unfolding field_right
      place_empty h = record { is = λ m n e. rw (le-leb least next l, le-leb next most k, eq-eqb next 0 h) }

      pub place_inside : (next ≡ 0 → ⊥) → RecordPlaceIs pool least most x next (leb (x + next) pool)
      unfolding field_right
      place_inside h = record { is = λ m n e. rw (le-leb least next l, le-leb next most k, ne_eqb next 0 h, e) }

-- a pair of integers
pub integers_told : (x next a b : ℕ) → x < 2 ^ 32 → next < 2 ^ 32 → a ≡ twos_complement x → b ≡ twos_complement next
    → leb a b ≡ pair_right integers x next
unfolding pair_right
integers_told x next a b h g p q = rw (p, q, lt-ltb x (2 ^ 32) h, lt-ltb next (2 ^ 32) g)

-- a pair of dates
module _ (x next : ℕ) (a : Bool) (p : a ≡ real x) where
  pub low_unreal : a ≡ false → a ≡ pair_right dates x next
  unfolding pair_right
  low_unreal h = rw (← p, h)

  module _ (b : Bool) (h : a ≡ true) (q : b ≡ real next) where
    pub high_unreal : b ≡ false → b ≡ pair_right dates x next
    unfolding pair_right
    high_unreal g = rw (← p, ← q, h, g)

    pub dates_ordered : b ≡ true → leb x next ≡ pair_right dates x next
    unfolding pair_right
    dates_ordered g = rw (← p, ← q, h, g)

-- a link of the record with number n
module _ (bs : List ℕ) (n x : ℕ) (ks : List ℕ) where
  pub link_none : x ≡ 0 → eqb x 0 ≡ field_right (image_of bs) n (link ks) x 0
  unfolding field_right
  link_none h = rw (eq-eqb x 0 h)

  module _ (f : Frame) (b : Bool) (h : x ≡ 0 → ⊥) (o : Opened bs f) (e : b ≡ (ltb n x && ltb x f.count)) where
    pub link_astray : b ≡ false → b ≡ field_right (image_of bs) n (link ks) x 0
    unfolding field_right
    link_astray g = rw (ne_eqb x 0 h, count_opened bs f o, ← e, g)

    pub link_kind : (k : ℕ) (r : Bool) → b ≡ true → k ≡ kind_at (image_of bs) x → r ≡ among k ks
        → r ≡ field_right (image_of bs) n (link ks) x 0
    unfolding field_right
    link_kind k r g ek q = rw (ne_eqb x 0 h, count_opened bs f o, ← e, g, ← ek) q

-- of one kind alone
pub only_kind : (k kind : ℕ) → eqb k kind ≡ among k (kind ∷ [])
only_kind k kind = sym (or-false (eqb k kind))

-- an object's kind or an item's
module _ (k : ℕ) where
  pub value_known : (j : ℕ) (x : Bool) → k ≡ j → x ≡ among j (object_kind ∷ items) → x ≡ among k (object_kind ∷ items)
  value_known j x h e = rw h e

  pub value-item : (k ≡ 0 → ⊥) → (k ≡ 1 → ⊥) → (k ≡ 2 → ⊥) → k < ListN.length shapes
      → true ≡ among k (object_kind ∷ items)
  value-item h0 h1 h2 g =
      let e = below (ListN.length shapes) (λ x. cond (leb 3 x) (among x (object_kind ∷ items)) true) refl k g in
      sym (rw (le-leb 3 k (next 2 k (next 1 k (next 0 k zero-le h0) h1) h2)) at e)

  pub value_past : ListN.length shapes ≤ k → false ≡ among k (object_kind ∷ items)
  value_past h = by (among k items) refl
    where
      by : (b : Bool) → among k items ≡ b → false ≡ among k (object_kind ∷ items)
      by true e = absurd (false≢true (subst (λ x. is_item x ≡ true) (past_shapes k h) (item_shape k e)))
      by false e = rw (ne_eqb k object_kind (λ q. omega arith)) (sym e)

pub ruleset flag_steps = (flag_in, flag_set, flag_unset, flag_over, flag_none, flag_of, flag_of_none)

pub ruleset value_steps = (value_known, value-item, value_past)

pub ruleset rule_steps = (place_short, place_long, place_empty, place_inside, integers_told, low_unreal, high_unreal, dates_ordered, link_none, link_astray, link_kind, only_kind)
