-- What the tests of a record's flag and fields pass is what the rules of its kind say. Assumes nothing.
use mathlib.Core.Path.{◌≡◌, refl, sym, subst}
use mathlib.Core.Logic.{◌↔◌}
use mathlib.Core.Bool.{true, false≢true}
use mathlib.Core.List.{List, [], ◌∷◌}
use Prim.Native.Nat.{ℕ, zero, suc, ◌+◌, ◌^◌, ◌≤◌, ◌<◌}
use native.Mathlib.Omega.{arith}
use lib.Dec.{eqb, leb}
use lib.ListN.{length, get_or}
use borrow.Author.Tests.{eqb-true, eq-eqb, ne_eqb, leb-true, le-leb, lt-ltb}
use Rattle.lexis.specs.Bytes.{within, among}
use Rattle.lexis.proofs.Cases.{and_left, and_right}
use Rattle.values.specs.Integers.{twos_complement}
use Rattle.values.specs.Days.{PackedDay}
use Rattle.values.proofs.Common.{by_order}
use Rattle.values.proofs.DayLaws.{packed_day_lem}
use Rattle.meaning.specs.Constraints.{integers, dates}
use Rattle.table.specs.Records.{Record, Image, field_count, field}
use Rattle.table.specs.Rows.{Shape, shape_of, kind_of, is_known, items, Use, unnamed, place, row_for}
use Rattle.table.specs.Check.{pair_right, field_right, fields_right, is_nought, rest_nought, uses_of, clean}
use Rattle.table.specs.TableRules.{PoolPair, Only, ObjectOrItem, TwosComplement}
use Rattle.table.proofs.Checked.{RecordGood}
use Rattle.table.proofs.UseLaws.{by_or, PlaceRight, kind_shape, uses_counted}
use Rattle.table.proofs.CheckLaws.{good_tests, field_at}

-- a place and a length by the rule pass the test of a place
pub place_is : (m : Image) (n : ℕ) {least most x next : ℕ} → PoolPair (length m.pool) least most x next
    → field_right m n (place least most) x next ≡ true
unfolding field_right
place_is m n {least} {most} (PoolPair.empty e) = rw (e, le-leb 0 most (omega arith))
place_is m n {least} {most} (PoolPair.filled {place = x} {size = y} h k l i) =
    rw (le-leb least y k, le-leb y most l, ne_eqb y 0 (omega arith), le-leb (x + y) (length m.pool) i)

-- and those that pass it are so by the rule
pub place_has : (m : Image) (least most x next : ℕ) → PlaceRight m least most x next
    → PoolPair (length m.pool) least most x next
place_has m least most x zero p = subst (λ z. PoolPair (length m.pool) least most z 0) (sym (p.empty refl)) (PoolPair.empty (omega arith))
place_has m least most x (suc next) p = PoolPair.filled {size = suc next} (omega arith) p.at_least p.at_most p.inside

-- the distance of a number in two's complement, by the rule, is the one computed
pub twos_is : {x low : ℕ} → TwosComplement x low → (x < 2 ^ 32) × (low ≡ twos_complement x)
twos_is (TwosComplement.not_negative h) = omega arith
twos_is (TwosComplement.negative h l) = omega arith

-- and the one computed is so by the rule
pub twos_has : (x : ℕ) → x < 2 ^ 32 → TwosComplement x (twos_complement x)
twos_has x h =
    by_order (2 ^ 31) x (λ l. subst (TwosComplement x) (omega arith) (TwosComplement.negative l h))
    (λ l. subst (TwosComplement x) (omega arith) (TwosComplement.not_negative l))

-- two integers by the rule pass the test of a pair
pub integers_are : {x y low high : ℕ} → TwosComplement x low → TwosComplement y high → low ≤ high
    → pair_right integers x y ≡ true
unfolding pair_right
integers_are {x} {y} a b l =
    let p = twos_is a in
    let q = twos_is b in
    rw (lt-ltb x (2 ^ 32) p.0, lt-ltb y (2 ^ 32) q.0, le-leb (twos_complement x) (twos_complement y) (omega arith))

-- so do two dates
pub dates_are : {x y : ℕ} → PackedDay x → PackedDay y → x ≤ y → pair_right dates x y ≡ true
unfolding pair_right
dates_are {x} {y} a b l = rw ((packed_day_lem x).1 a, (packed_day_lem y).1 b, le-leb x y l)

-- what holds of each number of a list holds of one among them
abbrev All : (ℕ → Type 0) → List ℕ → Type 0
All P [] = Unit {0}
All P (x ∷ xs) = P x × All P xs

among-all : (P : ℕ → Type 0) (k : ℕ) (xs : List ℕ) → All P xs → among k xs ≡ true → P k
among-all P k [] a h = absurd (false≢true h)
among-all P k (x ∷ xs) a h =
    by_or (eqb k x) (among k xs) h (λ e. subst P (sym (eqb-true k x e)) a.0) (among-all P k xs a.1)

-- the one kind that a link needs
pub only_rule : (kind k : ℕ) → (among k (kind ∷ []) ≡ true) ↔ Only kind k
only_rule kind k = (among-all (Only kind) k (kind ∷ []) (Only.only, tt), λ o. is o)
  where
    is : {j : ℕ} → Only kind j → among j (kind ∷ []) ≡ true
    is Only.only = rw (eq-eqb kind kind refl)

-- the kinds of an attribute's value
value-kinds : All ObjectOrItem (1 ∷ items)
value-kinds = (
  ObjectOrItem.object,
  (ObjectOrItem.boolean, (ObjectOrItem.integer, (ObjectOrItem.string, (ObjectOrItem.date_pattern, (ObjectOrItem.date_interval, (ObjectOrItem.time_pattern, (ObjectOrItem.duration_pattern, tt))))))),
)

pub value_rule : (k : ℕ) → (among k (1 ∷ items) ≡ true) ↔ ObjectOrItem k
value_rule k = (among-all ObjectOrItem k (1 ∷ items) value-kinds, λ o. is o)
  where
    is : {j : ℕ} → ObjectOrItem j → among j (1 ∷ items) ≡ true
    is ObjectOrItem.object = refl
    is ObjectOrItem.boolean = refl
    is ObjectOrItem.integer = refl
    is ObjectOrItem.string = refl
    is ObjectOrItem.date_pattern = refl
    is ObjectOrItem.date_interval = refl
    is ObjectOrItem.time_pattern = refl
    is ObjectOrItem.duration_pattern = refl

-- where the other fields are 0, each passes that test
nought_at : (us : List Use) (xs : List ℕ) (i : ℕ) → rest_nought us xs ≡ true → i < length us → i < length xs
    → is_nought (get_or us i unnamed) (get_or xs i 0) ≡ true
nought_at [] xs i h k l = absurd (omega arith)
nought_at (u ∷ us) [] i h k l = absurd (omega arith)
nought_at (u ∷ us) (x ∷ xs) zero h k l = and_left (is_nought u x) (rest_nought us xs) h
nought_at (u ∷ us) (x ∷ xs) (suc i) h k l =
    nought_at us xs i (and_right (is_nought u x) (rest_nought us xs) h) (omega arith) (omega arith)

-- each field keeps its rule
abbrev pub Ruled : Image → ℕ → List Use → List ℕ → Type 0
Ruled m n [] xs = Unit {0}
Ruled m n (u ∷ us) [] = Unit {0}
Ruled m n (u ∷ us) (x ∷ xs) = (field_right m n u x (get_or xs 0 0) ≡ true) × Ruled m n us xs

-- so they pass together
pub ruled_right : (m : Image) (n : ℕ) (us : List Use) (xs : List ℕ) → Ruled m n us xs → fields_right m n us xs ≡ true
ruled_right m n [] xs r = refl
ruled_right m n (u ∷ us) [] r = refl
ruled_right m n (u ∷ us) (x ∷ xs) r = rw (r.0, ruled_right m n us xs r.1)

-- what a record of a shape keeps: its kind, its flag, the rule of each named field, and 0 in the others
pub record Kept (m : Image) (n : ℕ) (r : Record) (s : Shape) : Type 0 where
  pub kind : r.kind ≡ kind_of s
  pub known : is_known s ≡ true
  pub least : (row_for s).least ≤ r.flag
  pub most : r.flag ≤ (row_for s).most
  pub named : (i : ℕ) → i < field_count
      → field_right m n (get_or ((row_for s).uses r.fields) i unnamed) (field r i) (field r (suc i)) ≡ true
  pub rest : (i : ℕ) → i < field_count → is_nought (get_or ((row_for s).uses r.fields) i unnamed) (field r i) ≡ true

-- a good record keeps it of its own shape
pub kept : (m : Image) (n : ℕ) (r : Record) → RecordGood m n r → Kept m n r (shape_of r.kind)
unfolding clean
kept m n r g =
    let s = shape_of r.kind in
    let flags = within (row_for s).least (row_for s).most r.flag in
    let p = (good_tests g).0 in
    let w = and_right (is_known s) flags p in
    record {
      kind = kind_shape r.kind (and_left (is_known s) flags p);
      known = and_left (is_known s) flags p;
      least = leb-true (row_for s).least r.flag (and_left _ (leb r.flag (row_for s).most) w);
      most = leb-true r.flag (row_for s).most (and_right (leb (row_for s).least r.flag) _ w);
      named = field_at g;
      rest = λ i h. nought_at (uses_of r) r.fields i g.cleaned (rw (uses_counted s r.fields) h) (rw g.counted h);
    }
