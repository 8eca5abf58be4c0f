-- The rule of a field, by what the field is: what each rule says, that a record's rules give one at each place, and that fields which keep them fit 32 bits. Assumes nothing.
use mathlib.Core.Path.{◌≡◌, refl, ap, subst}
use mathlib.Core.Bool.{Bool, true, false, cond, ◌&&◌, ◌||◌, true≢false, false≢true}
use mathlib.Core.List.{List, [], ◌∷◌}
use Prim.Native.Nat.{ℕ, zero, suc, ◌+◌, ◌-◌, ◌^◌, ◌≤◌, ◌<◌}
use native.Mathlib.Nat.{not-suc-le-zero, le_of_suc-le-suc}
use native.Mathlib.Omega.{arith}
use lib.Dec.{eqb, leb, ltb}
use lib.ListN.{get_or, get_or-eq_default}
use lib.ListN
use borrow.Author.Tests.{eqb-true, eqb-false, leb-true, ltb-true, ltb-false}
use Rattle.lexis.specs.Bytes.{among}
use Rattle.lexis.proofs.Cases.{by_cond, and_left, and_right}
use Rattle.values.specs.Integers.{twos_complement}
use Rattle.values.specs.Calendar.{real}
use Rattle.values.proofs.CalendarLaws.{real_last}
use Rattle.values.proofs.Common.{below}
use Rattle.refusals.specs.Limits.{record_limit, pool_limit}
use Rattle.meaning.specs.Constraints.{booleans, date_pattern, time_pattern, duration_pattern, RangeSort, integers, dates}
use Rattle.table.specs.Records.{Image, field_count, count}
use Rattle.table.specs.Rows.{Shape, table_header, object, attribute, text, single, range, shapes, shape_of, kind_of, is_known, is_item, kinds_from, items, Use, unnamed, place, length, link, low, high, none_named, row_for}
use Rattle.table.specs.Check.{kind_at, pair_right, field_right, fields_right, is_nought, rest_nought}
use Rattle.table.proofs.RecordLaws.{Small}

-- every test of a list passed
abbrev pub Passed : List Bool → Type 0
Passed [] = Unit {0}
Passed (b ∷ bs) = (b ≡ true) × Passed bs

-- a and then the tests of a list, as `◌&&◌` joins them
abbrev pub joined : Bool → List Bool → Bool
joined a [] = a
joined a (b ∷ bs) = joined (a && b) bs

-- tests that passed together each passed
pub each_passed : (a : Bool) (bs : List Bool) → joined a bs ≡ true → Passed (a ∷ bs)
each_passed a [] h = (h, tt)
each_passed a (b ∷ bs) h =
    let p = each_passed (a && b) bs h in
    (and_left a b p.0, (and_right a b p.0, p.1))

-- of two tests one passed
pub by_or : {P : Type 0} (a b : Bool) → (a || b) ≡ true → (a ≡ true → P) → (b ≡ true → P) → P
by_or true b h f g = f refl
by_or false b h f g = g h

-- the rule of a place x with the length next: the length is from least to most, both lie in the pool, and length 0 has place 0
pub record PlaceRight (m : Image) (least most x next : ℕ) : Type 0 where
  pub at_least : least ≤ next
  pub at_most : next ≤ most
  pub inside : x + next ≤ ListN.length m.pool
  pub empty : next ≡ 0 → x ≡ 0

pub place_right : (m : Image) (n least most x next : ℕ) → field_right m n (place least most) x next ≡ true
    → PlaceRight m least most x next
unfolding field_right
place_right m n least most x next h =
    let at = cond (eqb next 0) (eqb x 0) (leb (x + next) (ListN.length m.pool)) in
    let p = each_passed (leb least next) (leb next most ∷ at ∷ []) h in
    let l = leb-true least next p.0 in
    let k = leb-true next most p.1.0 in
    by_cond (λ t. t ≡ true → PlaceRight m least most x next) (eqb next 0)
    (λ e g. let a = eqb-true next 0 e in let b = eqb-true x 0 g in omega arith)
    (λ e g. let a = leb-true (x + next) (ListN.length m.pool) g in let b = eqb-false next 0 e in omega arith) p.1.1.0

-- the rule of a link x of the record with number n, where it is not 0: it leads up to a record of one of the kinds
pub record LinkRight (m : Image) (n : ℕ) (ks : List ℕ) (x : ℕ) : Type 0 where
  pub above : n < x
  pub below : x < count m
  pub kind : among (kind_at m x) ks ≡ true

-- a link is 0 or keeps its rule
pub by_link : {P : Type 0} (m : Image) (n : ℕ) (ks : List ℕ) (x next : ℕ) → field_right m n (link ks) x next ≡ true
    → (x ≡ 0 → P) → (LinkRight m n ks x → P) → P
unfolding field_right
by_link m n ks x next h f g =
    by_or (eqb x 0) (ltb n x && ltb x (count m) && among (kind_at m x) ks) h
    (λ e. f (eqb-true x 0 e))
    (λ e.
    let p = each_passed (ltb n x) (ltb x (count m) ∷ among (kind_at m x) ks ∷ []) e in
    g (record { above = ltb-true n x p.0; below = ltb-true x (count m) p.1.0; kind = p.1.1.0 }))

-- the rule of two integers: 32 bits each, the low end first
pub record IntegersRight (x next : ℕ) : Type 0 where
  pub low : x < 2 ^ 32
  pub high : next < 2 ^ 32
  pub order : twos_complement x ≤ twos_complement next

pub integers_right : (x next : ℕ) → pair_right integers x next ≡ true → IntegersRight x next
unfolding pair_right
integers_right x next h =
    let p = each_passed (ltb x (2 ^ 32)) (ltb next (2 ^ 32) ∷ leb (twos_complement x) (twos_complement next) ∷ []) h in
    record { low = ltb-true x (2 ^ 32) p.0; high = ltb-true next (2 ^ 32) p.1.0; order = leb-true (twos_complement x) (twos_complement next) p.1.1.0 }

-- the rule of two dates: real days, the low end first
pub record DatesRight (x next : ℕ) : Type 0 where
  pub low : real x ≡ true
  pub high : real next ≡ true
  pub order : x ≤ next

pub dates_right : (x next : ℕ) → pair_right dates x next ≡ true → DatesRight x next
unfolding pair_right
dates_right x next h =
    let p = each_passed (real x) (real next ∷ leb x next ∷ []) h in
    record { low = p.0; high = p.1.0; order = leb-true x next p.1.1.0 }

-- both ends of a pair that keeps its rule fit 32 bits
pub pair_small : (sort : RangeSort) (x next : ℕ) → pair_right sort x next ≡ true → (x < 2 ^ 32) × (next < 2 ^ 32)
pair_small integers x next h = let p = integers_right x next h in (p.low, p.high)
pair_small dates x next h =
    let p = dates_right x next h in
    let a = real_last x p.low in
    let b = real_last next p.high in
    (omega arith, omega arith)

-- every kind says what each field of a record is, whatever the fields
pub uses_counted : (s : Shape) (xs : List ℕ) → ListN.length ((row_for s).uses xs) ≡ field_count
uses_counted table_header xs = refl
uses_counted object xs = refl
uses_counted attribute xs = refl
uses_counted text xs = refl
uses_counted (single sort) xs = refl
uses_counted (range sort) xs = refl

-- a kind is that of its shape, and the other way round where a record may have it
pub shape_kind : (s : Shape) → shape_of (kind_of s) ≡ s
unfolding shape_of
shape_kind table_header = refl
shape_kind object = refl
shape_kind attribute = refl
shape_kind text = refl
shape_kind (single booleans) = refl
shape_kind (single date_pattern) = refl
shape_kind (single time_pattern) = refl
shape_kind (single duration_pattern) = refl
shape_kind (range integers) = refl
shape_kind (range dates) = refl

-- a number past the kinds is a header's
pub past_shapes : (k : ℕ) → ListN.length shapes ≤ k → shape_of k ≡ table_header
unfolding shape_of
past_shapes k h = get_or-eq_default shapes table_header h

pub kind_shape : (k : ℕ) → is_known (shape_of k) ≡ true → k ≡ kind_of (shape_of k)
unfolding shape_of
kind_shape k h = by (ltb k (ListN.length shapes)) refl
  where
    by : (b : Bool) → ltb k (ListN.length shapes) ≡ b → k ≡ kind_of (shape_of k)
    by true e = eqb-true k (kind_of (shape_of k)) (below (ListN.length shapes) (λ x. eqb x (kind_of (shape_of x))) refl k (ltb-true k (ListN.length shapes) e))
    by false e = absurd (false≢true (subst (λ x. is_known x ≡ true) (past_shapes k (ltb-false k (ListN.length shapes) e)) h))

-- a shape that names no field, and the kinds of such shapes
abbrev pub names_none : Shape → Bool
names_none table_header = true
names_none object = false
names_none attribute = false
names_none text = false
names_none (single sort) = true
names_none (range sort) = false

abbrev pub plain_kind : ℕ → Bool
plain_kind k = eqb k 0 || eqb k 3 || eqb k 6 || leb 8 k

pub plain_shape : (k : ℕ) → plain_kind k ≡ true → names_none (shape_of k) ≡ true
unfolding shape_of
plain_shape k h = by (ltb k (ListN.length shapes)) refl
  where
    by : (b : Bool) → ltb k (ListN.length shapes) ≡ b → names_none (shape_of k) ≡ true
    by true e = rw h at (below (ListN.length shapes) (λ x. cond (plain_kind x) (names_none (shape_of x)) true) refl k (ltb-true k (ListN.length shapes) e))
    by false e = ap names_none (past_shapes k (ltb-false k (ListN.length shapes) e))

pub none_uses : (s : Shape) (xs : List ℕ) → names_none s ≡ true → (row_for s).uses xs ≡ none_named
none_uses table_header xs h = refl
none_uses object xs h = absurd (false≢true h)
none_uses attribute xs h = absurd (false≢true h)
none_uses text xs h = absurd (false≢true h)
none_uses (single sort) xs h = refl
none_uses (range sort) xs h = absurd (false≢true h)

-- a kind among those that pass a test passes it
kinds_pass : (n : ℕ) (test : Shape → Bool) (xs : List Shape) (k : ℕ) → among k (kinds_from n test xs) ≡ true
    → (n ≤ k) × (test (get_or xs (k - n) table_header) ≡ true)
kinds_pass n test [] k h = absurd (false≢true h)
kinds_pass n test (x ∷ xs) k h =
    let next : among k (kinds_from (suc n) test xs) ≡ true → (n ≤ k) × (test (get_or (x ∷ xs) (k - n) table_header) ≡ true) =
    λ a.
    let p = kinds_pass (suc n) test xs k a in
    let l = p.0 in
    let z : k - n ≡ suc (k - suc n) = omega arith in
    (omega arith, rw z p.1) in
    by_cond (λ l. among k l ≡ true → (n ≤ k) × (test (get_or (x ∷ xs) (k - n) table_header) ≡ true)) (test x)
    (λ t a. by_or (eqb k n) (among k (kinds_from (suc n) test xs)) a (λ e. let q = eqb-true k n e in let z : k - n ≡ 0 = omega arith in (omega arith, rw z t)) next)
    (λ t. next) h

pub item_shape : (k : ℕ) → among k items ≡ true → is_item (shape_of k) ≡ true
unfolding shape_of
item_shape k h = let z : k - 0 ≡ k = omega arith in rw z at (kinds_pass 0 is_item shapes k h).1

-- what a kind's fields are hangs on none of them
pub uses_same : (s : Shape) (xs ys : List ℕ) → (row_for s).uses xs ≡ (row_for s).uses ys
uses_same table_header xs ys = refl
uses_same object xs ys = refl
uses_same attribute xs ys = refl
uses_same text xs ys = refl
uses_same (single sort) xs ys = refl
uses_same (range sort) xs ys = refl

-- no kind has a rule across its fields
pub across_none : (s : Shape) (m : Image) (n : ℕ) (xs : List ℕ) → (row_for s).across m n xs ≡ true
across_none table_header m n xs = refl
across_none object m n xs = refl
across_none attribute m n xs = refl
across_none text m n xs = refl
across_none (single sort) m n xs = refl
across_none (range sort) m n xs = refl

-- fields that keep their rules keep the one at each place
pub use_at : (m : Image) (n : ℕ) (us : List Use) (xs : List ℕ) (i : ℕ) → fields_right m n us xs ≡ true
    → i < ListN.length us → i < ListN.length xs
    → field_right m n (get_or us i unnamed) (get_or xs i 0) (get_or xs (suc i) 0) ≡ true
use_at m n [] xs i h k l = absurd (not-suc-le-zero k)
use_at m n (u ∷ us) [] i h k l = absurd (not-suc-le-zero l)
use_at m n (u ∷ us) (x ∷ xs) zero h k l = and_left (field_right m n u x (get_or xs 0 0)) (fields_right m n us xs) h
use_at m n (u ∷ us) (x ∷ xs) (suc i) h k l =
    use_at m n us xs i (and_right (field_right m n u x (get_or xs 0 0)) (fields_right m n us xs) h) (le_of_suc-le-suc k) (le_of_suc-le-suc l)

-- a rule that bounds the next field, and a use whose own bound the field before gives
abbrev pub bounds_next : Use → Bool
bounds_next unnamed = false
bounds_next (place least most) = ltb most (2 ^ 32)
bounds_next length = false
bounds_next (link ks) = false
bounds_next (low sort) = true
bounds_next high = false

abbrev pub bound_before : Use → Bool
bound_before unnamed = false
bound_before (place least most) = false
bound_before length = true
bound_before (link ks) = false
bound_before (low sort) = false
bound_before high = true

-- where a use has its bound from the field before, that one gives it
abbrev pub tied : Bool → List Use → Bool
tied known [] = true
tied known (u ∷ us) = cond (bound_before u) known true && tied (bounds_next u) us

-- so it is in every row
pub row_tied : (s : Shape) (xs : List ℕ) → tied false ((row_for s).uses xs) ≡ true
row_tied table_header xs = refl
row_tied object xs = refl
row_tied attribute xs = refl
row_tied text xs = refl
row_tied (single sort) xs = refl
row_tied (range sort) xs = refl

-- by the field before, or by its own rule
settled : {P : Type 0} (b known : Bool) → cond b known true ≡ true → (known ≡ true → P) → (b ≡ false → P) → P
settled true known h f g = f h
settled false known h f g = g refl

module _ (m : Image) (few : count m ≤ record_limit) (small : ListN.length m.pool ≤ pool_limit) (n : ℕ) where
  -- a field that keeps its rule fits 32 bits, unless the field before bounds it
  own_small : (u : Use) (x next : ℕ) → field_right m n u x next ≡ true → is_nought u x ≡ true → bound_before u ≡ false
      → x < 2 ^ 32
  own_small unnamed x next h c e = let z = eqb-true x 0 c in omega arith
  own_small (place least most) x next h c e = let p = place_right m n least most x next h in omega arith
  own_small length x next h c e = absurd (true≢false e)
  own_small (link ks) x next h c e = by_link m n ks x next h (λ z. omega arith) (λ l. omega arith)
  own_small (low sort) x next h c e = unfold field_right in (pair_small sort x next h).0
  own_small high x next h c e = absurd (true≢false e)

  -- and so does the next field, where the rule bounds it
  next_small : (u : Use) (x next : ℕ) → field_right m n u x next ≡ true → bounds_next u ≡ true → next < 2 ^ 32
  next_small unnamed x next h e = absurd (false≢true e)
  next_small (place least most) x next h e = let p = place_right m n least most x next h in let l = ltb-true most (2 ^ 32) e in omega arith
  next_small length x next h e = absurd (false≢true e)
  next_small (link ks) x next h e = absurd (false≢true e)
  next_small (low sort) x next h e = unfold field_right in (pair_small sort x next h).1
  next_small high x next h e = absurd (false≢true e)

  -- fields that keep their rules, with 0 where none is named, fit 32 bits
  pub fields_small : (known : Bool) (us : List Use) (xs : List ℕ) → tied known us ≡ true
      → (known ≡ true → get_or xs 0 0 < 2 ^ 32) → ListN.length xs ≤ ListN.length us
      → fields_right m n us xs ≡ true → rest_nought us xs ≡ true → Small xs
  fields_small known [] [] t k l h c = tt
  fields_small known [] (x ∷ xs) t k l h c = absurd (not-suc-le-zero l)
  fields_small known (u ∷ us) [] t k l h c = tt
  fields_small known (u ∷ us) (x ∷ xs) t k l h c =
      let next = get_or xs 0 0 in
      let right = and_left (field_right m n u x next) (fields_right m n us xs) h in (
        settled (bound_before u) known (and_left (cond (bound_before u) known true) (tied (bounds_next u) us) t) k
            (own_small u x next right (and_left (is_nought u x) (rest_nought us xs) c)),
        fields_small (bounds_next u) us xs (and_right (cond (bound_before u) known true) (tied (bounds_next u) us) t) (next_small u x next right) (le_of_suc-le-suc l)
            (and_right (field_right m n u x next) (fields_right m n us xs) h) (and_right (is_nought u x) (rest_nought us xs) c),
      )
