-- Steps of the functions that try a value: the walk over items, and a value of each kind. Assumes nothing.
use mathlib.Core.Path.{◌≡◌, refl, sym, ap, ap₂, ◌∙◌}
use mathlib.Core.Bool.{Bool, true, false, cond, ◌||◌, or-false}
use mathlib.Core.List.{List, [], ◌∷◌, map}
use Prim.Native.Nat.{ℕ, zero, suc, ◌+◌, ◌*◌, ◌-◌, ◌≤◌, ◌<◌}
use native.Mathlib.Nat.{add-sub_cancel_left}
use native.Mathlib.Omega.{arith}
use lib.Dec.{eqb, leb}
use lib.ListN.{length, get_or, take, drop}
use lib.Seq.{get_or-take, get_or-drop}
use borrow.Author.Tests.{ne_eqb, lt-leb, le-leb}
use Rattle.lexis.specs.Runs.{same}
use Rattle.values.proofs.Common.{by_order}
use Rattle.meaning.specs.Constraints.{RangeSort, integers, dates, SingleSort, booleans, date_pattern, time_pattern, duration_pattern, single, ranges}
use Rattle.meaning.specs.Findings.{Finding, unsuited, found}
use Rattle.meaning.specs.Sorts.{in_range, in_some, single_row, range_row, text_kind}
use Rattle.meaning.specs.Admission.{is_some, word_under, string_under}
use Rattle.table.specs.Records.{record_size, decode, field, record_in}
use Rattle.table.specs.Rows.{Shape, table_header, object, attribute, text, range, shape_of, kind_of, is_known, is_listed}
use Rattle.table.specs.Rows
use Rattle.table.proofs.UseLaws.{kind_shape}
use Rattle.table.specs.Clauses.Answers.{record_of}
use Rattle.table.specs.declared.records.Entry.{Entry}
use Rattle.judge_admission.specs.Clauses.Items.{name_of, NamedRecord, record_items, record_range, range_in, text_in, ranges_from, texts_from, leaf_of_shape, record_leaf, Lies, OfKind, Chained, Spelled, ItemsGood, item_of_shape}
use Rattle.judge_admission.specs.Clauses.Answers.{finding_under, is_admitted, item_admits}

-- a value between the ends of an item
module _ (sort : RangeSort) (e : Entry) (v low : ℕ) (el : low ≡ (range_row sort).end e.a) where
  pub range_below : v < low → false ≡ in_range v (record_range sort 0 (record_of e))
  range_below h = rw (← el, lt-leb low v h)

  pub range_above : (high : ℕ) → low ≤ v → high ≡ (range_row sort).end e.b
      → leb v high ≡ in_range v (record_range sort 0 (record_of e))
  range_above high h eh = rw (← el, ← eh, le-leb low v h)

-- what a walk over items still has to do
abbrev pub left : List ℕ → ℕ → ℕ
left records n = cond (eqb n 0) 0 (length records - n)

-- at item n of the walk from `first` on, for a test over all items
pub record InItems (records : List ℕ) (kind : ℕ) (has : List ℕ → Bool) (first n : ℕ) : Type 0 where
  pub fuel : ℕ
  pub enough : 0 < n → length records ≤ n + fuel
  pub low : 0 < n → first ≤ n
  pub here : 0 < n → OfKind records kind n
  pub is : has (record_items records fuel n) ≡ has (record_items records (length records) first)

-- the items of a walk that is over, and of one that is not
pub items_none : (records : List ℕ) (fuel : ℕ) → record_items records fuel 0 ≡ []
unfolding record_items
items_none records zero = refl
items_none records (suc fuel) = refl

pub items_some : (records : List ℕ) (fuel n : ℕ) → (n ≡ 0 → ⊥)
    → record_items records (suc fuel) n ≡ n ∷ record_items records fuel (field (record_in records n) 4)
unfolding record_items
items_some records fuel n h = rw (ne_eqb n 0 h)

module _ {records : List ℕ} {kind : ℕ} {has : List ℕ → Bool} {first : ℕ} where
  pub items_start : Chained records kind first → InItems records kind has first first
  items_start c = record { fuel = length records; enough = λ h. omega arith; low = λ h. omega arith; here = c.here; is = refl }

  module _ {n : ℕ} (i : InItems records kind has first n) where
    pub items_end : n ≡ 0 → has [] ≡ has (record_items records (length records) first)
    items_end h = ap has (sym (items_none records i.fuel)) ∙ ap (λ k. has (record_items records i.fuel k)) (sym h) ∙ i.is

    module _ (h : n ≡ 0 → ⊥) where
      pub items_lies : Lies records n
      items_lies = (i.here (omega arith)).lies

      -- the first of the items that are left
      pub items_now : (fuel : ℕ) × (length records ≤ suc n + fuel)
          × (has (n ∷ record_items records fuel (field (record_in records n) 4))
          ≡ has (record_items records (length records) first))
      items_now = by i.fuel (i.enough (omega arith)) i.is
        where
          by : (fuel : ℕ) → length records ≤ n + fuel
              → has (record_items records fuel n) ≡ has (record_items records (length records) first)
              → (fuel : ℕ) × (length records ≤ suc n + fuel)
              × (has (n ∷ record_items records fuel (field (record_in records n) 4))
              ≡ has (record_items records (length records) first))
          by zero l e = absurd (let k = items_lies in omega arith)
          by (suc fuel) l e = (fuel, omega arith, ap has (sym (items_some records fuel n h)) ∙ e)

      module _ (c : Chained records kind first) {next : ℕ} (e : next ≡ field (record_in records n) 4) where
        up : 0 < next → (n < next) × OfKind records kind next
        up = rw (← e) at (c.up n (i.low (omega arith)) (i.here (omega arith)))

        pub items_less : left records next < left records n
        items_less =
            let l = items_lies in
            rw (ne_eqb n 0 h)
            (by_order next 0
            (λ z. let q : next ≡ 0 = omega arith in rw q (omega arith))
            (λ z. let u = up z in rw (ne_eqb next 0 (λ q. omega arith)) (omega arith)))

        pub items_next : ((ns : List ℕ) → has (n ∷ ns) ≡ has ns) → InItems records kind has first next
        items_next f =
            let w = items_now in
            record {
              fuel = w.0;
              enough = λ z. let u = up z in let k = w.1 in omega arith;
              low = λ z. let u = up z in let k = i.low (omega arith) in omega arith;
              here = λ z. (up z).1;
              is = ap (λ k. has (record_items records w.0 k)) e ∙ sym (f (record_items records w.0 (field (record_in records n) 4))) ∙ w.2;
            }

-- a value in some of the ranges with these numbers
unfoldable pub in_ranges : RangeSort → List ℕ → ℕ → List ℕ → Bool
in_ranges sort records v ns = in_some v (map (range_in sort records) ns)

abbrev pub InRanges : List ℕ → RangeSort → ℕ → ℕ → ℕ → Type 0
InRanges records sort v first n = InItems records (range_row sort).kind (in_ranges sort records v) first n

module _ (records : List ℕ) (sort : RangeSort) (v first n : ℕ) (i : InRanges records sort v first n) where
  pub ranges_end : n ≡ 0 → false ≡ in_some v (ranges_from sort records first)
  unfolding in_ranges in_some
  ranges_end h = items_end i h

  module _ (h : n ≡ 0 → ⊥) (e : Entry) (q : record_of e ≡ record_in records n) (r : Bool)
      (t : r ≡ in_range v (record_range sort 0 (record_of e))) where
    is_test : r ≡ in_range v (range_in sort records n)
    is_test = t ∙ ap (λ x. in_range v (record_range sort 0 x)) q

    pub ranges_found : r ≡ true → true ≡ in_some v (ranges_from sort records first)
    unfolding in_ranges in_some
    ranges_found y =
        let w = items_now i h in
        ap (λ b. b || in_ranges sort records v (record_items records w.0 (field (record_in records n) 4))) (sym y ∙ is_test) ∙ w.2

    pub ranges_next : Chained records (range_row sort).kind first → r ≡ false → InRanges records sort v first e.e
    unfolding in_ranges in_some
    ranges_next c y = items_next i h c (ap (λ x. field x 4) q) (λ ns. ap (λ b. b || in_ranges sort records v ns) (sym is_test ∙ y))

    pub ranges_less : Chained records (range_row sort).kind first → left records e.e < left records n
    ranges_less c = items_less i h c (ap (λ x. field x 4) q)

-- a value that is some of the texts with these numbers
unfoldable pub in_texts : List ℕ → List ℕ → List ℕ → List ℕ → Bool
in_texts records pool w ns = is_some w (map (text_in records pool) ns)

abbrev pub InTexts : List ℕ → List ℕ → List ℕ → ℕ → ℕ → Type 0
InTexts records pool w first n = InItems records text_kind (in_texts records pool w) first n

module _ (records pool w : List ℕ) (first n : ℕ) (i : InTexts records pool w first n) where
  pub texts_end : n ≡ 0 → false ≡ is_some w (texts_from records pool first)
  unfolding in_texts is_some
  texts_end h = items_end i h

  module _ (h : n ≡ 0 → ⊥) (e : Entry) (q : record_of e ≡ record_in records n) where
    pub text_inside : Spelled records pool first → e.a + e.b ≤ length pool
    text_inside p = rw (← q) at (p.inside n (i.low (omega arith)) (i.here (omega arith)))

    module _ (name : List ℕ) (en : name ≡ name_of pool (record_of e)) (r : Bool) (t : r ≡ same w name) where
      is_text : r ≡ same w (text_in records pool n).text
      is_text = t ∙ ap (same w) (en ∙ ap (name_of pool) q)

      pub texts_found : r ≡ true → true ≡ is_some w (texts_from records pool first)
      unfolding in_texts is_some
      texts_found y =
          let k = items_now i h in
          ap (λ b. b || in_texts records pool w (record_items records k.0 (field (record_in records n) 4))) (sym y ∙ is_text) ∙ k.2

      pub texts_next : Chained records text_kind first → r ≡ false → InTexts records pool w first e.e
      unfolding in_texts is_some
      texts_next c y = items_next i h c (ap (λ x. field x 4) q) (λ ns. ap (λ b. b || in_texts records pool w ns) (sym is_text ∙ y))

    pub texts_less : Chained records text_kind first → left records e.e < left records n
    texts_less c = items_less i h c (ap (λ x. field x 4) q)

-- a record, as it is read
pub entry_read : (records : List ℕ) (n at : ℕ) (e : Entry) → at ≡ record_size * n
    → record_of e ≡ decode (take record_size (drop at records)) → record_of e ≡ record_in records n
entry_read records n at e h q = rw h at q

-- the part of the pool that a name is
pub name_part : (pool : List ℕ) (e : Entry) → take (e.a + e.b - e.a) (drop e.a pool) ≡ name_of pool (record_of e)
name_part pool e = rw add-sub_cancel_left

-- a string under the leaf of another shape than a string's, and a word under what is no leaf's
module _ (records pool w : List ℕ) (n : ℕ) where
  string-other : (k : ℕ) → (k ≡ text_kind → ⊥) → unsuited ≡ finding_under (leaf_of_shape records pool n (shape_of k)) true w
  unfolding string_under
  string-other k h = by (shape_of k) (kind_shape k)
    where
      by : (s : Shape) → (is_known s ≡ true → k ≡ kind_of s)
          → unsuited ≡ finding_under (leaf_of_shape records pool n s) true w
      by table_header e = refl
      by object e = refl
      by attribute e = refl
      by text e = absurd (h (e refl))
      by (Rows.single sort) e = refl
      by (range sort) e = refl

  word_none : (k : ℕ) → (k ≡ 3 → ⊥) → (k ≡ 4 → ⊥) → (k ≡ 6 → ⊥) → (k ≡ 7 → ⊥) → (k ≡ 8 → ⊥) → (k ≡ 9 → ⊥)
      → unsuited ≡ finding_under (leaf_of_shape records pool n (shape_of k)) false w
  unfolding word_under
  word_none k h3 h4 h6 h7 h8 h9 = by (shape_of k) (kind_shape k)
    where
      by : (s : Shape) → (is_known s ≡ true → k ≡ kind_of s)
          → unsuited ≡ finding_under (leaf_of_shape records pool n s) false w
      by table_header e = refl
      by object e = refl
      by attribute e = refl
      by text e = refl
      by (Rows.single booleans) e = absurd (h3 (e refl))
      by (Rows.single date_pattern) e = absurd (h6 (e refl))
      by (Rows.single time_pattern) e = absurd (h8 (e refl))
      by (Rows.single duration_pattern) e = absurd (h9 (e refl))
      by (range integers) e = absurd (h4 (e refl))
      by (range dates) e = absurd (h7 (e refl))

-- what each kind answers, its entry read
module _ (records pool w : List ℕ) (first : ℕ) (e : Entry) (q : record_of e ≡ record_in records first) (s : Bool) where
  -- the leaf is that of the entry's shape
  shape_read : (x : Shape) (f : Finding) → shape_of e.kind ≡ x
      → f ≡ finding_under (leaf_of_shape records pool first x) s w
      → f ≡ finding_under (record_leaf records pool first) s w
  shape_read x f h g = g ∙ ap (λ y. finding_under (leaf_of_shape records pool first y) s w) (sym h ∙ ap (λ r. shape_of r.kind) q)

  -- a leaf of one record, by the flag that was read
  single_read : (sort : SingleSort) (f : Finding) → shape_of e.kind ≡ Rows.single sort → s ≡ false
      → f ≡ word_under (single sort 0 e.flag) w → f ≡ finding_under (record_leaf records pool first) s w
  unfolding word_under
  single_read sort f h y g = shape_read (Rows.single sort) f h (rw y (g ∙ ap (λ r. (single_row sort).under r.flag w) q))

  module _ (y : s ≡ true) where
    pub string_not : (e.kind ≡ 5 → ⊥) → unsuited ≡ finding_under (record_leaf records pool first) s w
    string_not h = shape_read (shape_of e.kind) unsuited refl (rw y (string-other records pool w first e.kind h))

    pub string_kind : (r : Bool) (f : Finding) → e.kind ≡ 5 → r ≡ is_some w (texts_from records pool first) → f ≡ found r
        → f ≡ finding_under (record_leaf records pool first) s w
    unfolding shape_of string_under
    string_kind r f h z g = shape_read text f (ap shape_of h) (rw y (g ∙ ap found z))

  module _ (y : s ≡ false) where
    pub word_not : (e.kind ≡ 3 → ⊥) → (e.kind ≡ 4 → ⊥) → (e.kind ≡ 6 → ⊥) → (e.kind ≡ 7 → ⊥) → (e.kind ≡ 8 → ⊥)
        → (e.kind ≡ 9 → ⊥) → unsuited ≡ finding_under (record_leaf records pool first) s w
    word_not h3 h4 h6 h7 h8 h9 = shape_read (shape_of e.kind) unsuited refl (rw y (word_none records pool w first e.kind h3 h4 h6 h7 h8 h9))

    pub word-string : e.kind ≡ 5 → unsuited ≡ finding_under (record_leaf records pool first) s w
    unfolding shape_of word_under
    word-string h = shape_read text unsuited (ap shape_of h) (rw y refl)

    pub word-integer : (f : Finding) → e.kind ≡ 4
        → f ≡ word_under (ranges integers (ranges_from integers records first)) w
        → f ≡ finding_under (record_leaf records pool first) s w
    unfolding shape_of
    word-integer f h g = shape_read (range integers) f (ap shape_of h) (rw y g)

    pub word-date : (f : Finding) → e.kind ≡ 7 → f ≡ word_under (ranges dates (ranges_from dates records first)) w
        → f ≡ finding_under (record_leaf records pool first) s w
    unfolding shape_of
    word-date f h g = shape_read (range dates) f (ap shape_of h) (rw y g)

    pub word_boolean : (f : Finding) → e.kind ≡ 3 → f ≡ word_under (single booleans 0 e.flag) w
        → f ≡ finding_under (record_leaf records pool first) s w
    unfolding shape_of
    word_boolean f h g = single_read booleans f (ap shape_of h) y g

    pub word-date_pattern : (f : Finding) → e.kind ≡ 6 → f ≡ word_under (single date_pattern 0 e.flag) w
        → f ≡ finding_under (record_leaf records pool first) s w
    unfolding shape_of
    word-date_pattern f h g = single_read date_pattern f (ap shape_of h) y g

    pub word_time_pattern : (f : Finding) → e.kind ≡ 8 → f ≡ word_under (single time_pattern 0 e.flag) w
        → f ≡ finding_under (record_leaf records pool first) s w
    unfolding shape_of
    word_time_pattern f h g = single_read time_pattern f (ap shape_of h) y g

    pub word_duration_pattern : (f : Finding) → e.kind ≡ 9 → f ≡ word_under (single duration_pattern 0 e.flag) w
        → f ≡ finding_under (record_leaf records pool first) s w
    unfolding shape_of
    word_duration_pattern f h g = single_read duration_pattern f (ap shape_of h) y g

-- an item alone
found_back : (b : Bool) → is_admitted (found b) ≡ b
found_back true = refl
found_back false = refl

module _ (w : List ℕ) (e : Entry) where
  module _ (pool : List ℕ) (s : Bool) where
    pub alone_named : NamedRecord pool (record_of e) → e.kind ≡ 5 → e.a + e.b ≤ length pool
    alone_named n k = n.inside k

    -- the item is that of the entry's shape
    shape_alone : (x : Shape) (b r : Bool) → shape_of e.kind ≡ x → s ≡ b
        → r ≡ is_admitted (finding_under (item_of_shape pool (record_of e) x) b w) → r ≡ item_admits pool (record_of e) s w
    shape_alone x b r h y g = g ∙ ap₂ (λ z c. is_admitted (finding_under (item_of_shape pool (record_of e) z) c w)) (sym h) (sym y)

    pub string_alone : s ≡ true → e.kind ≡ 5 → (name : List ℕ) (r : Bool) → name ≡ name_of pool (record_of e)
        → r ≡ same w name → r ≡ item_admits pool (record_of e) s w
    unfolding shape_of string_under is_some
    string_alone y k name r en t = shape_alone text true r (ap shape_of k) y (sym (found_back r) ∙ rw or-false (ap (λ b. is_admitted (found b)) (t ∙ ap (same w) en)))

    pub string_alone_not : s ≡ true → (e.kind ≡ 5 → ⊥) → false ≡ item_admits pool (record_of e) s w
    unfolding string_under
    string_alone_not y k = shape_alone (shape_of e.kind) true false refl y (by (shape_of e.kind) (kind_shape e.kind))
      where
        by : (x : Shape) → (is_known x ≡ true → e.kind ≡ kind_of x)
            → false ≡ is_admitted (finding_under (item_of_shape pool (record_of e) x) true w)
        by table_header h = refl
        by object h = refl
        by attribute h = refl
        by text h = absurd (k (h refl))
        by (Rows.single sort) h = refl
        by (range sort) h = refl

    pub word_alone_integer : s ≡ false → e.kind ≡ 4 → (r : Bool)
        → r ≡ is_admitted (word_under (ranges integers (record_range integers 0 (record_of e) ∷ [])) w)
        → r ≡ item_admits pool (record_of e) s w
    unfolding shape_of
    word_alone_integer y k r t = shape_alone (range integers) false r (ap shape_of k) y t

    pub word_alone_date : s ≡ false → e.kind ≡ 7 → (r : Bool)
        → r ≡ is_admitted (word_under (ranges dates (record_range dates 0 (record_of e) ∷ [])) w)
        → r ≡ item_admits pool (record_of e) s w
    unfolding shape_of
    word_alone_date y k r t = shape_alone (range dates) false r (ap shape_of k) y t

    pub word_alone_not : s ≡ false → (e.kind ≡ 4 → ⊥) → (e.kind ≡ 7 → ⊥) → false ≡ item_admits pool (record_of e) s w
    unfolding word_under
    word_alone_not y f g = shape_alone (shape_of e.kind) false false refl y (by (shape_of e.kind) (kind_shape e.kind))
      where
        by : (x : Shape) → (is_known x ≡ true → e.kind ≡ kind_of x)
            → false ≡ is_admitted (finding_under (item_of_shape pool (record_of e) x) false w)
        by table_header h = refl
        by object h = refl
        by attribute h = refl
        by text h = refl
        by (Rows.single sort) h = refl
        by (range integers) h = absurd (f (h refl))
        by (range dates) h = absurd (g (h refl))

pub ruleset alone_steps = (string_alone, string_alone_not, word_alone_integer, word_alone_date, word_alone_not)

-- the kind of a record, as it is read
pub kind_read_at : (records : List ℕ) (n at : ℕ) → at ≡ record_size * n → record_size * n + record_size ≤ length records
    → get_or records (at + 2) 0 ≡ (record_in records n).kind
unfolding decode
kind_read_at records n at h l = ap (λ k. get_or records (k + 2) 0) h ∙ sym (get_or-take record_size (drop (record_size * n) records) 2 0 (omega arith) ∙ get_or-drop (record_size * n) records 2 0)

-- what the walks over items ask
module _ (records pool : List ℕ) (first : ℕ) (e : Entry) (i : ItemsGood records pool first)
    (q : record_of e ≡ record_in records first) where
  chained_by : (k : ℕ) → is_listed (shape_of k) ≡ true → e.kind ≡ k → Chained records k first
  chained_by k a h = i.chained k a (ap (λ r. r.kind) (sym q) ∙ h)

  pub chained_integers : e.kind ≡ 4 → Chained records 4 first
  unfolding shape_of
  chained_integers h = chained_by 4 refl h

  pub chained_strings : e.kind ≡ 5 → Chained records 5 first
  unfolding shape_of
  chained_strings h = chained_by 5 refl h

  pub chained_dates : e.kind ≡ 7 → Chained records 7 first
  unfolding shape_of
  chained_dates h = chained_by 7 refl h

pub ruleset kind_steps = (string_not, string_kind, word_not, word-string, word-integer, word-date, word_boolean, word-date_pattern, word_time_pattern, word_duration_pattern)
