-- Steps of marking the items of a row: an item that admits a value, or leads to one that does, begins a list that admits it. Assumes nothing.
use mathlib.Core.Path.{◌≡◌, refl, sym, ap, ◌∙◌, subst}
use mathlib.Core.Bool.{Bool, true, false, not, cond, ◌&&◌, ◌||◌, or-true, false≢true}
use Rattle.std.specs.Prelude.{Option, None, Some}
use mathlib.Core.List.{List, [], ◌∷◌}
use Prim.Native.Nat.{ℕ, zero, suc, ◌+◌, ◌*◌, ◌-◌, ◌^◌, ◌≤◌, ◌<◌}
use native.Mathlib.Nat.{mul-le-mul}
use native.Mathlib.Omega.{arith}
use lib.Dec.{eqb}
use lib.ListN.{length, take, drop}
use borrow.Author.Tests.{eqb-true, eqb-false, ne_eqb}
use Rattle.lexis.proofs.Cases.{and_left, and_right}
use Rattle.lexis.specs.Runs.{same}
use Rattle.values.specs.Integers.{integer_of}
use Rattle.values.specs.Dates.{date_of}
use Rattle.meaning.specs.Constraints.{RangeSort, integers, dates, Range, Text, ranges, texts}
use Rattle.meaning.specs.Findings
use Rattle.meaning.specs.Findings.{Finding, admitted, found, try}
use Rattle.meaning.specs.Sorts.{in_range, in_some, text_kind}
use Rattle.meaning.specs.Admission.{is_some, word_under, string_under}
use Rattle.dadl.specs.Clauses.Tape.{row_number}
use Rattle.dadl.specs.Clauses.Rows.{row_at}
use Rattle.table.specs.Records.{Record, field, record_in}
use Rattle.table.specs.Rows.{Shape, table_header, object, attribute, text, single, range, shape_of, kind_of, is_known, is_listed}
use Rattle.table.specs.Check.{kind_at}
use Rattle.table.specs.Clauses.Answers.{record_of}
use Rattle.table.specs.declared.records.Entry.{Entry}
use Rattle.table.proofs.UseLaws.{by_or, shape_kind, kind_shape}
use Rattle.judge_admission.specs.Clauses.Items.{range_in, text_in, item_of_shape, item_of, Lies, NamedRecord, image_from, TableGood}
use Rattle.judge_admission.specs.Clauses.Answers.{finding_under, is_admitted, item_admits}
use Rattle.judge_tape.specs.Clauses.Rows.{LeafRow, Walk}
use Rattle.judge_tape.specs.Clauses.Memo.{marked, mark_bit, Marks, record_count, may_visit, ValueAdmitted, leads_in, mark_item, mark_items, enter_leaf, known_in, Listing, OfItems, old, item, ItemsMarked, MemoGood, KnownIs}
use Rattle.judge_admission.proofs.TableLaws.{records_long, kind_back, name_there, list_link_below, ranges-leaf, ranges_rest, texts_leaf, texts_rest}
use Rattle.judge_tape.proofs.MemoSteps.{marked_outside}
use Rattle.judge_tape.proofs.MemoLaws.{records_few, memo_entered, memo_listed}

-- the kinds of items of lists
module _ (k : ℕ) where
  pub listed_integer : k ≡ 4 → true ≡ is_listed (shape_of k)
  unfolding shape_of
  listed_integer h = rw h

  pub listed_string : k ≡ 5 → true ≡ is_listed (shape_of k)
  unfolding shape_of
  listed_string h = rw h

  not_listed : (k ≡ 4 → ⊥) → (k ≡ 5 → ⊥) → (k ≡ 7 → ⊥) → (s : Shape) → (is_known s ≡ true → k ≡ kind_of s)
      → false ≡ is_listed s
  not_listed f g h table_header e = refl
  not_listed f g h object e = refl
  not_listed f g h attribute e = refl
  not_listed f g h text e = absurd (g (e refl))
  not_listed f g h (single sort) e = refl
  not_listed f g h (range integers) e = absurd (f (e refl))
  not_listed f g h (range dates) e = absurd (h (e refl))

  pub listed_date : k ≡ 7 → true ≡ is_listed (shape_of k)
  listed_date e = ap (λ s. is_listed s) (sym (shape_kind (range dates))) ∙ ap (λ j. is_listed (shape_of j)) (sym e)

  pub unlisted : (k ≡ 4 → ⊥) → (k ≡ 5 → ⊥) → (k ≡ 7 → ⊥) → false ≡ is_listed (shape_of k)
  unlisted f g h = not_listed f g h (shape_of k) (kind_shape k)

-- the visits that are left
module _ (room left : ℕ) where
  pub visits_none : left ≡ 0 → not (eqb room 0) ≡ may_visit room left
  unfolding may_visit
  visits_none h = rw h

  pub visits_some : (left ≡ 0 → ⊥) → true ≡ may_visit room left
  unfolding may_visit
  visits_some h = rw (ne_eqb left 0 h)

  pub visits_spent : left ≡ 0 → left ≡ left - 1
  visits_spent h = omega arith

-- what an item leads to
module _ (pool memo : List ℕ) (base : ℕ) (r : Record) (s : Bool) (w : List ℕ) (t : Bool)
    (e : t ≡ item_admits pool r s w) where
  pub leads_alone : t ≡ true → true ≡ leads_in pool memo base r s w
  leads_alone h = rw (← e, h)

  pub leads_none : t ≡ false → field r 4 ≡ 0 → false ≡ leads_in pool memo base r s w
  leads_none h z = rw (← e, h, z)

  pub leads_next : t ≡ false → (field r 4 ≡ 0 → ⊥) → (m : Bool) → m ≡ marked memo (base + field r 4)
      → m ≡ leads_in pool memo base r s w
  leads_next h z m q = rw (← e, h, ne_eqb (field r 4) 0 z) q

-- what a longer list admits
found_true : (b : Bool) → found b ≡ admitted → b ≡ true
found_true true h = refl
found_true false h = absurd (false≢true (ap is_admitted h))

found_of : (b : Bool) → b ≡ true → found b ≡ admitted
found_of b h = ap found h

-- one test is met where the other is
try_grow : {A : Type 0} (o : Option A) (f g : A → Bool) → ((a : A) → f a ≡ true → g a ≡ true) → try o f ≡ admitted
    → try o g ≡ admitted
try_grow None f g h e = e
try_grow (Some a) f g h e = found_of (g a) (h a (found_true (f a) e))

or_alone : (a b : Bool) → (a || false) ≡ true → (a || b) ≡ true
or_alone true b h = refl
or_alone false b h = absurd (false≢true h)

or_more : (a b : Bool) → b ≡ true → (a || b) ≡ true
or_more a b h = rw (h, or-true)

and_grow : (c a b : Bool) → (a ≡ true → b ≡ true) → (c && a) ≡ true → (c && b) ≡ true
and_grow true a b f h = f h
and_grow false a b f h = h

-- a list admits what its first item does, whatever its number, and what the items behind it do
abbrev numbered : ℕ → Range → Range
numbered n x = record { number = n; low = x.low; high = x.high }

module _ (x : Range) (xs : List Range) (w : List ℕ) where
  ranges_alone : (sort : RangeSort) (n : ℕ) (t : Bool)
      → finding_under (Some (ranges sort (numbered n x ∷ []))) t w ≡ admitted
      → finding_under (Some (ranges sort (x ∷ xs))) t w ≡ admitted
  unfolding word_under string_under in_some
  ranges_alone sort n true h = h
  ranges_alone integers n false h = try_grow (integer_of w) _ _ (λ v. or_alone (in_range v x) (in_some v xs)) h
  ranges_alone dates n false h = try_grow (date_of w) _ _ (λ d. and_grow (eqb d.parts 3) _ _ (or_alone (in_range d.day x) (in_some d.day xs))) h

  ranges_more : (sort : RangeSort) (t : Bool) → finding_under (Some (ranges sort xs)) t w ≡ admitted
      → finding_under (Some (ranges sort (x ∷ xs))) t w ≡ admitted
  unfolding word_under string_under in_some
  ranges_more sort true h = h
  ranges_more integers false h = try_grow (integer_of w) _ _ (λ v. or_more (in_range v x) (in_some v xs)) h
  ranges_more dates false h = try_grow (date_of w) _ _ (λ d. and_grow (eqb d.parts 3) _ _ (or_more (in_range d.day x) (in_some d.day xs))) h

module _ (x : Text) (xs : List Text) (w : List ℕ) where
  texts_alone : (n : ℕ) (t : Bool)
      → finding_under (Some (texts (record { number = n; text = x.text } ∷ []))) t w ≡ admitted
      → finding_under (Some (texts (x ∷ xs))) t w ≡ admitted
  unfolding word_under string_under is_some
  texts_alone n true h = found_of (same w x.text || is_some w xs) (or_alone (same w x.text) (is_some w xs) (found_true (same w x.text || false) h))
  texts_alone n false h = h

  texts_more : (t : Bool) → finding_under (Some (texts xs)) t w ≡ admitted
      → finding_under (Some (texts (x ∷ xs))) t w ≡ admitted
  unfolding word_under string_under is_some
  texts_more true h = found_of (same w x.text || is_some w xs) (or_more (same w x.text) (is_some w xs) (found_true (is_some w xs) h))
  texts_more false h = h

not_nought : (x : ℕ) → not (eqb x 0) ≡ true → 0 < x
not_nought zero h = absurd (false≢true h)
not_nought (suc x) h = omega arith

admitted_is : (f : Finding) → is_admitted f ≡ true → f ≡ admitted
admitted_is Findings.unsuited h = absurd (false≢true h)
admitted_is Findings.refuted h = absurd (false≢true h)
admitted_is Findings.admitted h = refl

-- an item of a table, of a kind that lists have
module _ (records pool : List ℕ) (t : TableGood records pool) (n : ℕ) (here : 1 ≤ n)
    (below : n < record_count records) where
  item_kind : (k : ℕ) → (record_in records n).kind ≡ k → kind_at (image_from records pool) n ≡ k
  item_kind k q = kind_back records pool t n k here (record { lies = omega arith; is = q })

  item-shaped : (x : Shape) → shape_of (record_in records n).kind ≡ x → is_known x ≡ true
      → kind_at (image_from records pool) n ≡ kind_of x
  item-shaped x q k = item_kind (kind_of x) (kind_shape (record_in records n).kind (rw q k) ∙ ap kind_of q)

  pub item_named : (e : Entry) → record_of e ≡ record_in records n → NamedRecord pool (record_of e)
  item_named e q = record { inside = λ k. rw (← q) at (name_there records pool t n text_kind (item_kind text_kind (ap (λ r. r.kind) (sym q) ∙ k)) (omega arith) refl) }

  module _ (s : Bool) (w : List ℕ) where
    item_alone : (x : Shape) → shape_of (record_in records n).kind ≡ x → is_listed x ≡ true
        → finding_under (item_of_shape pool (record_in records n) x) s w ≡ admitted → ValueAdmitted records pool n s w
    item_alone table_header q a h = absurd (false≢true a)
    item_alone object q a h = absurd (false≢true a)
    item_alone attribute q a h = absurd (false≢true a)
    item_alone text q a h = rw (texts_leaf records pool t n (item-shaped text q refl)) (texts_alone (text_in records pool n) _ w 0 s h)
    item_alone (single sort) q a h = absurd (false≢true a)
    item_alone (range sort) q a h = rw (ranges-leaf records pool t sort n (item-shaped (range sort) q refl)) (ranges_alone (range_in sort records n) _ w sort 0 s h)

    item_more : (x : Shape) → shape_of (record_in records n).kind ≡ x → is_listed x ≡ true
        → 0 < field (record_in records n) 4 → ValueAdmitted records pool (field (record_in records n) 4) s w
        → ValueAdmitted records pool n s w
    item_more table_header q a p h = absurd (false≢true a)
    item_more object q a p h = absurd (false≢true a)
    item_more attribute q a p h = absurd (false≢true a)
    item_more text q a p h =
        let k = item-shaped text q refl in
        rw (texts_leaf records pool t n k) (texts_more (text_in records pool n) _ w s (rw (texts_rest records pool t n k p) at h))
    item_more (single sort) q a p h = absurd (false≢true a)
    item_more (range sort) q a p h =
        let k = item-shaped (range sort) q refl in
        rw (ranges-leaf records pool t sort n k) (ranges_more (range_in sort records n) _ w sort s (rw (ranges_rest records pool t sort n k p) at h))

    -- where the next item lies
    item_below : is_listed (shape_of (record_in records n).kind) ≡ true → 0 < field (record_in records n) 4
        → field (record_in records n) 4 < record_count records
    item_below a p = let l = list_link_below records pool t n (record_in records n).kind (item_kind (record_in records n).kind refl) a p in let k = records_long records pool t in omega arith

-- marking an item
module _ (records pool memo : List ℕ) (base : ℕ) (s : Bool) (w : List ℕ) (g : Listing records pool memo base s w) where
  pub items_same : ItemsMarked records pool memo base s w memo
  items_same = record { listing = g; each = λ j h. old h }

  module _ (n : ℕ) (here : 1 ≤ n) (below : n < record_count records) (e : Entry)
      (q : record_of e ≡ record_in records n) where
    leads_admits : is_listed (shape_of e.kind) ≡ true → leads_in pool memo base (record_of e) s w ≡ true
        → ValueAdmitted records pool n s w
    leads_admits a h =
        let b : is_listed (shape_of (record_in records n).kind) ≡ true = subst (λ r. is_listed (shape_of r.kind) ≡ true) q a in
        let l : leads_in pool memo base (record_in records n) s w ≡ true = subst (λ r. leads_in pool memo base r s w ≡ true) q h in
        let x = field (record_in records n) 4 in
        by_or (item_admits pool (record_in records n) s w) (not (eqb x 0) && marked memo (base + x)) l
        (λ y. item_alone records pool g.checked n here below s w (shape_of (record_in records n).kind) refl b (admitted_is (finding_under (item_of pool (record_in records n)) s w) y))
        (λ y.
        let z : 0 < x = not_nought x (and_left (not (eqb x 0)) (marked memo (base + x)) y) in
        item_more records pool g.checked n here below s w (shape_of (record_in records n).kind) refl b z (g.admits x z (item_below records pool g.checked n here below s w b z) (and_right (not (eqb x 0)) (marked memo (base + x)) y)))

    pub item-marked : (a r : Bool) → a ≡ is_listed (shape_of e.kind) → a ≡ true
        → r ≡ leads_in pool memo base (record_of e) s w → r ≡ true → (after : List ℕ) → Marks memo (base + n) after
        → ItemsMarked records pool memo base s w after
    item-marked a r ea ta er tr after m = record {
      listing = record {
        checked = g.checked;
        near = g.near;
        admits = λ i p l t. admits i p l t (eqb i n) refl;
      };
      each = λ j t. each j t (eqb j (base + n)) refl;
    }
      where
        admits : (i : ℕ) → 0 < i → i < record_count records → marked after (base + i) ≡ true → (b : Bool) → eqb i n ≡ b
            → ValueAdmitted records pool i s w
        admits i p l t true y = rw (eqb-true i n y) (leads_admits (sym ea ∙ ta) (sym er ∙ tr))
        admits i p l t false y = g.admits i p l (sym (m.other (base + i) (λ z. eqb-false i n y (omega arith))) ∙ t)

        each : (j : ℕ) → marked after j ≡ true → (b : Bool) → eqb j (base + n) ≡ b
            → OfItems (record_count records) memo base j
        each j t true y = item n below (eqb-true j (base + n) y)
        each j t false y = old (sym (m.other j (eqb-false j (base + n) y)) ∙ t)

-- what marking an item makes of the memo
module _ (records pool memo : List ℕ) (base : ℕ) (s : Bool) (w : List ℕ) (n : ℕ) (e : Entry)
    (q : record_of e ≡ record_in records n) (a : Bool) (ea : a ≡ is_listed (shape_of e.kind)) where
  item_is : cond (a && leads_in pool memo base (record_of e) s w)
      (mark_bit memo (base + n)) memo ≡ mark_item records pool base s w n memo
  unfolding mark_item
  item_is = rw (ea, ← q)

  pub item_unlisted : a ≡ false → memo ≡ mark_item records pool base s w n memo
  item_unlisted h = rw h at item_is

  module _ (h : a ≡ true) (r : Bool) (er : r ≡ leads_in pool memo base (record_of e) s w) where
    pub item_kept : r ≡ false → memo ≡ mark_item records pool base s w n memo
    item_kept k = rw (h, ← er, k) at item_is

    pub item-set : r ≡ true → (after : List ℕ) → after ≡ mark_bit memo (base + n)
        → after ≡ mark_item records pool base s w n memo
    item-set k after m = m ∙ (rw (h, ← er, k) at item_is)

-- marking all items, from the last record on down
items_next : (records pool : List ℕ) (base : ℕ) (s : Bool) (w memo : List ℕ) (n : ℕ) → 0 < n
    → mark_items records pool base s w (n - 1) (mark_item records pool base s w n memo)
    ≡ mark_items records pool base s w n memo
unfolding mark_items
items_next records pool base s w memo zero h = absurd (omega arith)
items_next records pool base s w memo (suc n) h = let e : suc n - 1 ≡ n = omega arith in rw e

pub record InListing (records pool start : List ℕ) (base : ℕ) (s : Bool) (w memo : List ℕ) (n : ℕ) : Type 0 where
  pub marked : ItemsMarked records pool start base s w memo
  pub most : n ≤ record_count records
  pub same : length memo ≡ length start
  pub is : mark_items records pool base s w (n - 1) memo
      ≡ mark_items records pool base s w (record_count records - 1) start

pub listing_start : (records pool memo : List ℕ) (base : ℕ) (s : Bool) (w : List ℕ) → Listing records pool memo base s w
    → (n : ℕ) → n ≡ record_count records → InListing records pool memo base s w memo n
listing_start records pool memo base s w g n e = record { marked = items_same records pool memo base s w g; most = omega arith; same = refl; is = rw e }

pub listing_few : (records pool start : List ℕ) (base : ℕ) (s : Bool) (w memo : List ℕ) (n : ℕ)
    → InListing records pool start base s w memo n → n - 1 < 2 ^ 32
listing_few records pool start base s w memo n i = let l = records_few records pool i.marked.listing.checked in let m = i.most in omega arith

pub listing_end : (records pool start : List ℕ) (base : ℕ) (s : Bool) (w memo : List ℕ) (n : ℕ)
    → InListing records pool start base s w memo n → n ≤ 1
    → memo ≡ mark_items records pool base s w (record_count records - 1) start
unfolding mark_items
listing_end records pool start base s w memo n i h = let e : n - 1 ≡ 0 = omega arith in rw e at i.is

pub listing_next : (records pool start : List ℕ) (base : ℕ) (s : Bool) (w memo : List ℕ) (n : ℕ)
    → InListing records pool start base s w memo n → 1 < n → (after : List ℕ)
    → after ≡ mark_item records pool base s w (n - 1) memo → ItemsMarked records pool memo base s w after
    → length after ≡ length memo → InListing records pool start base s w after (n - 1)
listing_next records pool start base s w memo n i h after ea m l = record {
  marked = record { listing = m.listing; each = λ j t. by j (m.each j t) };
  most = let k = i.most in omega arith;
  same = l ∙ i.same;
  is = rw ea (items_next records pool base s w memo (n - 1) (omega arith) ∙ i.is);
}
  where
    by : (j : ℕ) → OfItems (record_count records) memo base j → OfItems (record_count records) start base j
    by j (old y) = i.marked.each j y
    by j (item k lk e) = item k lk e

-- where the bits of a row begin
module _ (records pool s tape : List ℕ) (rows row : ℕ) (k : Walk records pool s tape rows)
    (l : LeafRow rows tape row) where
  rows_near : (row + 1) * record_count records ≤ 8_388_608
  rows_near =
      let c = records_few records pool k.checked in
      let r = l.there in
      let f = k.few in
      let x : record_count records ≤ 2_048 = omega arith in
      let y : row + 1 ≤ 4_096 = omega arith in
      mul-le-mul y x

  module _ (n : ℕ) (en : n ≡ record_count records) where
    pub row_fits : (row + 1) * n < 2 ^ 64
    row_fits = let h = rows_near in rw en (omega arith)

    pub row_base : (base : ℕ) → base ≡ (row + 1) * n → base ≡ (row + 1) * record_count records
    row_base base e = e ∙ ap (λ c. (row + 1) * c) en

    pub row_sum : (base first : ℕ) → base ≡ (row + 1) * n → first < 2 ^ 32 → base + first < 2 ^ 64
    row_sum base first e h = let b = rows_near in let q = row_base base e in omega arith

-- a row that holds a string or a word
module _ (records pool s tape memo : List ℕ) (rows row base : ℕ) (k : Walk records pool s tape rows)
    (l : LeafRow rows tape row) (g : MemoGood records pool s tape rows memo)
    (eb : base ≡ (row + 1) * record_count records) where
  pub row_near : base ≤ 8_388_608
  row_near = rw eb (rows_near records pool s tape rows row k l)

  pub row_listing : (after : List ℕ) → Marks memo base after → (start end holds : ℕ)
      → start ≡ row_number (row_at tape row) 6
      → end ≡ row_number (row_at tape row) 7 → holds ≡ row_number (row_at tape row) 0
      → Listing records pool after base (eqb holds 1) (take (end - start) (drop start s))
  row_listing after m start end holds es ee eh =
      let h = memo_entered records pool s tape rows memo after g row base eb m in
      record {
        checked = k.checked;
        near = row_near;
        admits = λ n p b t. rw (eh, es, ee) (h.leaves row n l.leaf p b (rw (← eb) t));
      }

  pub row_marked : (after : List ℕ) → Marks memo base after → (start end holds : ℕ)
      → start ≡ row_number (row_at tape row) 6
      → end ≡ row_number (row_at tape row) 7 → holds ≡ row_number (row_at tape row) 0
      → (last : List ℕ) → ItemsMarked records pool after base (eqb holds 1) (take (end - start) (drop start s)) last
      → MemoGood records pool s tape rows last
  row_marked after m start end holds es ee eh last i =
      memo_listed records pool s tape rows after last (memo_entered records pool s tape rows memo after g row base eb m) row base eb l.leaf (take (end - start) (drop start s)) (eqb holds 1) (rw (es, ee)) (rw eh) i

  -- what a visit makes of the memo
  pub leaf_again : (r : Bool) → r ≡ marked memo base → r ≡ true → memo ≡ enter_leaf records pool s tape row memo
  unfolding enter_leaf
  leaf_again r e h = rw (← eb, ← e, h)

  pub leaf_first : (r : Bool) → r ≡ marked memo base → r ≡ false → (after : List ℕ) → after ≡ mark_bit memo base
      → (start end holds : ℕ) → start ≡ row_number (row_at tape row) 6 → end ≡ row_number (row_at tape row) 7
      → holds ≡ row_number (row_at tape row) 0
      → (last : List ℕ)
      → last ≡ mark_items records pool base (eqb holds 1) (take (end - start) (drop start s))
      (record_count records - 1) after → last ≡ enter_leaf records pool s tape row memo
  unfolding enter_leaf
  leaf_first r e h after ea start end holds es ee eh last el = rw (← eb, ← e, h, ← ea, ← es, ← ee, ← eh) el

-- no memo remains none
cond_same : {A : Type 0} (b : Bool) (x : A) → cond b x x ≡ x
cond_same true x = refl
cond_same false x = refl

items_none : (records pool : List ℕ) (base : ℕ) (s : Bool) (w : List ℕ) (n : ℕ)
    → mark_items records pool base s w n [] ≡ []
unfolding mark_items mark_item mark_bit
items_none records pool base s w zero = refl
items_none records pool base s w (suc n) = rw cond_same (items_none records pool base s w n)

leaf_none : (records pool s tape : List ℕ) (row : ℕ) → enter_leaf records pool s tape row [] ≡ []
unfolding enter_leaf mark_bit
leaf_none records pool s tape row = rw (items_none, cond_same)

pub memo_none : (records pool s tape : List ℕ) (row : ℕ) (memo : List ℕ) → length memo ≡ 0
    → memo ≡ enter_leaf records pool s tape row memo
memo_none records pool s tape row [] h = sym (leaf_none records pool s tape row)
memo_none records pool s tape row (x ∷ memo) h = absurd (omega arith)

pub memo_unknown : (records pool s tape : List ℕ) (row n : ℕ) (memo : List ℕ) → length memo ≡ 0
    → false ≡ known_in records pool s tape row n memo
memo_unknown records pool s tape row n memo h = rw (← (memo_none records pool s tape row memo h)) (marked_outside memo _ (omega arith))

pub memo_told : (records pool s tape memo after : List ℕ) (row first n base : ℕ) → n ≡ record_count records
    → base ≡ (row + 1) * n → after ≡ enter_leaf records pool s tape row memo → (r : Bool)
    → r ≡ marked after (base + first) → r ≡ known_in records pool s tape row first memo
memo_told records pool s tape memo after row first n base en eb ea r e = rw (← ea, ← en, ← eb) e

-- what the memo tells of a row
pub row_known : (records pool s tape memo : List ℕ) (rows row first n base : ℕ) → LeafRow rows tape row
    → MemoGood records pool s tape rows memo → (1 ≤ first) × Lies records first → n ≡ record_count records
    → base ≡ (row + 1) * n → (r : Bool) → r ≡ marked memo (base + first) → KnownIs records pool s tape row first r
row_known records pool s tape memo rows row first n base l g h en eb r e =
    let a = h.0 in
    let b = h.1 in
    let f : base ≡ (row + 1) * record_count records = eb ∙ ap (λ c. (row + 1) * c) en in
    record { admits = λ t. g.leaves row first l.leaf (omega arith) (omega arith) (rw (← f) (sym e ∙ t)) }

pub none_known : (records pool s tape : List ℕ) (row n : ℕ) → KnownIs records pool s tape row n false
none_known records pool s tape row n = record { admits = λ h. absurd (false≢true h) }
