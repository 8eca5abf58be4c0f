-- The table of a tree passes the check. Assumes nothing.
use mathlib.Core.Path.{◌≡◌, refl}
use mathlib.Core.Bool.{true}
use mathlib.Core.List.{List, [], ◌∷◌, ◌++◌}
use Prim.Native.Nat.{ℕ, zero, suc, ◌+◌, ◌≤◌, ◌<◌}
use native.Mathlib.Omega.{arith}
use native.Mathlib.Numerals.{add-one}
use lib.ListN.{length, get_or, drop}
use borrow.Author.Tests.{eq-eqb, lt-ltb, le-leb, ne_eqb}
use Rattle.lexis.specs.Bytes.{among}
use Rattle.refusals.specs.Limits.{record_limit, pool_limit, name_limit, code_limit, string_limit}
use Rattle.values.specs.Integers.{twos_complement}
use Rattle.values.proofs.IntegerLaws.{complement_back, complement_fits}
use Rattle.meaning.specs.Constraints.{SingleSort, booleans, date_pattern, time_pattern, duration_pattern, RangeSort, integers, dates, Range, Text, Leaf, single, ranges, texts, Object, object, Attributes, no_more, attribute, Value, any, nested, leaf}
use Rattle.meaning.specs.Sorts.{single_row, range_row, text_kind}
use Rattle.meaning.specs.Counting.{object_records, value_records, text_pool, leaf_pool, object_pool, attribute_pool, value_pool}
use Rattle.meaning.specs.Admission.{leaf_number, first_range, first_text}
use Rattle.meaning.specs.Clauses.Proper.{ProperRange, ProperString, Flag, ProperLeaf, Each, ProperObject, ProperAttributes, ProperValue}
use Rattle.meaning.proofs.NumberedLaws.{NumberedRanges, NumberedTexts, NumberedLeaf, NumberedObject, NumberedAttributes, NumberedValue}
use Rattle.table.specs.Records.{Record, Image, make, count, header_of}
use Rattle.table.specs.Rows
use Rattle.table.specs.Rows.{shape_of, object_kind, attribute_kind, items, place, link, row_of}
use Rattle.table.specs.Check.{kinds, pair_right, field_right, uses_of, flag_right, obeys, clean}
use Rattle.table.proofs.Checked.{RecordGood, RecordsGood, Checked}
use Rattle.table.proofs.UseLaws.{shape_kind}
use Rattle.compile_flatten.specs.Flatten.{place_for, attributes_link, value_link, range_records, string_records, records_of_leaf, object_table, attributes_table, value_table, image_of_tree}
use Rattle.compile_flatten.proofs.Placed.{At, at_left, at_end_lem, Placed, past_record, past_name, placed_left, placed_right}
use Rattle.compile_flatten.proofs.FlattenLaws.{object_length, value-length, placed_tree}

-- the kind of the record that stands at a place
kind_there : (n : ℕ) (l rest : List Record) (r : Record) → drop n l ≡ r ∷ rest → get_or (kinds l) n 0 ≡ r.kind
kind_there zero [] rest r e = let z : ◌≡◌ {A = ℕ} 0 1 = cc in absurd (omega arith)
kind_there (suc n) [] rest r e = let z : ◌≡◌ {A = ℕ} 0 1 = cc in absurd (omega arith)
kind_there zero (x ∷ xs) rest r e = let g : x ≡ r = cc in rw g
kind_there (suc n) (x ∷ xs) rest r e = kind_there n xs rest r e

-- the number l leads to the first of the records that stand from n on, which is of one of the kinds; it is 0 where there is none
abbrev Leads : List ℕ → ℕ → ℕ → List Record → Type 0
Leads ks l n [] = l ≡ 0
Leads ks l n (r ∷ rs) = (l ≡ n) × (among r.kind ks ≡ true)

-- such a link is right in a record below
link_right : {m : Image} {n p : ℕ} {bs : List ℕ} (k l next : ℕ) (ks : List ℕ) (rs : List Record) → k < n
    → Leads ks l n rs → Placed m n rs p bs → field_right m k (link ks) l next ≡ true
unfolding field_right
link_right k l next ks [] h e s = rw e
link_right {m} {n} k l next ks (r ∷ rs) h e s =
    let b = at_end_lem s.records in
    rw (
      e.0,
      ne_eqb n 0 (omega arith),
      lt-ltb k n h,
      lt-ltb n (count m) (omega arith),
      kind_there n (header_of m ∷ m.records) (rs ++ s.records.rest) r s.records.there,
    ) e.1

-- a name in the pool, at its place
place_right : {p : ℕ} (m : Image) (n least most : ℕ) (w : List ℕ) → least ≤ length w → length w ≤ most
    → At m.pool p w → field_right m n (place least most) (place_for w p) (length w) ≡ true
unfolding field_right
place_right m n least most [] h g s = rw (le-leb least 0 h, le-leb 0 most g)
place_right {p} m n least most (b ∷ bs) h g s =
    let l = suc (length bs) in
    rw (le-leb least l h, le-leb l most g, ne_eqb l 0 (omega arith)) (le-leb (p + l) (length m.pool) (at_end_lem s))

-- good records one after the other
goods_cons : {m : Image} {n : ℕ} {r : Record} (rs : List Record) → RecordGood m n r → RecordsGood m (n + 1) rs
    → RecordsGood m n (r ∷ rs)
goods_cons {n = n} rs h g = (h, rw add-one at g)

goods_append : (m : Image) (n : ℕ) (rs qs : List Record) → RecordsGood m n rs → RecordsGood m (n + length rs) qs
    → RecordsGood m n (rs ++ qs)
goods_append m n [] qs h g = let e : n + 0 ≡ n = omega arith in rw e at g
goods_append m n (r ∷ rs) qs h g =
    let e : n + suc (length rs) ≡ suc n + length rs = omega arith in
    (h.0, goods_append m (suc n) rs qs h.1 (rw e at g))

-- the record of a leaf of one, which has a flag and nothing else
single_good : {m : Image} {n : ℕ} (sort : SingleSort) (flag : ℕ) → Flag (single_row sort).greatest flag
    → RecordGood m n (make (single_row sort).kind flag [])
unfolding obeys clean field_right
single_good sort flag h = record {
  counted = refl;
  obeyed = rw (flag_right, uses_of, row_of, shape_kind (Rows.single sort), le-leb 1 flag h.0, le-leb flag (single_row sort).greatest h.1);
  cleaned = rw (uses_of, row_of, shape_kind (Rows.single sort));
}

-- the links lead to items
ranges_lead : (ks : List ℕ) (sort : RangeSort) (l : List Range) (n : ℕ) → among (range_row sort).kind ks ≡ true
    → NumberedRanges l n → Leads ks (first_range l) n (range_records sort l)
ranges_lead ks sort [] n h i = refl
ranges_lead ks sort (x ∷ xs) n h i = (i.0, h)

single_item : (sort : SingleSort) → among (single_row sort).kind (object_kind ∷ items) ≡ true
single_item booleans = refl
single_item date_pattern = refl
single_item time_pattern = refl
single_item duration_pattern = refl

range-item : (sort : RangeSort) → among (range_row sort).kind (object_kind ∷ items) ≡ true
range-item integers = refl
range-item dates = refl

texts_lead : (ks : List ℕ) (l : List Text) (n p : ℕ) → among text_kind ks ≡ true → NumberedTexts l n
    → Leads ks (first_text l) n (string_records p l)
texts_lead ks [] n p h i = refl
texts_lead ks (x ∷ xs) n p h i = (i.0, h)

leaf_lead : (l : Leaf) (n p : ℕ) → NumberedLeaf l n → Leads (object_kind ∷ items) (leaf_number l) n (records_of_leaf p l)
leaf_lead (single sort a flag) n p i = (i, single_item sort)
leaf_lead (ranges sort l) n p i = ranges_lead (object_kind ∷ items) sort l n (range-item sort) i
leaf_lead (texts l) n p i = texts_lead (object_kind ∷ items) l n p refl i

-- the links lead to attributes and to values
attributes_lead : (xs : Attributes) (n p : ℕ) → NumberedAttributes xs n
    → Leads (attribute_kind ∷ []) (attributes_link xs) n (attributes_table xs p)
unfolding attributes_table NumberedAttributes
attributes_lead no_more n p i = refl
attributes_lead (attribute a v more) n p i = (i.0, refl)

value_lead : (v : Value) (n p : ℕ) → NumberedValue v n → Leads (object_kind ∷ items) (value_link v) n (value_table v p)
unfolding value_table object_table NumberedValue NumberedObject
value_lead any n p i = refl
value_lead (nested (object a xs)) n p i = (i.0, refl)
value_lead (leaf l) n p i = leaf_lead l n p i

-- a proper pair, its ends written, keeps its rule
pair_right_lem : (sort : RangeSort) (x : Range) → ProperRange sort x
    → pair_right sort ((range_row sort).end x.low) ((range_row sort).end x.high) ≡ true
unfolding pair_right
pair_right_lem integers x g =
    let o = g.order in
    let b = complement_back x.low (omega (arith, g.most)) in
    let c = complement_back x.high g.most in
    rw (lt-ltb _ _ (complement_fits x.low), lt-ltb _ _ (complement_fits x.high), le-leb (twos_complement (twos_complement x.low)) (twos_complement (twos_complement x.high)) (omega arith))
pair_right_lem dates x g = rw (g.low, g.high, le-leb x.low x.high g.order)

-- items and leaves that stand at their places are good
module _ (m : Image) where
  range-good : (sort : RangeSort) (n e : ℕ) (x : Range) → ProperRange sort x
      → field_right m n (link ((range_row sort).kind ∷ [])) e 0 ≡ true
      → RecordGood m n
      (make (range_row sort).kind 0 ((range_row sort).end x.low ∷ (range_row sort).end x.high ∷ 0 ∷ 0 ∷ e ∷ []))
  unfolding obeys clean field_right
  range-good sort n e x g h = record {
    counted = refl;
    obeyed = rw (flag_right, uses_of, row_of, shape_kind (Rows.range sort), pair_right_lem sort x g, h);
    cleaned = rw (uses_of, row_of, shape_kind (Rows.range sort));
  }

  ranges-good : (sort : RangeSort) (l : List Range) (n p : ℕ) (bs : List ℕ) → NumberedRanges l n
      → Each (ProperRange sort) l → Placed m n (range_records sort l) p bs → RecordsGood m n (range_records sort l)
  ranges-good sort [] n p bs i g s = tt
  ranges-good sort (x ∷ xs) n p bs i g s =
      let kind = (range_row sort).kind in
      let more = range_records sort xs in
      let t = past_record s in
      let same : among kind (kind ∷ []) ≡ true = rw (eq-eqb kind kind refl) in
      goods_cons more
      (range-good sort n (first_range xs) x g.0 (link_right n (first_range xs) 0 (kind ∷ []) more (omega arith) (ranges_lead (kind ∷ []) sort xs (n + 1) same i.1) t))
      (ranges-good sort xs (n + 1) p bs i.1 g.1 t)

  strings-good : (l : List Text) (n p : ℕ) → NumberedTexts l n → Each ProperString l
      → Placed m n (string_records p l) p (text_pool l) → RecordsGood m n (string_records p l)
  unfolding obeys clean shape_of field_right
  strings-good [] n p i g s = tt
  strings-good (x ∷ xs) n p i g s =
      let q = p + length x.text in
      let more = string_records q xs in
      let t = past_name x.text (past_record s) in
      let h = place_right m n 0 string_limit x.text (omega arith) g.0 (at_left (text_pool xs) s.pool) in
      let k = link_right n (first_text xs) 0 (text_kind ∷ []) more (omega arith) (texts_lead (text_kind ∷ []) xs (n + 1) q refl i.1) t in
      goods_cons more (record { counted = refl; obeyed = rw (h, k); cleaned = refl }) (strings-good xs (n + 1) q i.1 g.1 t)

  leaf-good : (l : Leaf) (n p : ℕ) → NumberedLeaf l n → ProperLeaf l → Placed m n (records_of_leaf p l) p (leaf_pool l)
      → RecordsGood m n (records_of_leaf p l)
  leaf-good (single sort a flag) n p i g s = (single_good sort flag g, tt)
  leaf-good (ranges sort l) n p i g s = ranges-good sort l n p [] i g.1 s
  leaf-good (texts l) n p i g s = strings-good l n p i g.1 s

  mutual
    unfolding obeys clean shape_of field_right object_table object_pool NumberedObject ProperObject attributes_table attribute_pool NumberedAttributes ProperAttributes value_table value_pool NumberedValue ProperValue

    -- the records of a tree numbered from n, they and its bytes at their places, are good
    object_good : (o : Object) (n p : ℕ) → NumberedObject o n → ProperObject o
        → Placed m n (object_table o p) p (object_pool o) → RecordsGood m n (object_table o p)
    object_good (object a xs) n p i g s =
        let t = a.type in
        let c = a.code in
        let q = p + length t + length c in
        let more = attributes_table xs q in
        let u = past_name t s in
        let v = past_record (past_name c u) in
        let h = place_right m n 1 name_limit t g.0.0 g.0.1 (at_left (c ++ attribute_pool xs) s.pool) in
        let k = place_right m n 0 code_limit c (omega arith) g.1 (at_left (attribute_pool xs) u.pool) in
        let l = link_right n (attributes_link xs) 0 (attribute_kind ∷ []) more (omega arith) (attributes_lead xs (n + 1) q i.1) v in
        goods_cons more (record { counted = refl; obeyed = rw (h, k, l); cleaned = refl }) (attributes-good xs (n + 1) q i.1 g.2 v)

    attributes-good : (xs : Attributes) (n p : ℕ) → NumberedAttributes xs n → ProperAttributes xs
        → Placed m n (attributes_table xs p) p (attribute_pool xs) → RecordsGood m n (attributes_table xs p)
    attributes-good no_more n p i g s = tt
    attributes-good (attribute a v more) n p i g s =
        let e = a.existence in
        let w = a.name in
        let q = p + length w in
        let r = q + length (value_pool v) in
        let vs = value_table v q in
        let ms = attributes_table more r in
        let u = past_record (past_name w s) in
        let x : Placed m (n + 1) vs q (value_pool v) = placed_left ms (attribute_pool more) u in
        let y = placed_right vs (value_pool v) (value_records v) (value-length v q) u in
        let h = place_right m n 1 name_limit w g.1.0 g.1.1 (at_left (value_pool v ++ attribute_pool more) s.pool) in
        let k = link_right n (value_link v) (attributes_link more) (object_kind ∷ items) vs (omega arith) (value_lead v (n + 1) q i.1) x in
        let l = link_right n (attributes_link more) 0 (attribute_kind ∷ []) ms (omega arith) (attributes_lead more (n + 1 + value_records v) r i.2) y in
        goods_cons (vs ++ ms) (record { counted = refl; obeyed = rw (le-leb 0 e (omega arith), le-leb e 2 g.0, h, k, l); cleaned = refl })
        (goods_append m (n + 1) vs ms (value-good v (n + 1) q i.1 g.2 x) (rw value-length (attributes-good more (n + 1 + value_records v) r i.2 g.3 y)))

    value-good : (v : Value) (n p : ℕ) → NumberedValue v n → ProperValue v → Placed m n (value_table v p) p (value_pool v)
        → RecordsGood m n (value_table v p)
    value-good any n p i g s = tt
    value-good (nested o) n p i g s = object_good o n p i g s
    value-good (leaf l) n p i g s = leaf-good l n p i g s

-- the table of a tree that keeps the limits passes the check
pub checked_compiled : (o : Object) → NumberedObject o 1 → ProperObject o → 1 + object_records o ≤ record_limit
    → length (object_pool o) ≤ pool_limit → Checked (image_of_tree o)
unfolding image_of_tree object_table object_records
checked_compiled (object a xs) i g h l =
    let o = object a xs in
    let e = object_length o 0 in
    record {
      some = omega arith;
      few = omega arith;
      pool = l;
      root = refl;
      records = object_good (image_of_tree o) o 1 0 i g (placed_tree o);
    }
