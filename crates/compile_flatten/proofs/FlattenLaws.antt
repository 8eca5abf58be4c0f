-- The table of a tree says that tree, from its root on. Assumes nothing.
use mathlib.Core.Path.{◌≡◌, refl, sym, ap, ap₂, ◌∙◌}
use mathlib.Core.List.{List, [], ◌∷◌, ◌++◌, append-nil}
use Prim.Native.Nat.{ℕ, zero, suc, ◌+◌, ◌-◌, ◌≤◌, ◌<◌}
use native.Mathlib.Omega.{arith}
use lib.ListN.{length, length-append, get_or, take, drop}
use lib.Seq.{get_or-drop}
use Rattle.values.proofs.IntegerLaws.{complement_back}
use Rattle.meaning.specs.Constraints.{RangeSort, integers, dates, Range, Text, Leaf, single, ranges, texts, Object, object, Attributes, no_more, attribute, Value, any, nested, leaf}
use Rattle.meaning.specs.Sorts.{single_row, range_row}
use Rattle.meaning.specs.Counting.{object_records, attribute_records, value_records, text_pool, leaf_pool, object_pool, attribute_pool, value_pool}
use Rattle.meaning.specs.Counting
use Rattle.meaning.specs.Admission.{leaf_number, first_range, first_text}
use Rattle.meaning.specs.Judging.{object_number}
use Rattle.meaning.specs.Clauses.Proper.{ProperRange, Each, ProperLeaf, ProperObject, ProperAttributes, ProperValue}
use Rattle.meaning.proofs.NumberedLaws.{NumberedRanges, NumberedTexts, NumberedLeaf, NumberedObject, NumberedAttributes, NumberedValue}
use Rattle.table.specs.Records.{Record, Image, make, header_of}
use Rattle.table.specs.Rows.{shape_of}
use Rattle.table.specs.Rows
use Rattle.table.specs.Trees.{cell, cells, cells_of, Tree, nothing, of_object, of_leaf, attributes_in, value_in, ranges_of, texts_of, items_in, reach, tree_by, tree_of, trees, trees_of, tree_at}
use Rattle.table.proofs.UseLaws.{shape_kind}
use Rattle.compile_flatten.specs.Flatten.{place_for, attributes_link, value_link, range_records, string_records, records_of_leaf, object_table, attributes_table, value_table, image_of_tree}
use Rattle.compile_flatten.proofs.Placed.{At, at_left, at_take, Placed, past_record, past_name, placed_left, placed_right}

-- a tree has as many records in its table as it counts
ranges-length : (sort : RangeSort) (l : List Range) → length (range_records sort l) ≡ length l
ranges-length sort [] = refl
ranges-length sort (x ∷ xs) = ap suc (ranges-length sort xs)

pub strings-length : (l : List Text) (p : ℕ) → length (string_records p l) ≡ length l
strings-length [] p = refl
strings-length (x ∷ xs) p = ap suc (strings-length xs (p + length x.text))

leaf-length : (l : Leaf) (p : ℕ) → length (records_of_leaf p l) ≡ Counting.leaf_records l
leaf-length (single sort n flag) p = refl
leaf-length (ranges sort l) p = ranges-length sort l
leaf-length (texts l) p = strings-length l p

mutual
  unfolding object_table object_records attributes_table attribute_records value_table value_records

  pub object_length : (o : Object) (p : ℕ) → length (object_table o p) ≡ object_records o
  object_length (object h xs) p = ap suc (attributes-length xs (p + length h.type + length h.code))

  pub attributes-length : (xs : Attributes) (p : ℕ) → length (attributes_table xs p) ≡ attribute_records xs
  attributes-length no_more p = refl
  attributes-length (attribute h v more) p =
      let q = p + length h.name in
      let r = q + length (value_pool v) in
      ap suc (length-append (value_table v q) (attributes_table more r) ∙ ap₂ ◌+◌ (value-length v q) (attributes-length more r))

  pub value-length : (v : Value) (p : ℕ) → length (value_table v p) ≡ value_records v
  value-length any p = refl
  value-length (nested o) p = object_length o p
  value-length (leaf l) p = leaf-length l p

-- the tree of the record that stands at place n, where the first has number i
tree_there : (pool : List ℕ) (i n : ℕ) (l rest : List Record) (r : Record) → drop n l ≡ r ∷ rest
    → get_or (trees i (cells pool i l)) n nothing
    ≡ tree_of (i + n) (cell pool (i + n) r) (drop (suc n) (trees i (cells pool i l)))
tree_there pool i zero [] rest r e = absurd (let z : ◌≡◌ {A = ℕ} 0 1 = cc in omega arith)
tree_there pool i (suc n) [] rest r e = absurd (let z : ◌≡◌ {A = ℕ} 0 1 = cc in omega arith)
tree_there pool i zero (x ∷ xs) rest r e =
    let f : i ≡ i + 0 = omega arith in
    let g : x ≡ r = cc in
    rw (← f, ← g)
tree_there pool i (suc n) (x ∷ xs) rest r e =
    let f : i + suc n ≡ suc i + n = omega arith in
    rw f (tree_there pool (suc i) n xs rest r e)

-- the trees of the records above k, and the one that a link l of the record k leads to
abbrev above : Image → ℕ → List Tree
above m k = drop (suc k) (nothing ∷ trees_of m)

abbrev linked : Image → ℕ → ℕ → Tree
linked m k l = reach (above m k) (l - k)

-- a link to a higher record n leads to the tree of the record that stands there
linked_there : {m : Image} {k n l p : ℕ} {r : Record} {rs : List Record} {bs : List ℕ} → k < n → l ≡ n
    → Placed m n (r ∷ rs) p bs → linked m k l ≡ tree_of n (cell m.pool n r) (above m n)
unfolding trees_of cells_of shape_of
linked_there {m} {k} {n} {l} {r = r} {rs} h e s =
    let i = n - suc k in
    let f : l - k ≡ suc i = omega arith in
    let g : suc k + i ≡ n = omega arith in
    let z : 0 + n ≡ n = omega arith in
    let t = tree_there m.pool 0 n (header_of m ∷ m.records) (rs ++ s.records.rest) r s.records.there in
    rw f (get_or-drop (suc k) (nothing ∷ trees_of m) i nothing ∙ rw (g, t, z))

-- a link that is 0 leads to nothing
linked_nowhere : (m : Image) (k : ℕ) → linked m k 0 ≡ nothing
linked_nowhere m k = let e : 0 - k ≡ 0 = omega arith in rw e

-- a name is read back from its place in the pool
name_read : (w : List ℕ) {pool : List ℕ} {p : ℕ} → At pool p w → take (length w) (drop (place_for w p) pool) ≡ w
name_read [] s = refl
name_read (b ∷ bs) s = at_take s

-- the tree of the items of a list, which its first item's record has
abbrev list_tree : {A : Type 0} → (List A → Leaf) → List A → Tree
list_tree list [] = nothing
list_tree list (x ∷ xs) = of_leaf (list (x ∷ xs))

list_tree_lem : {A : Type 0} (list : List A → Leaf) (l : List A) → 1 ≤ length l → list_tree list l ≡ of_leaf (list l)
list_tree_lem list [] h = absurd (omega arith)
list_tree_lem list (x ∷ xs) h = refl

list_items : {A : Type 0} (list : List A → Leaf) (items : Leaf → List A) → ((l : List A) → items (list l) ≡ l)
    → (l : List A) → items_in items (list_tree list l) ≡ l
list_items list items same [] = refl
list_items list items same (x ∷ xs) = same (x ∷ xs)

-- the end of a proper pair, written twice, is the end itself
ends_back : (sort : RangeSort) (x : Range) → ProperRange sort x
    → ((range_row sort).end ((range_row sort).end x.low) ≡ x.low)
    × ((range_row sort).end ((range_row sort).end x.high) ≡ x.high)
ends_back integers x g = let a = g.order in let b = g.most in (complement_back x.low (omega arith), complement_back x.high b)
ends_back dates x g = (refl, refl)

-- the tree of an item's record
range_tree : (sort : RangeSort) (pool : List ℕ) (n a b e : ℕ) (above : List Tree)
    → tree_of n (cell pool n (make (range_row sort).kind 0 (a ∷ b ∷ 0 ∷ 0 ∷ e ∷ []))) above
    ≡ of_leaf (ranges sort
    (record { number = n; low = (range_row sort).end a; high = (range_row sort).end b }
    ∷ items_in ranges_of (reach above (e - n))))
unfolding shape_of
range_tree integers pool n a b e above = refl
range_tree dates pool n a b e above = refl

-- items and leaves that stand at their places are read back
module _ (m : Image) where
  ranges_read : (sort : RangeSort) (l : List Range) (n k p : ℕ) (bs : List ℕ) → k < n → NumberedRanges l n
      → Each (ProperRange sort) l → Placed m n (range_records sort l) p bs
      → linked m k (first_range l) ≡ list_tree (ranges sort) l
  ranges_read sort [] n k p bs h i g s = linked_nowhere m k
  ranges_read sort (x ∷ xs) n k p bs h i g s =
      let end = (range_row sort).end in
      let b = ends_back sort x g.0 in
      let more = ranges_read sort xs (n + 1) n p bs (omega arith) i.1 g.1 (past_record s) in
      linked_there h i.0 s
      ∙ range_tree sort m.pool n (end x.low) (end x.high) (first_range xs) (above m n)
      ∙ λ j. of_leaf (ranges sort (record { number = sym i.0 j; low = b.0 j; high = b.1 j } ∷ (ap (items_in ranges_of) more ∙ list_items (ranges sort) ranges_of (λ l. refl) xs) j))

  strings_read : (l : List Text) (n k p : ℕ) → k < n → NumberedTexts l n → Placed m n (string_records p l) p (text_pool l)
      → linked m k (first_text l) ≡ list_tree texts l
  unfolding shape_of
  strings_read [] n k p h i s = linked_nowhere m k
  strings_read (x ∷ xs) n k p h i s =
      let more = strings_read xs (n + 1) n (p + length x.text) (omega arith) i.1 (past_name x.text (past_record s)) in
      linked_there h i.0 s
      ∙ λ j. of_leaf (texts (record { number = sym i.0 j; text = name_read x.text (at_left (text_pool xs) s.pool) j } ∷ (ap (items_in texts_of) more ∙ list_items texts texts_of (λ l. refl) xs) j))

  leaf_read : (l : Leaf) (n k p : ℕ) → k < n → NumberedLeaf l n → ProperLeaf l
      → Placed m n (records_of_leaf p l) p (leaf_pool l) → linked m k (leaf_number l) ≡ of_leaf l
  leaf_read (single sort a f) n k p h i g s =
      linked_there h i s
      ∙ ap (λ shape. tree_by shape n (cell m.pool n (make (single_row sort).kind f [])) (above m n)) (shape_kind (Rows.single sort))
      ∙ λ j. of_leaf (single sort (sym i j) f)
  leaf_read (ranges sort l) n k p h i g s = ranges_read sort l n k p [] h i g.1 s ∙ list_tree_lem (ranges sort) l g.0
  leaf_read (texts l) n k p h i g s = strings_read l n k p h i s ∙ list_tree_lem texts l g.0

  mutual
    unfolding shape_of object_table object_pool NumberedObject ProperObject attributes_table attribute_pool NumberedAttributes ProperAttributes value_table value_pool NumberedValue ProperValue

    -- a tree numbered from n, its records and its bytes at their places, is what a link from below leads to
    object_read : (o : Object) (n k p : ℕ) → k < n → NumberedObject o n → ProperObject o
        → Placed m n (object_table o p) p (object_pool o) → linked m k (object_number o) ≡ of_object o
    object_read (object a xs) n k p h i g s =
        let u = past_name a.type s in
        let type = name_read a.type (at_left (a.code ++ attribute_pool xs) s.pool) in
        let code = name_read a.code (at_left (attribute_pool xs) u.pool) in
        let more = attributes_read xs (n + 1) n (p + length a.type + length a.code) (omega arith) i.1 g.2 (past_record (past_name a.code u)) in
        linked_there h i.0 s ∙ λ j. of_object (object (record { number = sym i.0 j; type = type j; code = code j }) (more j))

    attributes_read : (xs : Attributes) (n k p : ℕ) → k < n → NumberedAttributes xs n → ProperAttributes xs
        → Placed m n (attributes_table xs p) p (attribute_pool xs) → attributes_in (linked m k (attributes_link xs)) ≡ xs
    attributes_read no_more n k p h i g s = ap attributes_in (linked_nowhere m k)
    attributes_read (attribute a v more) n k p h i g s =
        let q = p + length a.name in
        let r = q + length (value_pool v) in
        let u = past_record (past_name a.name s) in
        let name = name_read a.name (at_left (value_pool v ++ attribute_pool more) s.pool) in
        let value = value_read v (n + 1) n q (omega arith) i.1 g.2 (placed_left (attributes_table more r) (attribute_pool more) u) in
        let rest = attributes_read more (n + 1 + value_records v) n r (omega arith) i.2 g.3 (placed_right (value_table v q) (value_pool v) (value_records v) (value-length v q) u) in
        ap attributes_in (linked_there h i.0 s) ∙ λ j. attribute (record { number = sym i.0 j; existence = a.existence; name = name j }) (value j) (rest j)

    value_read : (v : Value) (n k p : ℕ) → k < n → NumberedValue v n → ProperValue v
        → Placed m n (value_table v p) p (value_pool v) → value_in (linked m k (value_link v)) ≡ v
    value_read any n k p h i g s = ap value_in (linked_nowhere m k)
    value_read (nested o) n k p h i g s = ap value_in (object_read o n k p h i g s)
    value_read (leaf l) n k p h i g s = ap value_in (leaf_read l n k p h i g s)

-- the table of a tree holds its records and its bytes at their places
pub placed_tree : (o : Object) → Placed (image_of_tree o) 1 (object_table o 0) 0 (object_pool o)
unfolding image_of_tree
placed_tree o = record {
  records = record { rest = []; there = sym (append-nil (object_table o 0)) };
  pool = record { rest = []; there = sym (append-nil (object_pool o)) };
}

-- a tree's table says that tree, at its root
pub tree_compiled : (o : Object) → NumberedObject o 1 → ProperObject o → tree_at (image_of_tree o) 1 ≡ of_object o
unfolding tree_at NumberedObject
tree_compiled (object a xs) i g =
    let o = object a xs in
    ap (linked (image_of_tree o) 0) (sym i.0) ∙ object_read (image_of_tree o) o 1 0 0 (omega arith) i g (placed_tree o)
