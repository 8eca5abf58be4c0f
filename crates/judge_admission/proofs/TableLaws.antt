-- Records and a pool that make up a checked table: where each record lies, what its links lead to, and the tree of each kind, as a walker of the bytes meets it. Assumes nothing.
use mathlib.Core.Path.{◌≡◌, refl, sym, ap, ◌∙◌}
use mathlib.Core.Bool.{true, false≢true}
use Rattle.std.specs.Prelude.{Some}
use mathlib.Core.List.{List, [], ◌∷◌, ◌++◌, map}
use Prim.Native.Nat.{ℕ, zero, suc, ◌+◌, ◌*◌, ◌≤◌, ◌<◌}
use native.Mathlib.Omega.{arith}
use lib.Dec.{eqb, lit<}
use borrow.Author.Tests.{eqb-true}
use lib.ListN.{length, get_or, take, drop, length-append, length-drop}
use lib.Seq.{take_all, drop_at, take-append-le, drop-append-le}
use Rattle.lexis.specs.Bytes.{among}
use Rattle.values.proofs.Common.{by_order}
use Rattle.meaning.specs.Constraints.{RangeSort, Range, Text, ObjectHead, AttributeHead, Leaf, single, ranges, texts}
use Rattle.meaning.specs.Constraints
use Rattle.meaning.specs.Sorts.{range_row, text_kind}
use Rattle.meaning.specs.Admission.{leaf_number}
use Rattle.table.specs.Records.{Image, record_size, field_count, field, count, header, image_of, record_in}
use Rattle.table.specs.Rows.{Shape, table_header, object, attribute, text, range, shape_of, object_kind, attribute_kind, kind_of, is_known, is_item, is_listed, items, unnamed, link, row_for, row_of}
use Rattle.table.specs.Rows
use Rattle.table.specs.Check.{kind_at, field_right, uses_of}
use Rattle.table.specs.Names.{record_at}
use Rattle.table.specs.Trees.{Tree, nothing, of_object, of_attributes, of_leaf, attributes_in, value_in, ranges_of, texts_of, items_in, tree_at}
use Rattle.table.specs.Clauses.Answers.{Opened}
use Rattle.table.proofs.Checked.{Checked}
use Rattle.table.proofs.CheckLaws.{check_sound, record_good, field_at, kind_record, kind_inside}
use Rattle.table.proofs.UseLaws.{by_or, shape_kind, kind_shape, item_shape, LinkRight, by_link}
use Rattle.table.proofs.FrameLaws.{count_opened, record_opened}
use Rattle.table.proofs.NameSteps.{sound_open, name_in_pool}
use Rattle.table.proofs.WalkLaws.{node_by, node_of, tree_node}
use Rattle.judge_admission.specs.Clauses.Items.{name_of, record_items, range_in, text_in, leaf_of_shape, record_leaf, Lies, OfKind, ItemsGood, image_from, TableGood}
use Rattle.judge_admission.proofs.ItemSteps.{items_some}

-- a kind among others is one of them
pub by_kind : {P : Type 0} (k x : ℕ) (xs : List ℕ) → among k (x ∷ xs) ≡ true → (k ≡ x → P) → (among k xs ≡ true → P) → P
by_kind k x xs h f g = by_or (eqb k x) (among k xs) h (λ e. f (eqb-true k x e)) g

-- a number of a kind is no header's
above_none : (m : Image) (n : ℕ) → 1 ≤ kind_at m n → 1 ≤ n
above_none m zero h = h
above_none m (suc n) h = omega arith

-- the link of the kinds that are lists
list_link : (k : ℕ) (xs : List ℕ) → is_listed (shape_of k) ≡ true → get_or ((row_of k).uses xs) 4 unnamed ≡ link (k ∷ [])
list_link k xs e = by (shape_of k) (kind_shape k) e
  where
    by : (s : Shape) → (is_known s ≡ true → k ≡ kind_of s) → is_listed s ≡ true
        → get_or ((row_for s).uses xs) 4 unnamed ≡ link (k ∷ [])
    by table_header h e = absurd (false≢true e)
    by object h e = absurd (false≢true e)
    by attribute h e = absurd (false≢true e)
    by text h e = ap (λ j. link (j ∷ [])) (sym (h refl))
    by (Rows.single sort) h e = absurd (false≢true e)
    by (range sort) h e = ap (λ j. link (j ∷ [])) (sym (h refl))

list_some : (k : ℕ) → is_listed (shape_of k) ≡ true → 1 ≤ k
unfolding shape_of
list_some zero e = absurd (false≢true e)
list_some (suc k) e = omega arith

item_known : (s : Shape) → is_item s ≡ true → is_known s ≡ true
item_known table_header e = e
item_known object e = refl
item_known attribute e = refl
item_known text e = refl
item_known (Rows.single sort) e = refl
item_known (range sort) e = refl

item_some : (k : ℕ) → is_item (shape_of k) ≡ true → 1 ≤ k
unfolding shape_of
item_some zero e = absurd (false≢true e)
item_some (suc k) e = omega arith

range_listed : (sort : RangeSort) → is_listed (shape_of (range_row sort).kind) ≡ true
range_listed sort = ap is_listed (shape_kind (range sort))

text_listed : is_listed (shape_of text_kind) ≡ true
text_listed = ap is_listed (shape_kind text)

module _ (records pool : List ℕ) (t : TableGood records pool) where
  opened : Opened (records ++ pool)
      (record { count = field (header (records ++ pool)) 0; pool = field (header (records ++ pool)) 1 })
  opened = sound_open (records ++ pool) t.checked (record { count = field (header (records ++ pool)) 0; pool = field (header (records ++ pool)) 1 }) (refl, refl)

  pub checked : Checked (image_from records pool)
  checked = check_sound (records ++ pool) t.checked

  -- the records are as long as they are many
  pub records_long : length records ≡ record_size * count (image_from records pool)
  records_long = t.whole ∙ ap (λ k. record_size * k) (sym (count_opened (records ++ pool) _ opened))

  -- the pool is the table's
  pub pool_there : (image_from records pool).pool ≡ pool
  unfolding image_of
  pool_there =
      let o = opened in
      let w = o.whole in
      let l = length-append records pool in
      let e = t.whole in
      rw (drop_at records pool (record_size * field (header (records ++ pool)) 0) e, take_all (field (header (records ++ pool)) 1) pool (omega arith))

  -- a record of the table lies among the records
  module _ (n : ℕ) (a : 1 ≤ n) (b : n < count (image_from records pool)) where
    pub record_lies : Lies records n
    record_lies = let l = records_long in omega arith

    pub record_there : record_at (image_from records pool) n ≡ record_in records n
    record_there =
        let l = record_lies in
        let d : record_size ≤ length (drop (record_size * n) records) = rw length-drop (omega arith) in
        record_opened (records ++ pool) _ opened n a (rw (count_opened (records ++ pool) _ opened) at b)
        ∙ rw (drop-append-le (record_size * n) records pool (omega arith), take-append-le record_size (drop (record_size * n) records) pool d)

    pub node_there : tree_at (image_from records pool) n ≡ node_of (image_from records pool) n (record_in records n)
    node_there = tree_node (image_from records pool) checked n a b ∙ ap (node_of (image_from records pool) n) record_there

  -- a number of a kind
  module _ (n k : ℕ) (e : kind_at (image_from records pool) n ≡ k) (h : 1 ≤ k) where
    number-least : 1 ≤ n
    number-least = above_none (image_from records pool) n (rw e h)

    number-most : n < count (image_from records pool)
    number-most = kind_inside (image_from records pool) n (rw e h)

    pub number_lies : Lies records n
    number_lies = record_lies n number-least number-most

    pub kind_there : (record_in records n).kind ≡ k
    kind_there = ap (λ r. r.kind) (sym (record_there n number-least number-most)) ∙ sym (kind_record (image_from records pool) n) ∙ e

    pub tree_there : tree_at (image_from records pool) n ≡ node_of (image_from records pool) n (record_in records n)
    tree_there = node_there n number-least number-most

    pub tree_shaped : (s : Shape) → shape_of k ≡ s
        → tree_at (image_from records pool) n ≡ node_by s (image_from records pool) n (record_in records n)
    tree_shaped s q = tree_there ∙ ap (λ x. node_by x (image_from records pool) n (record_in records n)) (ap shape_of kind_there ∙ q)

    -- its link at a place is 0 or leads up to a record of one of the kinds
    pub link_there : (i : ℕ) (ks : List ℕ) → i < field_count
        → get_or ((row_of k).uses (record_in records n).fields) i unnamed ≡ link ks → 0 < field (record_in records n) i
        → LinkRight (image_from records pool) n ks (field (record_in records n) i)
    link_there i ks l u h =
        let r = record_in records n in
        let g = record_good (image_from records pool) n checked number-least number-most in
        let f = field_at g i l in
        let c : record_at (image_from records pool) n ≡ r = record_there n number-least number-most in
        let w : field_right (image_from records pool) n (link ks) (field r i) (field r (suc i)) ≡ true = rw (uses_of, row_of, c, kind_there, u) at f in
        by_link (image_from records pool) n ks (field r i) (field r (suc i)) w (λ z. absurd (omega arith)) (λ q. q)

    -- its name lies in the pool
    pub name_there : among k (object_kind ∷ attribute_kind ∷ text_kind ∷ []) ≡ true
        → field (record_in records n) 0 + field (record_in records n) 1 ≤ length pool
    name_there z =
        let c : record_at (image_from records pool) n ≡ record_in records n = record_there n number-least number-most in
        rw (c, pool_there) at (name_in_pool (image_from records pool) n checked (rw e z))

  -- a record that lies among the records, and is of a kind that no header has, has that kind in the table
  pub kind_back : (n k : ℕ) → 1 ≤ n → OfKind records k n → kind_at (image_from records pool) n ≡ k
  kind_back n k a o =
      let l = o.lies in
      let c = records_long in
      kind_record (image_from records pool) n ∙ ap (λ r. r.kind) (record_there n a (omega arith)) ∙ o.is

  -- a leaf's items lie among the records and in the pool
  pub items_there : (n k : ℕ) → kind_at (image_from records pool) n ≡ k → 1 ≤ k → ItemsGood records pool n
  items_there n k e h =
      let a = number-least n k e h in
      record {
        there = number_lies n k e h;
        chained = λ j z q. record {
          here = λ _. record { lies = number_lies n k e h; is = q };
          up = λ i l o p.
              let f = kind_back i j (omega arith) o in
              let x = link_there i j f (list_some j z) 4 (j ∷ []) (lit< tt) (list_link j (record_in records i).fields z) p in
              by_kind (kind_at (image_from records pool) (field (record_in records i) 4)) j [] x.kind
              (λ y. (x.above, record { lies = record_lies (field (record_in records i) 4) (omega arith) x.below; is = kind_there (field (record_in records i) 4) j y (list_some j z) }))
              (λ y. absurd (false≢true y));
        };
        spelled = record { inside = λ i l o. name_there i text_kind (kind_back i text_kind (omega arith) o) (omega arith) refl };
      }

  -- the next item of a list is a record's number
  pub list_link_below : (n k : ℕ) → kind_at (image_from records pool) n ≡ k → is_listed (shape_of k) ≡ true
      → 0 < field (record_in records n) 4 → field (record_in records n) 4 < count (image_from records pool)
  list_link_below n k e z h = (link_there n k e (list_some k z) 4 (k ∷ []) (lit< tt) (list_link k (record_in records n).fields z) h).below

  -- a list of items, by what each record stands for
  module _ {A : Type 0} (list : Tree → List A) (make : ℕ → A) (k : ℕ) (z : is_listed (shape_of k) ≡ true)
      (None : list nothing ≡ [])
      (one : (n : ℕ) → kind_at (image_from records pool) n ≡ k
      → list (tree_at (image_from records pool) n)
      ≡ make n ∷ list (tree_at (image_from records pool) (field (record_in records n) 4))) where
    list_there : (fuel n : ℕ) → (0 < n → kind_at (image_from records pool) n ≡ k)
        → (0 < n → count (image_from records pool) ≤ n + fuel)
        → list (tree_at (image_from records pool) n) ≡ map make (record_items records fuel n)
    unfolding tree_at record_items
    list_there zero n f g =
        by_order n 0
        (λ h. let e : n ≡ 0 = omega arith in rw e None)
        (λ h. absurd (let b = number-most n k (f h) (list_some k z) in let c = g h in omega arith))
    list_there (suc fuel) n f g =
        by_order n 0
        (λ h. let e : n ≡ 0 = omega arith in rw e None)
        (λ h.
        let e = f h in
        let c = g h in
        let x = field (record_in records n) 4 in
        let u : 0 < x → LinkRight (image_from records pool) n (k ∷ []) x = link_there n k e (list_some k z) 4 (k ∷ []) (lit< tt) (list_link k (record_in records n).fields z) in
        one n e
        ∙ ap (λ l. make n ∷ l)
        (list_there fuel x
        (λ p. by_kind (kind_at (image_from records pool) x) k [] (u p).kind (λ y. y) (λ y. absurd (false≢true y)))
        (λ p. let q = (u p).above in omega arith))
        ∙ ap (map make) (sym (items_some records fuel n (λ q. omega arith))))

    -- from its first item on
    pub list_first : (n : ℕ) → kind_at (image_from records pool) n ≡ k
        → list (tree_at (image_from records pool) n) ≡ map make (record_items records (length records) n)
    list_first n e = let l = records_long in list_there (length records) n (λ p. e) (λ p. omega arith)

    -- a leaf of such a list, by its tree: the first item, and those behind it
    module _ (leaf : List A → Leaf)
        (whole : (n : ℕ)
        → leaf_of_shape records pool n (shape_of k) ≡ Some (leaf (map make (record_items records (length records) n))))
        (n : ℕ) (e : kind_at (image_from records pool) n ≡ k) where
      pub list_leaf : record_leaf records pool n
          ≡ Some (leaf (make n ∷ list (tree_at (image_from records pool) (field (record_in records n) 4))))
      list_leaf = ap (λ j. leaf_of_shape records pool n (shape_of j)) (kind_there n k e (list_some k z)) ∙ whole n ∙ ap (λ l. Some (leaf l)) (sym (list_first n e) ∙ one n e)

      pub list_rest : 0 < field (record_in records n) 4
          → record_leaf records pool (field (record_in records n) 4)
          ≡ Some (leaf (list (tree_at (image_from records pool) (field (record_in records n) 4))))
      list_rest h =
          let x = field (record_in records n) 4 in
          let u : kind_at (image_from records pool) x ≡ k = by_kind (kind_at (image_from records pool) x) k [] (link_there n k e (list_some k z) 4 (k ∷ []) (lit< tt) (list_link k (record_in records n).fields z) h).kind (λ y. y) (λ y. absurd (false≢true y)) in
          ap (λ j. leaf_of_shape records pool x (shape_of j)) (kind_there x k u (list_some k z)) ∙ whole x ∙ ap (λ l. Some (leaf l)) (sym (list_first x u))

  -- the leaf whose first item has a number
  pub record LeafIs (n : ℕ) : Type 0 where
    pub leaf : Leaf
    pub tree : tree_at (image_from records pool) n ≡ of_leaf leaf
    pub there : record_leaf records pool n ≡ Some leaf
    pub number : leaf_number leaf ≡ n

  -- the trees of objects and attributes
  module _ (n : ℕ) where
    abbrev pub object_head : ObjectHead
    object_head =
        let r = record_in records n in
        record { number = n; type = name_of pool r; code = take (field r 3) (drop (field r 2) pool) }

    pub object_tree : kind_at (image_from records pool) n ≡ 1
        → tree_at (image_from records pool) n
        ≡ of_object
        (Constraints.object object_head (attributes_in (tree_at (image_from records pool) (field (record_in records n) 4))))
    unfolding shape_of
    object_tree e = tree_shaped n 1 e (omega arith) object refl ∙ rw pool_there

    abbrev pub attribute_head : AttributeHead
    attribute_head = record { number = n; existence = (record_in records n).flag; name = name_of pool (record_in records n) }

    pub attribute_tree : kind_at (image_from records pool) n ≡ 2
        → tree_at (image_from records pool) n
        ≡ of_attributes
        (Constraints.attribute attribute_head (value_in (tree_at (image_from records pool) (field (record_in records n) 2)))
        (attributes_in (tree_at (image_from records pool) (field (record_in records n) 3))))
    unfolding shape_of
    attribute_tree e = tree_shaped n 2 e (omega arith) attribute refl ∙ rw pool_there

  -- those of lists
  ranges_tree_lem : (sort : RangeSort) (n : ℕ) → kind_at (image_from records pool) n ≡ (range_row sort).kind
      → tree_at (image_from records pool) n
      ≡ of_leaf (ranges sort
      (range_in sort records n ∷ items_in ranges_of (tree_at (image_from records pool) (field (record_in records n) 4))))
  ranges_tree_lem sort n e = tree_shaped n (range_row sort).kind e (list_some _ (range_listed sort)) (range sort) (shape_kind (range sort))

  texts_tree_lem : (n : ℕ) → kind_at (image_from records pool) n ≡ text_kind
      → tree_at (image_from records pool) n
      ≡ of_leaf (texts
      (text_in records pool n ∷ items_in texts_of (tree_at (image_from records pool) (field (record_in records n) 4))))
  texts_tree_lem n e = tree_shaped n text_kind e (omega arith) text (shape_kind text) ∙ rw pool_there

  -- the leaves of lists, by their trees, and the leaves behind their first items
  module _ (sort : RangeSort) (n : ℕ) (e : kind_at (image_from records pool) n ≡ (range_row sort).kind) where
    abbrev pub ranges_here : List Range
    ranges_here = items_in ranges_of (tree_at (image_from records pool) (field (record_in records n) 4))

    pub ranges-leaf : record_leaf records pool n ≡ Some (ranges sort (range_in sort records n ∷ ranges_here))
    ranges-leaf =
        list_leaf (items_in ranges_of) (range_in sort records) (range_row sort).kind (range_listed sort) refl (λ i q. ap (items_in ranges_of) (ranges_tree_lem sort i q))
        (ranges sort) (λ i. ap (leaf_of_shape records pool i) (shape_kind (range sort))) n e

    pub ranges_rest : 0 < field (record_in records n) 4
        → record_leaf records pool (field (record_in records n) 4) ≡ Some (ranges sort ranges_here)
    ranges_rest =
        list_rest (items_in ranges_of) (range_in sort records) (range_row sort).kind (range_listed sort) refl (λ i q. ap (items_in ranges_of) (ranges_tree_lem sort i q))
        (ranges sort) (λ i. ap (leaf_of_shape records pool i) (shape_kind (range sort))) n e

  module _ (n : ℕ) (e : kind_at (image_from records pool) n ≡ text_kind) where
    abbrev pub texts_here : List Text
    texts_here = items_in texts_of (tree_at (image_from records pool) (field (record_in records n) 4))

    pub texts_leaf : record_leaf records pool n ≡ Some (texts (text_in records pool n ∷ texts_here))
    texts_leaf =
        list_leaf (items_in texts_of) (text_in records pool) text_kind text_listed refl (λ i q. ap (items_in texts_of) (texts_tree_lem i q))
        texts (λ i. ap (leaf_of_shape records pool i) (shape_kind text)) n e

    pub texts_rest : 0 < field (record_in records n) 4
        → record_leaf records pool (field (record_in records n) 4) ≡ Some (texts texts_here)
    texts_rest =
        list_rest (items_in texts_of) (text_in records pool) text_kind text_listed refl (λ i q. ap (items_in texts_of) (texts_tree_lem i q))
        texts (λ i. ap (leaf_of_shape records pool i) (shape_kind text)) n e

  -- a leaf is there where the kind is an item's
  module _ (n : ℕ) where
    leaf_by_lem : (k : ℕ) → kind_at (image_from records pool) n ≡ k → 1 ≤ k → (s : Shape) → shape_of k ≡ s → is_known s ≡ true
        → is_item s ≡ true → LeafIs n
    leaf_by_lem k e l table_header q z i = absurd (false≢true i)
    leaf_by_lem k e l object q z i = absurd (false≢true i)
    leaf_by_lem k e l attribute q z i = absurd (false≢true i)
    leaf_by_lem k e l text q z i =
        let x : k ≡ text_kind = kind_shape k (rw q) ∙ ap kind_of q in
        record { leaf = texts (text_in records pool n ∷ texts_here n (e ∙ x)); tree = texts_tree_lem n (e ∙ x); there = texts_leaf n (e ∙ x); number = refl }
    leaf_by_lem k e l (Rows.single sort) q z i = record {
      leaf = single sort n (record_in records n).flag;
      tree = tree_shaped n k e l (Rows.single sort) q;
      there = ap (leaf_of_shape records pool n) (ap shape_of (kind_there n k e l) ∙ q);
      number = refl;
    }
    leaf_by_lem k e l (range sort) q z i =
        let x : k ≡ (range_row sort).kind = kind_shape k (rw q) ∙ ap kind_of q in
        record { leaf = ranges sort (range_in sort records n ∷ ranges_here sort n (e ∙ x)); tree = ranges_tree_lem sort n (e ∙ x); there = ranges-leaf sort n (e ∙ x); number = refl }

    pub leaf_there : among (kind_at (image_from records pool) n) items ≡ true → LeafIs n
    leaf_there a =
        let k = kind_at (image_from records pool) n in
        let i = item_shape k a in
        leaf_by_lem k refl (item_some k i) (shape_of k) refl (item_known (shape_of k) i) i
