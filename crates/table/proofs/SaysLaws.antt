-- What the records of a table say by the rules is what its trees hold. Assumes nothing.
use mathlib.Core.Path.{◌≡◌, refl, sym, ap, subst, ◌∙◌}
use mathlib.Core.Bool.{Bool}
use mathlib.Core.Logic.{◌↔◌}
use Rattle.std.specs.Prelude.{Option, None, Some}
use mathlib.Core.List.{List, [], ◌∷◌}
use Prim.Native.Nat.{ℕ, zero, suc, ◌+◌, ◌*◌, ◌≤◌, ◌<◌}
use native.Mathlib.Omega.{arith}
use lib.Dec.{lit<}
use lib.ListN
use lib.ListN.{get_or, take, drop, length-take, length-drop, get_or-eq_default}
use lib.Seq.{drop-drop, take_all}
use Rattle.values.proofs.Common.{Each, none_each, some_each, by_order}
use Rattle.meaning.specs.Constraints.{Range, Text, Leaf, RangeSort, integers, dates, ranges, texts, Object, Attributes, Value}
use Rattle.meaning.specs.Constraints
use Rattle.meaning.specs.Sorts.{range_row}
use Rattle.table.specs.Records.{Record, Image, field_count, record_size, make, field, record_in, image_of}
use Rattle.table.specs.Records
use Rattle.table.specs.Rows.{shape_of, unnamed, link}
use Rattle.table.specs.Check.{uses_of, table_fault}
use Rattle.table.specs.Names.{record_at}
use Rattle.table.specs.Trees.{Tree, nothing, of_object, of_attributes, of_leaf, attributes_in, value_in, ranges_of, texts_of, items_in, trees_of, tree_at, object_in, object_at}
use Rattle.table.specs.TableRules.{KindAt, Holds, PoolPair, Link, Only, only, ObjectOrItem, IsRecord, IsTable}
use Rattle.table.specs.Says.{NameIs, name_is, SaysIntegers, SaysDates, SaysStrings, SaysLeaf, SaysObject, SaysAttributes, SaysValue, Says, NoObject}
use Rattle.table.specs.declared.records.Frame.{Frame}
use Rattle.table.proofs.Checked.{Checked}
use Rattle.table.proofs.UseLaws.{by_link}
use Rattle.table.proofs.CheckLaws.{Framed, count-framed, fault_none, check_sound, record_good, field_at}
use Rattle.table.proofs.TreeLaws.{length-trees_of}
use Rattle.table.proofs.FrameLaws.{record_opened, framed_opened}
use Rattle.table.proofs.WalkLaws.{node_by, node_of, tree_node}
use Rattle.table.proofs.HoldsLaws.{holds_is, kind_is}
use Rattle.table.proofs.FieldRuleLaws.{twos_is}
use Rattle.table.proofs.TableRuleLaws.{frame_is, passes}

-- a pair of the pool ends in it
pair_inside : {pool least most place size : ℕ} → PoolPair pool least most place size → place + size ≤ pool
pair_inside (PoolPair.empty e) = omega arith
pair_inside (PoolPair.filled a b c d) = d

-- the tree of a list of closed pairs, and of one of strings, from its first item on; none where it is empty
abbrev ranges_tree : RangeSort → List Range → Tree
ranges_tree sort [] = nothing
ranges_tree sort (x ∷ l) = of_leaf (ranges sort (x ∷ l))

abbrev texts_tree : List Text → Tree
texts_tree [] = nothing
texts_tree (x ∷ l) = of_leaf (texts (x ∷ l))

ranges_back : (sort : RangeSort) (l : List Range) → items_in ranges_of (ranges_tree sort l) ≡ l
ranges_back sort [] = refl
ranges_back sort (x ∷ l) = refl

texts_back : (l : List Text) → items_in texts_of (texts_tree l) ≡ l
texts_back [] = refl
texts_back (x ∷ l) = refl

-- a record says the tree, or is the header
abbrev SaysTree : List ℕ → ℕ → ℕ → Tree → Type 0
SaysTree bs count n nothing = n ≡ 0
SaysTree bs count n (of_object o) = SaysObject bs count n o
SaysTree bs count n (of_attributes xs) = SaysAttributes bs count n xs
SaysTree bs count n (of_leaf l) = SaysLeaf bs count n l

-- the object of a tree
object_tree : (y : Tree) → Each (λ o. y ≡ of_object o) (object_in y)
object_tree nothing = none_each (λ o. nothing ≡ of_object o)
object_tree (of_object p) = some_each (λ o. of_object p ≡ of_object o) p refl
object_tree (of_attributes xs) = none_each (λ o. of_attributes xs ≡ of_object o)
object_tree (of_leaf l) = none_each (λ o. of_leaf l ≡ of_object o)

-- an object's number is one of the table's
tree_inside : (m : Image) (n : ℕ) (o : Object) → tree_at m n ≡ of_object o → n < Records.count m
unfolding tree_at
tree_inside m n o e =
    let l = length-trees_of m in
    by_order (Records.count m) n
    (λ k.
    let z : tree_at m n ≡ nothing = get_or-eq_default (nothing ∷ trees_of m) nothing {n = n} (omega arith) in
    none_each (λ x. n < Records.count m) o (ap object_in (sym z ∙ e)))
    (λ k. k)

-- where there is no answer it is none
no_answer : {A : Type 0} (o : Option A) → ((a : A) → o ≡ Some a → ⊥) → o ≡ None
no_answer None f = refl
no_answer (Some a) f = absurd (f a refl)

-- the items that a leaf says
module _ {bs : List ℕ} {count n : ℕ} where
  integers_in : {x : Range} {l : List Range} → SaysLeaf bs count n (ranges integers (x ∷ l)) → SaysIntegers bs n (x ∷ l)
  integers_in (SaysLeaf.integer s) = s

  dates_in : {x : Range} {l : List Range} → SaysLeaf bs count n (ranges dates (x ∷ l)) → SaysDates bs n (x ∷ l)
  dates_in (SaysLeaf.date_interval s) = s

  strings_in : {x : Text} {l : List Text} → SaysLeaf bs count n (texts (x ∷ l)) → SaysStrings bs count n (x ∷ l)
  strings_in (SaysLeaf.string s) = s

module _ {bs : List ℕ} {count pool root : ℕ} (t : IsTable bs count pool root) where
  -- a table passes the check
  pub table_checked : table_fault bs ≡ None
  table_checked = (passes bs).1 (count, pool, root, t)

  -- so it keeps what a checked one does
  checked : Checked (image_of bs)
  checked = check_sound bs table_checked

  frame : Framed bs
  frame = (fault_none bs table_checked).frame

  -- it has so many records
  pub table_count : Records.count (image_of bs) ≡ count
  table_count = count-framed bs frame ∙ sym (frame_is bs count pool root t.frame).0

  -- its pool is what stands behind its records
  pool_is : (image_of bs).pool ≡ drop (record_size * count) bs
  unfolding image_of
  pool_is =
      let e = frame_is bs count pool root t.frame in
      let w = t.frame.sized in
      rw (← e.0, ← e.1) (take_all pool (drop (record_size * count) bs) (rw length-drop (omega arith)))

  -- the record with a number decodes the bytes there
  record_here : (n : ℕ) → 1 ≤ n → n < count → record_at (image_of bs) n ≡ record_in bs n
  record_here n a b =
      let e = frame_is bs count pool root t.frame in
      let f : Frame = record { count = count; pool = pool } in
      record_opened bs f (framed_opened bs f frame e.0 e.1) n a b

  -- only the header has the kind 0
  kind_behind : (n : ℕ) → 1 ≤ (record_in bs n).kind → 1 ≤ n
  kind_behind zero h = let k = frame.kind in absurd (omega arith)
  kind_behind (suc n) h = omega arith

  module _ {n : ℕ} {little : Bool} {r : Record} (h : Holds bs n little r) (k : 1 ≤ r.kind) (l : n < count) where
    -- the record that bytes hold is the table's
    pub record_held : (1 ≤ n) × (record_at (image_of bs) n ≡ r)
    record_held =
        let e = holds_is bs n little r h in
        let a = kind_behind n (rw (← e) k) in
        (a, record_here n a l ∙ sym e)

    -- so the tree there is the record's
    node_held : tree_at (image_of bs) n ≡ node_of (image_of bs) n r
    node_held =
        let x = record_held in
        let c = table_count in
        tree_node (image_of bs) checked n x.0 (omega arith) ∙ ap (node_of (image_of bs) n) x.1

    -- and its links end below the count
    pub link_below_lem : (i : ℕ) (ks : List ℕ) → i < field_count → get_or (uses_of r) i unnamed ≡ link ks → field r i < count
    link_below_lem i ks b u =
        let x = record_held in
        let c = table_count in
        let f = rw x.1 at (field_at (record_good (image_of bs) n checked x.0 (omega arith)) i b) in
        by_link (image_of bs) n ks (field r i) (field r (suc i)) (rw u at f) (λ z. omega arith) (λ y. omega arith)

  -- the bytes that a place and a length name, in the pool and behind the records
  name_behind : (place size : ℕ)
      → take size (drop place (image_of bs).pool) ≡ take size (drop (record_size * count + place) bs)
  name_behind place size = rw (pool_is, drop-drop)

  name_only : {place size : ℕ} {w : List ℕ} → NameIs bs count place size w
      → take size (drop place (image_of bs).pool) ≡ w
  name_only {place} (name_is {w} h) = name_behind place (ListN.length w) ∙ h

  name_there : {least most place size : ℕ} → PoolPair pool least most place size
      → NameIs bs count place size (take size (drop place (image_of bs).pool))
  name_there {place = place} {size = size} p =
      let w = take size (drop (record_size * count + place) bs) in
      let i = pair_inside p in
      let s = t.frame.sized in
      let e : ListN.length w ≡ size = rw (length-take, length-drop) (omega arith) in
      rw (name_behind place size) (subst (λ k. NameIs bs count place k w) e (name_is (rw e refl)))

  -- what items and leaves say is what their trees hold; here the first of a list of closed pairs
  range_only : (sort : RangeSort) {n a b e : ℕ} {little : Bool} (l : List Range)
      → Holds bs n little (make (range_row sort).kind 0 (a ∷ b ∷ 0 ∷ 0 ∷ e ∷ [])) → n < count
      → (e < count → tree_at (image_of bs) e ≡ ranges_tree sort l)
      → tree_at (image_of bs) n
      ≡ of_leaf (ranges sort (record { number = n; low = (range_row sort).end a; high = (range_row sort).end b } ∷ l))
  unfolding shape_of
  range_only integers l h k more = node_held h (lit< tt) k ∙ rw (more (link_below_lem h (lit< tt) k 4 _ (lit< tt) refl), ranges_back)
  range_only dates l h k more = node_held h (lit< tt) k ∙ rw (more (link_below_lem h (lit< tt) k 4 _ (lit< tt) refl), ranges_back)

  integers_only : {n : ℕ} {l : List Range} → SaysIntegers bs n l → n < count
      → tree_at (image_of bs) n ≡ ranges_tree integers l
  unfolding tree_at
  integers_only SaysIntegers.no_more k = refl
  integers_only (SaysIntegers.integer {l = l} h a b more) k = rw ((twos_is a).1, (twos_is b).1) (range_only integers l h k (λ i. integers_only more i))

  dates_only : {n : ℕ} {l : List Range} → SaysDates bs n l → n < count → tree_at (image_of bs) n ≡ ranges_tree dates l
  unfolding tree_at
  dates_only SaysDates.no_more k = refl
  dates_only (SaysDates.date_interval {l = l} h more) k = range_only dates l h k (λ i. dates_only more i)

  strings_only : {n : ℕ} {l : List Text} → SaysStrings bs count n l → n < count → tree_at (image_of bs) n ≡ texts_tree l
  unfolding tree_at shape_of
  strings_only SaysStrings.no_more k = refl
  strings_only (SaysStrings.string {l = l} h w more) k =
      node_held h (lit< tt) k ∙ rw (name_only w, strings_only more (link_below_lem h (lit< tt) k 4 _ (lit< tt) refl), texts_back)

  leaf_only : {n : ℕ} {l : Leaf} → SaysLeaf bs count n l → n < count → tree_at (image_of bs) n ≡ of_leaf l
  unfolding shape_of
  leaf_only (SaysLeaf.boolean h) k = node_held h (lit< tt) k
  leaf_only (SaysLeaf.integer s) k = integers_only s k
  leaf_only (SaysLeaf.string s) k = strings_only s k
  leaf_only (SaysLeaf.date_pattern h) k = node_held h (lit< tt) k
  leaf_only (SaysLeaf.date_interval s) k = dates_only s k
  leaf_only (SaysLeaf.time_pattern h) k = node_held h (lit< tt) k
  leaf_only (SaysLeaf.duration_pattern h) k = node_held h (lit< tt) k

  -- and so it is with objects, attributes and values
  mutual
    unfolding tree_at shape_of

    object_only : (o : Object) {n : ℕ} → SaysObject bs count n o → n < count → tree_at (image_of bs) n ≡ of_object o
    object_only (Constraints.object head xs) (SaysObject.object h a b s) k =
        node_held h (lit< tt) k ∙ rw (name_only a, name_only b, attributes_only xs s (link_below_lem h (lit< tt) k 4 _ (lit< tt) refl))

    attributes_only : (xs : Attributes) {n : ℕ} → SaysAttributes bs count n xs → n < count
        → attributes_in (tree_at (image_of bs) n) ≡ xs
    attributes_only Constraints.no_more SaysAttributes.no_more k = refl
    attributes_only (Constraints.attribute head v more) (SaysAttributes.attribute h a s r) k =
        rw (
          node_held h (lit< tt) k,
          name_only a,
          value_only v s (link_below_lem h (lit< tt) k 2 _ (lit< tt) refl),
          attributes_only more r (link_below_lem h (lit< tt) k 3 _ (lit< tt) refl),
        )

    value_only : (v : Value) {n : ℕ} → SaysValue bs count n v → n < count → value_in (tree_at (image_of bs) n) ≡ v
    value_only Constraints.any SaysValue.anything k = refl
    value_only (Constraints.nested o) (SaysValue.an_object s) k = ap value_in (object_only o s k)
    value_only (Constraints.leaf l) (SaysValue.a_leaf s) k = ap value_in (leaf_only s k)

  -- the tree at a record whose kind is known
  node_kind : {n kind : ℕ} → KindAt bs n kind → 1 ≤ n → n < count
      → tree_at (image_of bs) n ≡ node_by (shape_of kind) (image_of bs) n (record_in bs n)
  node_kind {n} {kind} h a k =
      let c = table_count in
      tree_node (image_of bs) checked n a (omega arith)
      ∙ ap (node_of (image_of bs) n) (record_here n a k)
      ∙ ap (λ j. node_by (shape_of j) (image_of bs) n (record_in bs n)) (kind_is bs n kind h)

  -- where each record behind n says its tree, so does what a link of n leads to
  module _ (n : ℕ) (above : (x : ℕ) → n < x → x < count → SaysTree bs count x (tree_at (image_of bs) x)) where
    attributes_there : {x : ℕ} → Link bs count n (Only 2) x
        → SaysAttributes bs count x (attributes_in (tree_at (image_of bs) x))
    unfolding tree_at shape_of
    attributes_there Link.nowhere = SaysAttributes.no_more
    attributes_there (Link.leads {x} a b h only) = let e = node_kind h (omega arith) b in rw e (rw e at (above x a b))

    leaf_there : {x kind : ℕ} {l : Leaf} → KindAt bs x kind → n < x → x < count
        → node_by (shape_of kind) (image_of bs) x (record_in bs x) ≡ of_leaf l
        → (tree_at (image_of bs) x ≡ of_leaf l) × SaysLeaf bs count x l
    leaf_there {x} h a b q = let e = node_kind h (omega arith) b ∙ q in (e, rw e at (above x a b))

    leaf-value : {x : ℕ} {l : Leaf} → (tree_at (image_of bs) x ≡ of_leaf l) × SaysLeaf bs count x l
        → SaysValue bs count x (value_in (tree_at (image_of bs) x))
    leaf-value p = rw p.0 (SaysValue.a_leaf p.1)

    value_there : {x : ℕ} → Link bs count n ObjectOrItem x → SaysValue bs count x (value_in (tree_at (image_of bs) x))
    unfolding tree_at shape_of
    value_there Link.nowhere = SaysValue.anything
    value_there (Link.leads {x} a b h ObjectOrItem.object) = let e = node_kind h (omega arith) b in rw e (SaysValue.an_object (rw e at (above x a b)))
    value_there (Link.leads a b h ObjectOrItem.boolean) = leaf-value (leaf_there h a b refl)
    value_there (Link.leads a b h ObjectOrItem.integer) = leaf-value (leaf_there h a b refl)
    value_there (Link.leads a b h ObjectOrItem.string) = leaf-value (leaf_there h a b refl)
    value_there (Link.leads a b h ObjectOrItem.date_pattern) = leaf-value (leaf_there h a b refl)
    value_there (Link.leads a b h ObjectOrItem.date_interval) = leaf-value (leaf_there h a b refl)
    value_there (Link.leads a b h ObjectOrItem.time_pattern) = leaf-value (leaf_there h a b refl)
    value_there (Link.leads a b h ObjectOrItem.duration_pattern) = leaf-value (leaf_there h a b refl)

    integers_there : {x : ℕ} → Link bs count n (Only 4) x → SaysIntegers bs x (items_in ranges_of (tree_at (image_of bs) x))
    unfolding tree_at shape_of
    integers_there Link.nowhere = SaysIntegers.no_more
    integers_there (Link.leads a b h only) = let p = leaf_there h a b refl in rw p.0 (integers_in p.1)

    dates_there : {x : ℕ} → Link bs count n (Only 7) x → SaysDates bs x (items_in ranges_of (tree_at (image_of bs) x))
    unfolding tree_at shape_of
    dates_there Link.nowhere = SaysDates.no_more
    dates_there (Link.leads a b h only) = let p = leaf_there h a b refl in rw p.0 (dates_in p.1)

    strings_there : {x : ℕ} → Link bs count n (Only 5) x
        → SaysStrings bs count x (items_in texts_of (tree_at (image_of bs) x))
    unfolding tree_at shape_of
    strings_there Link.nowhere = SaysStrings.no_more
    strings_there (Link.leads a b h only) = let p = leaf_there h a b refl in rw p.0 (strings_in p.1)

    -- and so does record n
    record_there : IsRecord bs count pool n → n < count → SaysTree bs count n (tree_at (image_of bs) n)
    unfolding shape_of
    record_there (IsRecord.object h p q l) k = rw (node_held h (lit< tt) k) (SaysObject.object h (name_there p) (name_there q) (attributes_there l))
    record_there (IsRecord.attribute h f p l q) k =
        rw (node_held h (lit< tt) k) (SaysAttributes.attribute h (name_there p) (value_there l) (attributes_there q))
    record_there (IsRecord.boolean h a b) k = rw (node_held h (lit< tt) k) (SaysLeaf.boolean h)
    record_there (IsRecord.integer h a b o l) k =
        rw (node_held h (lit< tt) k, ← (twos_is a).1, ← (twos_is b).1) (SaysLeaf.integer (SaysIntegers.integer h a b (integers_there l)))
    record_there (IsRecord.string h p l) k = rw (node_held h (lit< tt) k) (SaysLeaf.string (SaysStrings.string h (name_there p) (strings_there l)))
    record_there (IsRecord.date_pattern h a b) k = rw (node_held h (lit< tt) k) (SaysLeaf.date_pattern h)
    record_there (IsRecord.date_interval h a b o l) k = rw (node_held h (lit< tt) k) (SaysLeaf.date_interval (SaysDates.date_interval h (dates_there l)))
    record_there (IsRecord.time_pattern h a b) k = rw (node_held h (lit< tt) k) (SaysLeaf.time_pattern h)
    record_there (IsRecord.duration_pattern h a b) k = rw (node_held h (lit< tt) k) (SaysLeaf.duration_pattern h)

  -- so every record says its tree, from the last one down
  tree_there : (more n : ℕ) → count ≤ n + more → n < count → SaysTree bs count n (tree_at (image_of bs) n)
  unfolding tree_at
  tree_there zero n l k = absurd (omega arith)
  tree_there (suc more) zero l k = refl
  tree_there (suc more) (suc n) l k = record_there (suc n) (λ x a b. tree_there more x (omega arith) b) (t.records (suc n) (omega arith) k) k

  -- the object of a tree is said by the record there
  object_said : (n : ℕ) (o : Object) → tree_at (image_of bs) n ≡ of_object o → Says bs n o
  object_said n o e =
      let i = tree_inside (image_of bs) n o e in
      let c = table_count in
      let k : n < count = omega arith in
      record {
        count = count;
        pool = pool;
        root = root;
        table = t;
        inside = k;
        object = rw e at (tree_there count n (omega arith) k);
      }

  -- a record of the kind 1 has the tree of an object
  object_kind_lem : (n : ℕ) → n < count → KindAt bs n 1 → (o : Object) × (tree_at (image_of bs) n ≡ of_object o)
  unfolding shape_of
  object_kind_lem n k h = let e = kind_is bs n 1 h in (_, node_kind h (kind_behind n (omega arith)) k)

-- what the check passes and the trees hold, the records say
pub says_there : (bs : List ℕ) (n : ℕ) (o : Object) → table_fault bs ≡ None → object_at (image_of bs) n ≡ Some o
    → Says bs n o
says_there bs n o e q =
    let p = (passes bs).0 e in
    object_said p.3 n o (object_tree (tree_at (image_of bs) n) o q)

-- and nothing else
pub says_only : (bs : List ℕ) (n : ℕ) (o : Object) → Says bs n o → object_at (image_of bs) n ≡ Some o
says_only bs n o s = ap object_in (object_only s.table o s.object s.inside)

-- every record of the kind 1 says an object
pub object_there : (bs : List ℕ) (n count pool root : ℕ) → IsTable bs count pool root → n < count → KindAt bs n 1
    → (o : Object) × Says bs n o
object_there bs n count pool root t k h =
    let p = object_kind_lem t n k h in
    (p.0, object_said t n p.0 p.1)

-- a record that says an object has the kind 1
says_kind : {bs : List ℕ} {count n : ℕ} {o : Object} → SaysObject bs count n o → KindAt bs n 1
says_kind (SaysObject.object h a b s) = h.kind

-- no other number has an object
pub no_object : (bs : List ℕ) (n : ℕ) → ((table_fault bs ≡ None) × (object_at (image_of bs) n ≡ None)) ↔ NoObject bs n
no_object bs n = (
  λ p.
      let q = (passes bs).0 p.0 in
      record {
        count = q.0;
        pool = q.1;
        root = q.2;
        table = q.3;
        other = λ k h. let o = object_kind_lem q.3 n k h in none_each (λ x. ⊥) o.0 (sym p.1 ∙ ap object_in o.1);
      },
  λ x.
      let e = table_checked x.table in (
        e,
        no_answer (object_at (image_of bs) n) (λ o q.
            let s = says_there bs n o e q in
            x.other (rw (← (table_count x.table), table_count s.table) s.inside) (says_kind s.object)),
      ),
)
