-- The tree of a record of a checked table, as a walker of the links meets it: what each link leads to is the tree of the record that it names. Assumes nothing.
use mathlib.Core.Path.{◌≡◌, refl, sym, ap, ◌∙◌}
use mathlib.Core.Bool.{true}
use mathlib.Core.List.{List, [], ◌∷◌}
use Prim.Native.Nat.{ℕ, zero, suc, ◌+◌, ◌-◌, ◌≤◌, ◌<◌}
use native.Mathlib.Nat.{add-zero}
use native.Mathlib.Omega.{arith}
use lib.Dec.{lit<}
use lib.ListN
use lib.ListN.{get_or, take, drop}
use lib.Seq.{get_or-drop}
use Rattle.meaning.specs.Constraints.{ObjectHead, AttributeHead, ranges, texts}
use Rattle.meaning.specs.Constraints
use Rattle.meaning.specs.Sorts.{range_row}
use Rattle.table.specs.Records.{Record, Image, field_count, field, count}
use Rattle.table.specs.Rows.{Shape, table_header, object, attribute, text, single, range, shape_of, Use, unnamed, link, row_for, row_of}
use Rattle.table.specs.Check.{field_right, uses_of}
use Rattle.table.specs.Names.{record_at}
use Rattle.table.specs.Trees.{number, part_of, parts_of, Cell, cell, cells, cells_of, part_at, step_in, Tree, nothing, of_object, of_attributes, of_leaf, attributes_in, value_in, ranges_of, texts_of, items_in, reach, tree_by, tree_of, trees, trees_of, tree_at}
use Rattle.table.proofs.Checked.{Checked, RecordGood}
use Rattle.table.proofs.UseLaws.{uses_counted, by_link}
use Rattle.table.proofs.CheckLaws.{record_good, field_at}
use Rattle.table.proofs.TreeLaws.{length-cells}

-- the tree of a cell among others is made of the trees above it
trees_there : (i k : ℕ) (xs : List Cell) (z : Cell) → k < ListN.length xs
    → get_or (trees i xs) k nothing ≡ tree_of (i + k) (get_or xs k z) (drop (suc k) (trees i xs))
trees_there i k [] z h = absurd (omega arith)
trees_there i zero (x ∷ xs) z h = rw add-zero
trees_there i (suc k) (x ∷ xs) z h =
    let e : suc i + k ≡ i + suc k = omega arith in
    trees_there (suc i) k xs z (omega arith) ∙ ap (λ j. tree_of j (get_or xs k z) (drop (suc k) (trees (suc i) xs))) e

cells_there : (pool : List ℕ) (i k : ℕ) (rs : List Record) (r : Record) (z : Cell) → k < ListN.length rs
    → get_or (cells pool i rs) k z ≡ cell pool (i + k) (get_or rs k r)
cells_there pool i k [] r z h = absurd (omega arith)
cells_there pool i zero (x ∷ xs) r z h = rw add-zero
cells_there pool i (suc k) (x ∷ xs) r z h =
    let e : suc i + k ≡ i + suc k = omega arith in
    cells_there pool (suc i) k xs r z (omega arith) ∙ ap (λ j. cell pool j (get_or xs k r)) e

-- a field as it is meant, by its place
parts_there : (pool : List ℕ) (n : ℕ) (us : List Use) (xs : List ℕ) (i : ℕ) → i < ListN.length us → i < ListN.length xs
    → get_or (parts_of pool n us xs) i (number 0) ≡ part_of pool n (get_or us i unnamed) (get_or xs i 0) (get_or xs (suc i) 0)
parts_there pool n [] xs i h k = absurd (omega arith)
parts_there pool n (u ∷ us) [] i h k = absurd (omega arith)
parts_there pool n (u ∷ us) (x ∷ xs) zero h k = refl
parts_there pool n (u ∷ us) (x ∷ xs) (suc i) h k = parts_there pool n us xs i (omega arith) (omega arith)

-- a link, read as a step up, leads to the tree of the record that it names
link_there : (m : Image) (k x : ℕ) (ks : List ℕ) (next : ℕ) → field_right m (suc k) (link ks) x next ≡ true
    → reach (drop (suc k) (trees_of m)) (x - suc k) ≡ tree_at m x
unfolding tree_at
link_there m k x ks next h = by_link m (suc k) ks x next h
    (λ z. let e : 0 - suc k ≡ 0 = omega arith in rw (z, e))
    (λ l.
    let above : suc k < x = l.above in
    let j = x - suc (suc k) in
    let e : x - suc k ≡ suc j = omega arith in
    let f : suc k + j ≡ x - 1 = omega arith in
    let g : x ≡ suc (x - 1) = omega arith in
    rw (e, get_or-drop, f) (sym (ap (λ y. get_or (nothing ∷ trees_of m) y nothing) g)))

-- the name that two fields of a record give
abbrev pub name_at : Image → Record → ℕ → List ℕ
name_at m r i = take (field r (suc i)) (drop (field r i) m.pool)

-- what a record stands for by what it is, its links followed by number
abbrev pub node_by : Shape → Image → ℕ → Record → Tree
node_by table_header m n r = nothing
node_by object m n r =
    let head : ObjectHead = record { number = n; type = name_at m r 0; code = name_at m r 2 } in
    of_object (Constraints.object head (attributes_in (tree_at m (field r 4))))
node_by attribute m n r =
    let head : AttributeHead = record { number = n; existence = r.flag; name = name_at m r 0 } in
    of_attributes (Constraints.attribute head (value_in (tree_at m (field r 2))) (attributes_in (tree_at m (field r 3))))
node_by text m n r = of_leaf (texts (record { number = n; text = name_at m r 0 } ∷ items_in texts_of (tree_at m (field r 4))))
node_by (single sort) m n r = of_leaf (Constraints.single sort n r.flag)
node_by (range sort) m n r =
    let end : ℕ → ℕ = λ i. (range_row sort).end (field r i) in
    of_leaf (ranges sort (record { number = n; low = end 0; high = end 1 } ∷ items_in ranges_of (tree_at m (field r 4))))

abbrev pub node_of : Image → ℕ → Record → Tree
node_of m n r = node_by (shape_of r.kind) m n r

module _ (m : Image) (k : ℕ) (r : Record) (g : RecordGood m (suc k) r) (s : Shape) (e : shape_of r.kind ≡ s) where
  -- a field as it is meant, where the record's shape is known
  part_there : (i : ℕ) → i < field_count
      → part_at (cell m.pool (suc k) r) i
      ≡ part_of m.pool (suc k) (get_or ((row_for s).uses r.fields) i unnamed) (field r i) (field r (suc i))
  part_there i h =
      parts_there m.pool (suc k) (uses_of r) r.fields i (omega (arith, uses_counted (shape_of r.kind) r.fields)) (omega (arith, g.counted))
      ∙ ap (λ x. part_of m.pool (suc k) (get_or ((row_for x).uses r.fields) i unnamed) (field r i) (field r (suc i))) e

  -- where a link leads
  to_there : (i : ℕ) (ks : List ℕ) → i < field_count → get_or ((row_for s).uses r.fields) i unnamed ≡ link ks
      → reach (drop (suc k) (trees_of m)) (step_in (part_at (cell m.pool (suc k) r) i)) ≡ tree_at m (field r i)
  to_there i ks h u =
      let f = field_at g i h in
      let w : field_right m (suc k) (link ks) (field r i) (field r (suc i)) ≡ true = rw (uses_of, row_of, e, u) at f in
      ap (λ p. reach (drop (suc k) (trees_of m)) (step_in p)) (part_there i h ∙ ap (λ v. part_of m.pool (suc k) v (field r i) (field r (suc i))) u)
      ∙ link_there m k (field r i) ks (field r (suc i)) w

node_there : (m : Image) (k : ℕ) (r : Record) → RecordGood m (suc k) r → (s : Shape) → shape_of r.kind ≡ s
    → tree_by s (suc k) (cell m.pool (suc k) r) (drop (suc k) (trees_of m)) ≡ node_by s m (suc k) r
node_there m k r g table_header e = refl
node_there m k r g object e = rw (part_there m k r g object e 0 (lit< tt), part_there m k r g object e 2 (lit< tt), to_there m k r g object e 4 _ (lit< tt) refl)
node_there m k r g attribute e =
    rw (part_there m k r g attribute e 0 (lit< tt), to_there m k r g attribute e 2 _ (lit< tt) refl, to_there m k r g attribute e 3 _ (lit< tt) refl)
node_there m k r g text e = rw (part_there m k r g text e 0 (lit< tt), to_there m k r g text e 4 _ (lit< tt) refl)
node_there m k r g (single sort) e = refl
node_there m k r g (range sort) e =
    rw (part_there m k r g (range sort) e 0 (lit< tt), part_there m k r g (range sort) e 1 (lit< tt), to_there m k r g (range sort) e 4 _ (lit< tt) refl)

-- the tree at a record of a checked table is the record's, with the trees at its links
pub tree_node : (m : Image) → Checked m → (n : ℕ) → 1 ≤ n → n < count m → tree_at m n ≡ node_of m n (record_at m n)
unfolding tree_at trees_of cells_of
tree_node m h zero a b = absurd (omega arith)
tree_node m h (suc k) a b =
    let r = record_at m (suc k) in
    let z : Cell = cell m.pool 0 r in
    let one : 1 + k ≡ suc k = omega arith in
    trees_there 1 k (cells_of m) z (rw length-cells (omega arith))
    ∙ ap (λ x. tree_of (1 + k) x (drop (suc k) (trees_of m))) (cells_there m.pool 1 k m.records _ z (omega arith))
    ∙ ap (λ j. tree_of j (cell m.pool j r) (drop (suc k) (trees_of m))) one
    ∙ node_there m k r (record_good m (suc k) h a b) (shape_of r.kind) refl
