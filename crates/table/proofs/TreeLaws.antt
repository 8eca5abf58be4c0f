-- The trees of a table: their numbers move together, and cells whose steps end among them keep their trees where more follow. Assumes nothing.
use mathlib.Core.Path.{◌≡◌, refl, sym, ap, ◌∙◌}
use mathlib.Core.List.{List, [], ◌∷◌, ◌++◌, map}
use Prim.Native.Nat.{ℕ, suc, ◌+◌, ◌≤◌}
use native.Mathlib.Nat.{add-suc, add-zero}
use native.Mathlib.Omega.{arith}
use lib.ListN.{length, get_or-map, get_or-append}
use lib.Seq.{get_or-append-add}
use Rattle.meaning.specs.Constraints.{Leaf, single, ranges, texts}
use Rattle.meaning.specs.Moving.{moved_range, moved_text, moved_leaf, moved_object, moved_attributes, moved_value}
use Rattle.table.specs.Records.{Record, Image}
use Rattle.table.specs.Rows.{Shape, table_header, object, attribute, text, range, shape_of}
use Rattle.table.specs.Rows
use Rattle.table.specs.Trees.{Cell, cell, cells, cells_of, part_at, step_in, Tree, nothing, of_object, of_attributes, of_leaf, attributes_in, value_in, ranges_of, texts_of, items_in, reach, tree_by, tree_of, trees, trees_of}

-- a tree with the numbers of its records moved
abbrev pub moved_tree : ℕ → Tree → Tree
moved_tree s nothing = nothing
moved_tree s (of_object o) = of_object (moved_object o s)
moved_tree s (of_attributes xs) = of_attributes (moved_attributes xs s)
moved_tree s (of_leaf l) = of_leaf (moved_leaf s l)

-- the attributes of a moved tree are moved
attributes-moved : (s : ℕ) (t : Tree) → attributes_in (moved_tree s t) ≡ moved_attributes (attributes_in t) s
unfolding moved_attributes
attributes-moved s nothing = refl
attributes-moved s (of_object o) = refl
attributes-moved s (of_attributes xs) = refl
attributes-moved s (of_leaf l) = refl

-- the value of a moved tree is moved
value-moved : (s : ℕ) (t : Tree) → value_in (moved_tree s t) ≡ moved_value (value_in t) s
unfolding moved_value
value-moved s nothing = refl
value-moved s (of_object o) = refl
value-moved s (of_attributes xs) = refl
value-moved s (of_leaf l) = refl

-- the items of a moved tree are moved, where those of a moved leaf are
items-moved : {A : Type 0} (s : ℕ) (items : Leaf → List A) (move : A → A)
    → ((l : Leaf) → items (moved_leaf s l) ≡ map move (items l))
    → (t : Tree) → items_in items (moved_tree s t) ≡ map move (items_in items t)
items-moved s items move h nothing = refl
items-moved s items move h (of_object o) = refl
items-moved s items move h (of_attributes xs) = refl
items-moved s items move h (of_leaf l) = h l

-- those of a moved leaf are
ranges-moved : (s : ℕ) (l : Leaf) → ranges_of (moved_leaf s l) ≡ map (moved_range s) (ranges_of l)
ranges-moved s (single sort n flag) = refl
ranges-moved s (ranges sort l) = refl
ranges-moved s (texts l) = refl

texts_moved : (s : ℕ) (l : Leaf) → texts_of (moved_leaf s l) ≡ map (moved_text s) (texts_of l)
texts_moved s (single sort n flag) = refl
texts_moved s (ranges sort l) = refl
texts_moved s (texts l) = refl

-- a step among moved trees leads to the moved tree
pub reach-moved : (s k : ℕ) (ts : List Tree) → reach (map (moved_tree s) ts) k ≡ moved_tree s (reach ts k)
reach-moved s k ts = get_or-map (moved_tree s) (nothing ∷ ts) k nothing

-- above moved trees a moved tree grows
tree_over : (s i : ℕ) (shape : Shape) (x : Cell) (ts : List Tree)
    → tree_by shape (s + i) x (map (moved_tree s) ts) ≡ moved_tree s (tree_by shape i x ts)
unfolding moved_object moved_attributes
tree_over s i table_header x ts = refl
tree_over s i object x ts = simp (reach-moved, attributes-moved)
tree_over s i attribute x ts = simp (reach-moved, attributes-moved, value-moved)
tree_over s i text x ts = let h = items-moved s texts_of (moved_text s) (texts_moved s) in simp (reach-moved, h)
tree_over s i (Rows.single sort) x ts = refl
tree_over s i (range sort) x ts = let h = items-moved s ranges_of (moved_range s) (ranges-moved s) in simp (reach-moved, h)

-- cells numbered from further on have the same trees, moved
pub trees-moved : (s i : ℕ) (xs : List Cell) → trees (s + i) xs ≡ map (moved_tree s) (trees i xs)
trees-moved s i [] = refl
trees-moved s i (x ∷ xs) =
    ap (λ ts. tree_of (s + i) x ts ∷ ts) (ap (λ j. trees j xs) (sym (add-suc s i)) ∙ trees-moved s (suc i) xs)
    ∙ ap (λ t. t ∷ map (moved_tree s) (trees (suc i) xs)) (tree_over s i (shape_of x.kind) x (trees (suc i) xs))

-- there are as many trees as cells
pub length-trees : (i : ℕ) (xs : List Cell) → length (trees i xs) ≡ length xs
length-trees i [] = refl
length-trees i (x ∷ xs) = ap suc (length-trees (suc i) xs)

-- there are as many cells as records
pub length-cells : (pool : List ℕ) (i : ℕ) (rs : List Record) → length (cells pool i rs) ≡ length rs
length-cells pool i [] = refl
length-cells pool i (r ∷ rs) = ap suc (length-cells pool (suc i) rs)

-- a table has as many trees as records
pub length-trees_of : (m : Image) → length (trees_of m) ≡ length m.records
unfolding trees_of cells_of
length-trees_of m = length-trees 1 (cells_of m) ∙ length-cells m.pool 1 m.records

-- the cells of records and more records are the cells of both, numbered on
pub cells-append : (pool : List ℕ) (i : ℕ) (rs qs : List Record)
    → cells pool i (rs ++ qs) ≡ cells pool i rs ++ cells pool (i + length rs) qs
cells-append pool i [] qs = ap (λ j. cells pool j qs) (sym (add-zero i))
cells-append pool i (r ∷ rs) qs =
    ap (cell pool i r ∷◌) (cells-append pool (suc i) rs qs ∙ ap (λ j. cells pool (suc i) rs ++ cells pool j qs) (omega arith))

-- each step of a cell ends at one of so many cells above it
abbrev pub Within : ℕ → Cell → Type 0
Within most x = (i : ℕ) → step_in (part_at x i) ≤ most

-- the steps of all cells end among them
abbrev pub Closed : List Cell → Type 0
Closed [] = Unit {0}
Closed (x ∷ xs) = Within (length xs) x × Closed xs

-- a step that ends among the first trees does so whatever follows
pub reach-append : (k : ℕ) (ts us : List Tree) → k ≤ length ts → reach (ts ++ us) k ≡ reach ts k
reach-append k ts us h = get_or-append (nothing ∷ ts) us nothing k (omega arith)

-- a step over all of the first trees leads among the second
pub reach_past : (k : ℕ) (ts us : List Tree) → reach (ts ++ us) (length ts + suc k) ≡ reach us (suc k)
reach_past k ts us = rw (add-suc, get_or-append-add)

-- a tree whose steps lead to the same trees, whatever follows them, is the same
tree_above : (i : ℕ) (shape : Shape) (x : Cell) (ts us : List Tree)
    → ((p : ℕ) → reach (ts ++ us) (step_in (part_at x p)) ≡ reach ts (step_in (part_at x p)))
    → tree_by shape i x (ts ++ us) ≡ tree_by shape i x ts
tree_above i table_header x ts us to = refl
tree_above i object x ts us to = simp to
tree_above i attribute x ts us to = simp to
tree_above i text x ts us to = simp to
tree_above i (Rows.single sort) x ts us to = refl
tree_above i (range sort) x ts us to = simp to

-- a closed list of cells keeps its trees where more cells follow
pub trees-append : (i : ℕ) (xs ys : List Cell) → Closed xs → trees i (xs ++ ys) ≡ trees i xs ++ trees (i + length xs) ys
trees-append i [] ys h = ap (λ j. trees j ys) (sym (add-zero i))
trees-append i (x ∷ xs) ys h =
    let above = trees (suc i) xs in
    let to : (us : List Tree) (p : ℕ) → reach (above ++ us) (step_in (part_at x p)) ≡ reach above (step_in (part_at x p)) =
    λ us p. reach-append (step_in (part_at x p)) above us (rw length-trees (h.0 p)) in
    let e : suc i + length xs ≡ i + suc (length xs) = omega arith in
    ap (λ ts. tree_of i x ts ∷ ts) (trees-append (suc i) xs ys h.1 ∙ ap (λ j. above ++ trees j ys) e) ∙ ap (◌∷ (above ++ trees (i + suc (length xs)) ys)) (tree_above i (shape_of x.kind) x above (trees (i + suc (length xs)) ys) (to (trees (i + suc (length xs)) ys)))
