-- A merge's cells are the first table's and then the second's; its trees the first's as they were and the second's with their numbers moved. Assumes nothing.
use mathlib.Core.Path.{◌≡◌, refl, ap, ap₂, ◌∙◌}
use mathlib.Core.Bool.{Bool, true, false, cond, ◌&&◌, false≢true}
use mathlib.Core.List.{List, [], ◌∷◌, ◌++◌, map}
use Prim.Native.Nat.{ℕ, zero, suc, ◌+◌, ◌-◌, ◌≤◌, ◌<◌}
use native.Mathlib.Nat.{add-suc, add_comm}
use native.Mathlib.Omega.{arith}
use lib.Dec.{eqb, leb, eqb-suc-zero}
use lib.ListN.{get_or, take, drop, length-drop, length-append, length-map}
use lib.ListN
use lib.Seq.{take-append-le, drop-append-le, drop-append-add}
use borrow.Author.Tests.{leb-true}
use Rattle.lexis.specs.Bytes.{within}
use Rattle.lexis.proofs.Cases.{and_left, and_right}
use Rattle.table.specs.Records.{Record, Image, count}
use Rattle.table.specs.Rows.{Shape, table_header, object, attribute, text, single, range, shape_of, Use, unnamed, place, length, link, low, high, row_for}
use Rattle.table.specs.Check.{field_right, fields_right, uses_of}
use Rattle.table.specs.Trees.{name, step, part_of, parts_of, cells, cells_of, reach, trees, trees_of, tree_at}
use Rattle.table.proofs.Checked.{RecordsGood, Checked}
use Rattle.table.proofs.TreeLaws.{moved_tree, trees-moved, trees-append, length-cells, length-trees_of, cells-append, reach-moved, reach-append, reach_past}
use Rattle.table.proofs.UseLaws.{uses_same}
use Rattle.table.proofs.FieldLaws.{closed}
use Rattle.table.proofs.CheckLaws.{good_fields}
use Rattle.table_merge.specs.Joining.{Shifts, moved_field, moved_fields, moved, shifts_by, merged}

-- the count of a merge is both counts less one
pub count-merged : (x y : Image) → count (merged x y) ≡ ListN.length x.records + count y
unfolding merged
count-merged x y = rw (length-append, length-map) (omega arith)

-- the pool of a merge is as long as both pools
pub pool_merged : (x y : Image) → ListN.length (merged x y).pool ≡ ListN.length x.pool + ListN.length y.pool
unfolding merged
pool_merged x y = length-append x.pool y.pool

-- uses whose meaning and rule read the next field too
abbrev pub reads : Use → Bool
reads unnamed = false
reads (place least most) = true
reads length = false
reads (link ks) = false
reads (low sort) = true
reads high = false

-- no merge moves the first of the fields
abbrev pub fixed : List Use → Bool
fixed [] = true
fixed (unnamed ∷ us) = true
fixed (place least most ∷ us) = false
fixed (length ∷ us) = true
fixed (link ks ∷ us) = false
fixed (low sort ∷ us) = true
fixed (high ∷ us) = true

-- no field that another reads is moved
abbrev pub steady : List Use → Bool
steady [] = true
steady (u ∷ us) = cond (reads u) (fixed us) true && steady us

-- no field that another reads is moved in any kind
pub steady_row : (s : Shape) (xs : List ℕ) → steady ((row_for s).uses xs) ≡ true
steady_row table_header xs = refl
steady_row object xs = refl
steady_row attribute xs = refl
steady_row text xs = refl
steady_row (single sort) xs = refl
steady_row (range sort) xs = refl

-- a field that no merge moves is what it was
next_fixed : (s : Shifts) (us : List Use) (xs : List ℕ) → fixed us ≡ true → get_or (moved_fields s us xs) 0 0 ≡ get_or xs 0 0
next_fixed s [] xs h = refl
next_fixed s (u ∷ us) [] h = refl
next_fixed s (unnamed ∷ us) (x ∷ xs) h = refl
next_fixed s (place least most ∷ us) (x ∷ xs) h = absurd (false≢true h)
next_fixed s (length ∷ us) (x ∷ xs) h = refl
next_fixed s (link ks ∷ us) (x ∷ xs) h = absurd (false≢true h)
next_fixed s (low sort ∷ us) (x ∷ xs) h = refl
next_fixed s (high ∷ us) (x ∷ xs) h = refl

-- two values of the next field are the same to a field: where it reads them, they are equal
abbrev pub Same : Use → ℕ → ℕ → Type 0
Same u a b = reads u ≡ true → a ≡ b

-- moving leaves the next field the same to every field
pub next_same : (s : Shifts) (u : Use) (us : List Use) (xs : List ℕ) → steady (u ∷ us) ≡ true
    → Same u (get_or (moved_fields s us xs) 0 0) (get_or xs 0 0)
next_same s u us xs h e = next_fixed s us xs (rw e at (and_left (cond (reads u) (fixed us) true) (steady us) h))

-- a name moved into the joined pool is the same name
name-moved : (P Q : List ℕ) (x next : ℕ)
    → take next (drop (cond (eqb next 0) x (ListN.length P + x)) (P ++ Q)) ≡ take next (drop x Q)
name-moved P Q x zero = refl
name-moved P Q x (suc n) = rw (eqb-suc-zero, drop-append-add)

-- a name within the first pool is the same in the joined one
name_kept : (P Q : List ℕ) (x next : ℕ) → cond (eqb next 0) (eqb x 0) (leb (x + next) (ListN.length P)) ≡ true
    → take next (drop x (P ++ Q)) ≡ take next (drop x P)
name_kept P Q x zero h = refl
name_kept P Q x (suc n) h =
    let l = leb-true (x + suc n) (ListN.length P) (rw eqb-suc-zero at h) in
    ap (take (suc n)) (drop-append-le x P Q (omega arith)) ∙ take-append-le (suc n) (drop x P) Q (simp length-drop (omega arith))

-- a link moved with its record is the same step
step_moved : (s i x : ℕ) → cond (eqb x 0) 0 (s + x) - (s + i) ≡ x - i
step_moved s i zero = omega arith
step_moved s i (suc x) = rw eqb-suc-zero (omega arith)

module _ (x : Image) (Q : List ℕ) where
  -- a field of the second table, moved, means what it meant
  part_moved : (i : ℕ) (u : Use) (f next was : ℕ) → Same u next was
      → part_of (x.pool ++ Q) (ListN.length x.records + i) u (moved_field (shifts_by x) u f was) next
      ≡ part_of Q i u f was
  part_moved i unnamed f next was h = refl
  part_moved i (place least most) f next was h = rw (h refl) (ap name (name-moved x.pool Q f was))
  part_moved i length f next was h = refl
  part_moved i (link ks) f next was h = ap step (step_moved (ListN.length x.records) i f)
  part_moved i (low sort) f next was h = refl
  part_moved i high f next was h = refl

  -- so do the fields of a record
  parts_moved : (i : ℕ) (us : List Use) (fs : List ℕ) → steady us ≡ true
      → parts_of (x.pool ++ Q) (ListN.length x.records + i) us (moved_fields (shifts_by x) us fs) ≡ parts_of Q i us fs
  parts_moved i [] fs h = refl
  parts_moved i (u ∷ us) [] h = refl
  parts_moved i (u ∷ us) (f ∷ fs) h =
      ap₂ ◌∷◌ (part_moved i u f _ (get_or fs 0 0) (next_same (shifts_by x) u us fs h)) (parts_moved i us fs (and_right (cond (reads u) (fixed us) true) (steady us) h))

  -- the moved records have the cells that they had
  cells-moved : (i : ℕ) (rs : List Record)
      → cells (x.pool ++ Q) (ListN.length x.records + i) (map (moved (shifts_by x)) rs) ≡ cells Q i rs
  cells-moved i [] = refl
  cells-moved i (r ∷ rs) =
      let s = shape_of r.kind in
      let same = ap (λ us. parts_of (x.pool ++ Q) (ListN.length x.records + i) us (moved (shifts_by x) r).fields) (uses_same s (moved (shifts_by x) r).fields r.fields) in
      ap₂ ◌∷◌ (λ j. record { kind = r.kind; flag = r.flag; parts = (same ∙ parts_moved i (uses_of r) r.fields (steady_row s r.fields)) j })
      (rw (← add-suc) (cells-moved (suc i) rs))

  -- a field of the first table that obeys its rule means what it meant
  part_kept : (n : ℕ) (u : Use) (f next : ℕ) → field_right x n u f next ≡ true
      → part_of (x.pool ++ Q) n u f next ≡ part_of x.pool n u f next
  unfolding field_right
  part_kept n unnamed f next h = refl
  part_kept n (place least most) f next h = ap name (name_kept x.pool Q f next (and_right (within least most next) _ h))
  part_kept n length f next h = refl
  part_kept n (link ks) f next h = refl
  part_kept n (low sort) f next h = refl
  part_kept n high f next h = refl

  -- so do the fields of a record
  parts_kept : (n : ℕ) (us : List Use) (fs : List ℕ) → fields_right x n us fs ≡ true
      → parts_of (x.pool ++ Q) n us fs ≡ parts_of x.pool n us fs
  parts_kept n [] fs h = refl
  parts_kept n (u ∷ us) [] h = refl
  parts_kept n (u ∷ us) (f ∷ fs) h =
      ap₂ ◌∷◌ (part_kept n u f (get_or fs 0 0) (and_left _ (fields_right x n us fs) h)) (parts_kept n us fs (and_right (field_right x n u f (get_or fs 0 0)) _ h))

  -- the first table's records have the cells that they had
  cells_kept : (n : ℕ) (rs : List Record) → RecordsGood x n rs → cells (x.pool ++ Q) n rs ≡ cells x.pool n rs
  cells_kept n [] h = refl
  cells_kept n (r ∷ rs) h =
      ap₂ ◌∷◌ (λ j. record { kind = r.kind; flag = r.flag; parts = parts_kept n (uses_of r) r.fields (good_fields h.0) j })
      (cells_kept (suc n) rs h.1)

-- the cells of a merge are the first table's and then the second's
pub cells-merged : (x y : Image) → Checked x → cells_of (merged x y) ≡ cells_of x ++ cells_of y
unfolding cells_of merged
cells-merged x y h =
    cells-append _ 1 x.records _
    ∙ ap₂ ◌++◌ (cells_kept x y.pool 1 x.records h.records) (rw (add_comm 1) (cells-moved x y.pool 1 y.records))

-- the trees of a merge are the first table's and then the second's, moved
pub trees-merged : (x y : Image) → Checked x
    → trees_of (merged x y) ≡ trees_of x ++ map (moved_tree (ListN.length x.records)) (trees_of y)
unfolding trees_of cells_of
trees-merged x y h =
    ap (trees 1) (cells-merged x y h)
    ∙ trees-append 1 (cells_of x) (cells_of y) (closed x h)
    ∙ ap (trees_of x ++◌) (rw (length-cells, add_comm 1) (trees-moved (ListN.length x.records) 1 (cells_of y)))

-- a record of the first table stands for what it stood for
pub tree_kept : (x y : Image) → Checked x → (n : ℕ) → n < count x → tree_at (merged x y) n ≡ tree_at x n
unfolding tree_at
tree_kept x y h n l = ap (λ ts. reach ts n) (trees-merged x y h) ∙ reach-append n (trees_of x) _ (rw length-trees_of (omega arith))

-- a record of the second table stands, at its moved number, for the same with its numbers moved
pub tree_moved : (x y : Image) → Checked x → (n : ℕ) → 1 ≤ n
    → tree_at (merged x y) (ListN.length x.records + n) ≡ moved_tree (ListN.length x.records) (tree_at y n)
unfolding tree_at
tree_moved x y h zero l = absurd (omega arith)
tree_moved x y h (suc n) l =
    ap (λ ts. reach ts (ListN.length x.records + suc n)) (trees-merged x y h)
    ∙ rw (← length-trees_of x) (reach_past n (trees_of x) _)
    ∙ reach-moved _ (suc n) (trees_of y)
