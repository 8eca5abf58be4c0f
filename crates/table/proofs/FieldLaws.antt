-- What the rules of a record's fields say of its links, and that no step of a checked table leads out of it. Assumes nothing.
use mathlib.Core.Path.{◌≡◌}
use mathlib.Core.Bool.{true, or-true}
use mathlib.Core.List.{List, [], ◌∷◌}
use Prim.Native.Nat.{ℕ, zero, suc, ◌+◌, ◌≤◌}
use native.Mathlib.Omega.{arith}
use lib.Dec.{eqb}
use lib.ListN.{get_or}
use lib.ListN
use borrow.Author.Tests.{lt-ltb}
use Rattle.lexis.proofs.Cases.{and_left, and_right}
use Rattle.table.specs.Records.{Record, Image, count}
use Rattle.table.specs.Rows.{Use, unnamed, place, length, link, low, high}
use Rattle.table.specs.Check.{field_right, fields_right, uses_of}
use Rattle.table.specs.Trees.{number, part_of, parts_of, cells, cells_of, step_in}
use Rattle.table.proofs.UseLaws.{LinkRight, by_link}
use Rattle.table.proofs.CheckLaws.{good_fields}
use Rattle.table.proofs.Checked.{RecordsGood, Checked}
use Rattle.table.proofs.TreeLaws.{Closed, length-cells}

-- the rule of a link other than 0
pub linked : (m : Image) (n : ℕ) (ks : List ℕ) (x next : ℕ) → field_right m n (link ks) (suc x) next ≡ true
    → LinkRight m n ks (suc x)
linked m n ks x next h = by_link m n ks (suc x) next h (λ e. absurd (omega arith)) (λ l. l)

-- and says no more
pub link_right : (m : Image) (n : ℕ) (ks : List ℕ) (x next : ℕ) → LinkRight m n ks x
    → field_right m n (link ks) x next ≡ true
unfolding field_right
link_right m n ks x next h = rw (lt-ltb _ _ h.above, lt-ltb _ _ h.below, h.kind) (or-true (eqb x 0))

module _ (m : Image) where
  -- the step of a field leads to one of the records above its own
  step_within : (n most : ℕ) (u : Use) (x next : ℕ) → count m ≤ suc (n + most) → field_right m n u x next ≡ true
      → step_in (part_of m.pool n u x next) ≤ most
  step_within n most unnamed x next c h = omega arith
  step_within n most (place l g) x next c h = omega arith
  step_within n most length x next c h = omega arith
  step_within n most (link ks) zero next c h = omega arith
  step_within n most (link ks) (suc x) next c h = let k = linked m n ks x next h in omega arith
  step_within n most (low sort) x next c h = omega arith
  step_within n most high x next c h = omega arith

  -- so does each step of a record
  steps_within : (n most : ℕ) (us : List Use) (xs : List ℕ) → count m ≤ suc (n + most) → fields_right m n us xs ≡ true
      → (i : ℕ) → step_in (get_or (parts_of m.pool n us xs) i (number 0)) ≤ most
  steps_within n most [] xs c h i = omega arith
  steps_within n most (u ∷ us) [] c h i = omega arith
  steps_within n most (u ∷ us) (x ∷ xs) c h zero = step_within n most u x (get_or xs 0 0) c (and_left _ (fields_right m n us xs) h)
  steps_within n most (u ∷ us) (x ∷ xs) c h (suc i) = steps_within n most us xs c (and_right (field_right m n u x (get_or xs 0 0)) _ h) i

  -- the cells of a table's last records are closed
  closed-cells : (n : ℕ) (rs : List Record) → n + ListN.length rs ≡ count m → RecordsGood m n rs
      → Closed (cells m.pool n rs)
  closed-cells n [] e h = tt
  closed-cells n (r ∷ rs) e h = (
    λ i. rw (length-cells m.pool (suc n) rs) (steps_within n (ListN.length rs) (uses_of r) r.fields (omega arith) (good_fields h.0) i),
    closed-cells (suc n) rs (omega arith) h.1,
  )

-- the cells of a checked table are closed
pub closed : (m : Image) → Checked m → Closed (cells_of m)
unfolding cells_of
closed m h = closed-cells m 1 m.records (omega arith) h.records
