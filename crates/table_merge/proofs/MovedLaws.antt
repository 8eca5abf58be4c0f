-- Moving by nothing changes nothing; and the records of tables that pass the check and fit together still fit 32 bits when they are moved. Assumes nothing.
use mathlib.Core.Path.{◌≡◌, refl, ap₂, subst}
use Rattle.std.specs.Prelude.{None}
use mathlib.Core.List.{List, [], ◌∷◌, map}
use Prim.Native.Nat.{ℕ, zero, suc, ◌+◌, ◌-◌, ◌^◌, ◌≤◌, ◌<◌}
use native.Mathlib.Omega.{arith}
use lib.Dec.{eqb-suc-zero}
use lib.ListN
use lib.ListN.{get_or}
use Rattle.refusals.specs.Limits.{record_limit, pool_limit}
use Rattle.table.specs.Records.{Record, count, image_of, record_in}
use Rattle.table.specs.Rows.{shape_of, Use, unnamed, place, length, link, low, high}
use Rattle.table.specs.Check.{uses_of, table_fault}
use Rattle.table.specs.Clauses.Answers.{Opened}
use Rattle.table.specs.declared.records.Frame.{Frame}
use Rattle.table.proofs.Checked.{RecordGood}
use Rattle.table.proofs.RecordLaws.{Small, Fits}
use Rattle.table.proofs.CheckLaws.{record_good, good-fits, check_sound}
use Rattle.table.proofs.FrameLaws.{count_opened, pool_opened, record_opened}
use Rattle.table_merge.specs.Joining.{Shifts, moved_field, moved_fields, moved, shifts_by, merged}
use Rattle.table_merge.specs.Clauses.Answers.{shifts, Movable}
use Rattle.table_merge.proofs.MergeLaws.{count-merged, pool_merged}
use Rattle.table_merge.proofs.CheckedMerge.{record_moved}

-- by nothing a field stays, and so do the fields of a record, a record, and records
still_field : (u : Use) (x next : ℕ) → moved_field (shifts 0 0) u x next ≡ x
still_field unnamed x next = refl
still_field (place least most) x zero = refl
still_field (place least most) x (suc next) = rw eqb-suc-zero (omega arith)
still_field length x next = refl
still_field (link ks) zero next = refl
still_field (link ks) (suc x) next = rw eqb-suc-zero (omega arith)
still_field (low sort) x next = refl
still_field high x next = refl

still_fields : (us : List Use) (xs : List ℕ) → moved_fields (shifts 0 0) us xs ≡ xs
still_fields [] xs = refl
still_fields (u ∷ us) [] = refl
still_fields (u ∷ us) (x ∷ xs) = ap₂ ◌∷◌ (still_field u x (get_or xs 0 0)) (still_fields us xs)

pub moved_by_nothing : (r : Record) → moved (shifts 0 0) r ≡ r
moved_by_nothing r = λ i. record { kind = r.kind; flag = r.flag; fields = still_fields (uses_of r) r.fields i }

pub all_by_nothing : (rs : List Record) → map (moved (shifts 0 0)) rs ≡ rs
all_by_nothing [] = refl
all_by_nothing (r ∷ rs) = ap₂ ◌∷◌ (moved_by_nothing r) (all_by_nothing rs)

-- a field of a record that fits, by its place
small_at : (xs : List ℕ) → Small xs → (i : ℕ) → get_or xs i 0 < 2 ^ 32
small_at [] h i = omega arith
small_at (x ∷ xs) h zero = h.0
small_at (x ∷ xs) h (suc i) = small_at xs h.1 i

fits_movable : (s : Shifts) (r : Record) → Fits (moved s r) → Movable s (shape_of r.kind) r
fits_movable s r f = record { fits = small_at (moved s r).fields f.small }

-- the shifts of a merge are the first table's counts
pub shifts_opened : (bs : List ℕ) (f : Frame) → Opened bs f → shifts_by (image_of bs) ≡ shifts (f.count - 1) f.pool
shifts_opened bs f o =
    let c : ListN.length (image_of bs).records ≡ f.count - 1 = omega (arith, count_opened bs f o) in
    λ i. record { records = c i; pool = pool_opened bs f o i }

-- a record of a table that passes the check is good
module _ (bs : List ℕ) (f : Frame) (o : Opened bs f) (passes : table_fault bs ≡ None) (n : ℕ) (low : 1 ≤ n)
    (below : n < f.count) where
  good_in : RecordGood (image_of bs) n (record_in bs n)
  good_in =
      subst (RecordGood (image_of bs) n) (record_opened bs f o n low below)
      (record_good (image_of bs) n (check_sound bs passes) low (omega (arith, count_opened bs f o)))

  pub still_movable : Movable (shifts 0 0) (shape_of (record_in bs n).kind) (record_in bs n)
  still_movable =
      let h = check_sound bs passes in
      fits_movable (shifts 0 0) (record_in bs n) (rw (moved_by_nothing (record_in bs n)) (good-fits good_in h.few h.pool))

  pub behind_movable : (first : List ℕ) (g : Frame) → Opened first g → g.count - 1 + f.count ≤ record_limit
      → g.pool + f.pool ≤ pool_limit
      → Movable (shifts (g.count - 1) g.pool) (shape_of (record_in bs n).kind) (record_in bs n)
  behind_movable first g p few small =
      let x = image_of first in
      let y = image_of bs in
      let cx = count_opened first g p in
      let cy = count_opened bs f o in
      let px = pool_opened first g p in
      let py = pool_opened bs f o in
      let many : count (merged x y) ≤ record_limit = omega (arith, count-merged x y) in
      let long : ListN.length (merged x y).pool ≤ pool_limit = omega (arith, pool_merged x y) in
      fits_movable (shifts (g.count - 1) g.pool) (record_in bs n) (rw (← shifts_opened first g p) (good-fits (record_moved x y n (record_in bs n) good_in) many long))
