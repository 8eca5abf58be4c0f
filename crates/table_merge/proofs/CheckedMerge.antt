-- A merge of two tables that pass the check passes it, where the sizes allow. Assumes nothing.
use mathlib.Core.Path.{◌≡◌, refl, ap, ap₂, ◌∙◌}
use mathlib.Core.Bool.{Bool, true, false, cond, ◌&&◌}
use mathlib.Core.List.{List, [], ◌∷◌, ◌++◌, map}
use Prim.Native.Nat.{ℕ, zero, suc, ◌+◌, ◌≤◌, ◌<◌}
use native.Mathlib.Nat.{add-suc, suc-add, add-zero, add_comm}
use native.Mathlib.Omega.{arith}
use lib.Dec.{eqb, leb, eqb-suc-zero}
use lib.ListN.{get_or, get_or-append}
use lib.ListN
use lib.Seq.{get_or-append-add}
use borrow.Author.Tests.{leb-true, le-leb}
use Rattle.lexis.specs.Bytes.{within}
use Rattle.lexis.proofs.Cases.{and_left, and_right}
use Rattle.refusals.specs.Limits.{record_limit, pool_limit}
use Rattle.table.specs.Records.{Record, Image, count}
use Rattle.table.specs.Rows.{shape_of, Use, unnamed, place, length, link, low, high}
use Rattle.table.specs.Check.{kinds, kind_at, field_right, fields_right, is_nought, rest_nought, uses_of, flag_right, obeys, clean}
use Rattle.table.proofs.Checked.{RecordGood, RecordsGood, Checked}
use Rattle.table.proofs.UseLaws.{uses_same, across_none}
use Rattle.table.proofs.FieldLaws.{linked, link_right}
use Rattle.table.proofs.CheckLaws.{length-kinds, kind_inside}
use Rattle.table_merge.specs.Joining.{Shifts, moved_field, moved_fields, moved, shifts_by, merged}
use Rattle.table_merge.proofs.MergeLaws.{count-merged, pool_merged, reads, fixed, steady, steady_row, Same, next_same}

-- moving keeps the kinds
kinds_joined : (s : Shifts) (rs qs : List Record) → kinds (rs ++ map (moved s) qs) ≡ kinds rs ++ kinds qs
kinds_joined s [] [] = refl
kinds_joined s [] (q ∷ qs) = ap (λ ks. q.kind ∷ ks) (kinds_joined s [] qs)
kinds_joined s (r ∷ rs) qs = ap (λ ks. r.kind ∷ ks) (kinds_joined s rs qs)

-- the kinds of a merge are the first table's and then the second's
kinds-merged : (x y : Image) → kinds (merged x y).records ≡ kinds x.records ++ kinds y.records
unfolding merged
kinds-merged x y = kinds_joined (shifts_by x) x.records y.records

-- a record of the first table has the kind that it had
pub kind_kept : (x y : Image) (n : ℕ) → n < count x → kind_at (merged x y) n ≡ kind_at x n
kind_kept x y n l = ap (λ ks. get_or (0 ∷ ks) n 0) (kinds-merged x y) ∙ get_or-append (0 ∷ kinds x.records) _ 0 n (rw length-kinds l)

-- a record of the second table has, at its moved number, the kind that it had
pub kind_moved : (x y : Image) (n : ℕ) → 1 ≤ n → kind_at (merged x y) (ListN.length x.records + n) ≡ kind_at y n
kind_moved x y zero l = absurd (omega arith)
kind_moved x y (suc n) l =
    ap (λ ks. get_or (0 ∷ ks) (ListN.length x.records + suc n) 0) (kinds-merged x y)
    ∙ rw (add-suc, ← length-kinds x.records) (get_or-append-add (kinds x.records) (kinds y.records) n 0)

-- a test beside another may be put for one that it follows from
and_map : (a b c : Bool) → (b ≡ true → c ≡ true) → (a && b) ≡ true → (a && c) ≡ true
and_map true b c f h = f h
and_map false b c f h = h

-- so may both
and_both : (a b c d : Bool) → (a ≡ true → c ≡ true) → (b ≡ true → d ≡ true) → (a && b) ≡ true → (c && d) ≡ true
and_both a b c d f g h = rw (f (and_left a b h)) (g (and_right a b h))

-- the rules of a record are kept where those of its fields are
rules_kept : (flag fields across now after : Bool) → (fields ≡ true → now ≡ true) → after ≡ true
    → (flag && fields && across) ≡ true → (flag && now && after) ≡ true
rules_kept true fields across now after f g h = rw (f (and_left fields across h)) g
rules_kept false fields across now after f g h = h

-- a name within a pool is within a longer one
place_more : (empty : Bool) (x next n m : ℕ) → n ≤ m → cond empty (eqb x 0) (leb (x + next) n) ≡ true
    → cond empty (eqb x 0) (leb (x + next) m) ≡ true
place_more true x next n m l h = h
place_more false x next n m l h = le-leb (x + next) m (omega (arith, leb-true (x + next) n h))

-- a moved name is within the joined pool
place_moved : (empty : Bool) (p x next n m : ℕ) → p + n ≡ m → cond empty (eqb x 0) (leb (x + next) n) ≡ true
    → cond empty (eqb (cond empty x (p + x)) 0) (leb (cond empty x (p + x) + next) m) ≡ true
place_moved true p x next n m e h = h
place_moved false p x next n m e h = le-leb (p + x + next) m (omega (arith, leb-true (x + next) n h))

-- moving keeps the number of fields
pub length_moved : (s : Shifts) (us : List Use) (fs : List ℕ) → ListN.length (moved_fields s us fs) ≡ ListN.length fs
length_moved s [] fs = refl
length_moved s (u ∷ us) [] = refl
length_moved s (u ∷ us) (f ∷ fs) = ap suc (length_moved s us fs)

-- moving leaves a field that is not named
nought-moved : (s : Shifts) (u : Use) (f next : ℕ) → is_nought u (moved_field s u f next) ≡ is_nought u f
nought-moved s unnamed f next = refl
nought-moved s (place least most) f next = refl
nought-moved s length f next = refl
nought-moved s (link ks) f next = refl
nought-moved s (low sort) f next = refl
nought-moved s high f next = refl

-- so the others are 0 as before
rest_moved : (s : Shifts) (us : List Use) (fs : List ℕ) → rest_nought us (moved_fields s us fs) ≡ rest_nought us fs
rest_moved s [] fs = refl
rest_moved s (u ∷ us) [] = refl
rest_moved s (u ∷ us) (f ∷ fs) = ap₂ ◌&&◌ (nought-moved s u f (get_or fs 0 0)) (rest_moved s us fs)

module _ (x y : Image) where
  -- a field of the first table keeps its rule
  field_kept : (n : ℕ) (u : Use) (f next : ℕ) → field_right x n u f next ≡ true
      → field_right (merged x y) n u f next ≡ true
  unfolding field_right
  field_kept n unnamed f next h = h
  field_kept n (place least most) f next h =
      and_map (within least most next) _ _ (place_more (eqb next 0) f next _ _ (omega (arith, pool_merged x y))) h
  field_kept n length f next h = h
  field_kept n (link ks) zero next h = refl
  field_kept n (link ks) (suc f) next h =
      let k = linked x n ks f next h in
      link_right (merged x y) n ks (suc f) next
      (record { above = k.above; below = omega (arith, count-merged x y); kind = rw (kind_kept x y (suc f) k.below) k.kind })
  field_kept n (low sort) f next h = h
  field_kept n high f next h = h

  -- a field of the second table, moved, keeps its rule at the moved number
  field-moved : (n : ℕ) (u : Use) (f next was : ℕ) → Same u next was → field_right y n u f was ≡ true
      → field_right (merged x y) (ListN.length x.records + n) u (moved_field (shifts_by x) u f was) next ≡ true
  unfolding field_right
  field-moved n unnamed f next was s h = h
  field-moved n (place least most) f next was s h =
      rw (s refl) (and_map (within least most was) _ _ (place_moved (eqb was 0) (ListN.length x.pool) f was _ _ (omega (arith, pool_merged x y))) h)
  field-moved n length f next was s h = h
  field-moved n (link ks) zero next was s h = refl
  field-moved n (link ks) (suc f) next was s h =
      let k = linked y n ks f was h in
      rw eqb-suc-zero
      (link_right (merged x y) _ ks (ListN.length x.records + suc f) next
      (record { above = omega arith; below = omega (arith, count-merged x y); kind = rw (kind_moved x y (suc f) (omega arith)) k.kind }))
  field-moved n (low sort) f next was s h = rw (s refl) h
  field-moved n high f next was s h = h

  -- so do all fields of a record of the first table
  fields_kept_lem : (n : ℕ) (us : List Use) (fs : List ℕ) → fields_right x n us fs ≡ true
      → fields_right (merged x y) n us fs ≡ true
  fields_kept_lem n [] fs h = refl
  fields_kept_lem n (u ∷ us) [] h = refl
  fields_kept_lem n (u ∷ us) (f ∷ fs) h = and_both _ _ _ _ (field_kept n u f (get_or fs 0 0)) (fields_kept_lem n us fs) h

  -- and all of a moved record
  fields_moved : (n : ℕ) (us : List Use) (fs : List ℕ) → steady us ≡ true → fields_right y n us fs ≡ true
      → fields_right (merged x y) (ListN.length x.records + n) us (moved_fields (shifts_by x) us fs) ≡ true
  fields_moved n [] fs s h = refl
  fields_moved n (u ∷ us) [] s h = refl
  fields_moved n (u ∷ us) (f ∷ fs) s h =
      and_both _ _ _ _ (field-moved n u f _ (get_or fs 0 0) (next_same (shifts_by x) u us fs s))
      (fields_moved n us fs (and_right (cond (reads u) (fixed us) true) (steady us) s)) h

  -- what the fields of a record are stays so
  uses_still : (r : Record) → uses_of (moved (shifts_by x) r) ≡ uses_of r
  uses_still r = uses_same (shape_of r.kind) (moved (shifts_by x) r).fields r.fields

  -- a record of the first table stays good
  record_kept : (n : ℕ) (r : Record) → RecordGood x n r → RecordGood (merged x y) n r
  unfolding obeys
  record_kept n r h = record {
    counted = h.counted;
    obeyed = rules_kept (flag_right r.kind r.flag) _ _ _ _ (fields_kept_lem n (uses_of r) r.fields) (across_none (shape_of r.kind) (merged x y) n r.fields) h.obeyed;
    cleaned = h.cleaned;
  }

  -- a record of the second table, moved, is good at its moved number
  pub record_moved : (n : ℕ) (r : Record) → RecordGood y n r
      → RecordGood (merged x y) (ListN.length x.records + n) (moved (shifts_by x) r)
  unfolding obeys clean
  record_moved n r h = record {
    counted = length_moved (shifts_by x) (uses_of r) r.fields ∙ h.counted;
    obeyed = rw (uses_still r) (rules_kept (flag_right r.kind r.flag) _ _ _ _
        (fields_moved n (uses_of r) r.fields (steady_row (shape_of r.kind) r.fields))
        (across_none (shape_of r.kind) (merged x y) (ListN.length x.records + n) (moved (shifts_by x) r).fields) h.obeyed);
    cleaned = rw (uses_still r) (rest_moved (shifts_by x) (uses_of r) r.fields ∙ h.cleaned);
  }

  -- so are all records of the second table
  records_moved : (n : ℕ) (rs : List Record) → RecordsGood y n rs
      → RecordsGood (merged x y) (ListN.length x.records + n) (map (moved (shifts_by x)) rs)
  records_moved n [] h = tt
  records_moved n (r ∷ rs) h = (record_moved n r h.0, rw (← add-suc) (records_moved (suc n) rs h.1))

  -- records of the first table and good records behind them are good
  records_joined : (n : ℕ) (rs qs : List Record) → RecordsGood x n rs
      → RecordsGood (merged x y) (n + ListN.length rs) qs → RecordsGood (merged x y) n (rs ++ qs)
  records_joined n [] qs h k = rw add-zero at k
  records_joined n (r ∷ rs) qs h k = (record_kept n r h.0, records_joined (suc n) rs qs h.1 (rw suc-add (rw add-suc at k)))

  -- the records of a merge are good
  records_merged : Checked x → Checked y
      → RecordsGood (merged x y) 1 (x.records ++ map (moved (shifts_by x)) y.records)
  records_merged h k = records_joined 1 x.records _ h.records (rw (add_comm 1) (records_moved 1 y.records k.records))

-- a merge of checked tables that is not too large is checked
pub checked_merge : (x y : Image) → Checked x → Checked y → ListN.length x.records + count y ≤ record_limit
    → ListN.length x.pool + ListN.length y.pool ≤ pool_limit → Checked (merged x y)
checked_merge x y h k few small =
    let e = h.root in
    record {
      some = omega (arith, count-merged x y, k.some);
      few = rw count-merged few;
      pool = rw pool_merged small;
      root = unfold merged in kind_kept x y x.root (kind_inside x x.root (omega arith)) ∙ e;
      records = unfold merged in records_merged x y h k;
    }
