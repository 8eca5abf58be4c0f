-- The check: what a table that passes keeps, and that a table which keeps it passes, written in either order. Assumes nothing.
use mathlib.Core.Path.{◌≡◌, refl, ap, ap₂, ◌∙◌}
use mathlib.Core.Bool.{Bool, true, false, ◌&&◌, false≢true}
use Rattle.std.specs.Prelude.{Option, None, Some}
use mathlib.Core.List.{List, [], ◌∷◌, ◌++◌, append_assoc}
use Prim.Native.Nat.{ℕ, zero, suc, ◌+◌, ◌*◌, ◌-◌, ◌≤◌, ◌<◌}
use native.Mathlib.Nat.{add-zero, add-suc, suc-add, not-suc-le-zero, le_of_suc-le-suc}
use native.Mathlib.Omega.{arith}
use lib.Dec.{eqb, leb}
use lib.ListN.{length, get_or, take, drop, length-take, length-drop, get_or-eq_default}
use borrow.Author.Tests.{eqb-true, leb-true, eq-eqb, le-leb}
use Rattle.lexis.specs.Bytes.{within}
use Rattle.lexis.proofs.Cases.{by_cond}
use Rattle.values.proofs.Common.{by_order}
use Rattle.refusals.specs.Limits.{record_limit, pool_limit}
use Rattle.refusals.specs.Refusals.{refusal}
use Rattle.refusals.specs.declared.Cause.TheVariants.{NotATable, BrokenRecord}
use Rattle.table.specs.Records.{Record, Image, record_size, field_count, is_marked, decode, field, count, header, header_of, decodes, encodes, image_of, bytes_of}
use Rattle.table.specs.Rows.{shape_of, unnamed, row_of}
use Rattle.table.specs.Check.{kinds, kind_at, field_right, fields_right, uses_of, flag_right, obeys, clean, all_nought, record_right, broken, framed, broken_record, table_fault}
use Rattle.table.specs.Names.{record_at}
use Rattle.table.proofs.Checked.{RecordGood, RecordsGood, Checked}
use Rattle.table.proofs.RecordLaws.{Fits, AllFit, ImageFits, fit_counted, decode_counted, bytes-marked, marked-part, drop_front, length-decodes, length-bytes, header_of_bytes, bytes_behind, image_of_bytes}
use Rattle.table.proofs.UseLaws.{Passed, each_passed, uses_counted, use_at, row_tied, fields_small}

module _ {m : Image} {n : ℕ} {r : Record} (g : RecordGood m n r) where
  -- a good record passes the tests of its kind and its flag, of its fields and of all of them
  pub good_tests : Passed
      (flag_right r.kind r.flag ∷ fields_right m n (uses_of r) r.fields ∷ (row_of r.kind).across m n r.fields
      ∷ [])
  unfolding obeys
  good_tests = each_passed (flag_right r.kind r.flag) (fields_right m n (uses_of r) r.fields ∷ (row_of r.kind).across m n r.fields ∷ []) g.obeyed

  -- its fields keep their rules
  pub good_fields : fields_right m n (uses_of r) r.fields ≡ true
  good_fields = good_tests.1.0

  -- the field at a place keeps the rule of what it is
  pub field_at : (i : ℕ) → i < field_count
      → field_right m n (get_or (uses_of r) i unnamed) (field r i) (field r (suc i)) ≡ true
  field_at i h = use_at m n (uses_of r) r.fields i good_fields (rw (uses_counted (shape_of r.kind) r.fields) h) (rw g.counted h)

-- of good records each is good
pub good_at : {m : Image} (i k : ℕ) (rs : List Record) (d : Record) → RecordsGood m i rs → k < length rs
    → RecordGood m (i + k) (get_or rs k d)
good_at i k [] d g h = absurd (not-suc-le-zero h)
good_at i zero (r ∷ rs) d g h = rw add-zero g.0
good_at i (suc k) (r ∷ rs) d g h = rw (add-suc, ← suc-add) (good_at (suc i) k rs d g.1 (le_of_suc-le-suc h))

-- the kinds of records are those of each
kinds_at : (rs : List Record) (d : Record) (n : ℕ) → get_or (kinds rs) n d.kind ≡ (get_or rs n d).kind
kinds_at [] d n = refl
kinds_at (r ∷ rs) d zero = refl
kinds_at (r ∷ rs) d (suc n) = kinds_at rs d n

-- the kind at a number is that of the record there
pub kind_record : (m : Image) (n : ℕ) → kind_at m n ≡ (record_at m n).kind
kind_record m n = kinds_at (header_of m ∷ m.records) (header_of m) n

-- the record with a number of a checked table is good
pub record_good : (m : Image) (n : ℕ) → Checked m → 1 ≤ n → n < count m → RecordGood m n (record_at m n)
record_good m zero h l k = absurd (not-suc-le-zero l)
record_good m (suc n) h l k =
    let e : 1 + n ≡ suc n = omega arith in
    rw (← e) (good_at 1 n m.records (header_of m) h.records (le_of_suc-le-suc k))

-- a good record fits, where records and pool are within their limits
pub good-fits : {m : Image} {n : ℕ} {r : Record} → RecordGood m n r → count m ≤ record_limit
    → length m.pool ≤ pool_limit → Fits r
unfolding clean
good-fits {m} {n} {r} g few small = record {
  counted = g.counted;
  small = fields_small m few small n false (uses_of r) r.fields (row_tied (shape_of r.kind) r.fields) (λ e. absurd (false≢true e)) (rw (g.counted, uses_counted (shape_of r.kind) r.fields) (omega arith)) (good_fields g) g.cleaned;
}

-- so do good records
goods_fit : (m : Image) (i : ℕ) (rs : List Record) → RecordsGood m i rs → count m ≤ record_limit
    → length m.pool ≤ pool_limit → AllFit rs
goods_fit m i [] g few small = tt
goods_fit m i (r ∷ rs) g few small = (good-fits g.0 few small, goods_fit m (suc i) rs g.1 few small)

-- there are as many kinds as records
pub length-kinds : (rs : List Record) → length (kinds rs) ≡ length rs
length-kinds [] = refl
length-kinds (r ∷ rs) = ap suc (length-kinds rs)

-- a number with a kind other than 0 is below the count
pub kind_inside : (m : Image) (n : ℕ) → 1 ≤ kind_at m n → n < count m
kind_inside m n h =
    by_order (count m) n
    (λ l. let e : kind_at m n ≡ 0 = get_or-eq_default (0 ∷ kinds m.records) 0 {n = n} (rw length-kinds l) in absurd (omega arith))
    (λ l. l)

-- a checked table fits
pub image_fits : (m : Image) → Checked m → ImageFits m
image_fits m h =
    let l = kind_inside m m.root (rw h.root (omega arith)) in
    record {
      records = goods_fit m 1 m.records h.records h.few h.pool;
      count = omega arith;
      pool = omega arith;
      root = omega arith;
    }

-- so it is read back, written in either order
pub image_back : (little : Bool) (m : Image) → Checked m → image_of (bytes_of little m) ≡ m
image_back little m h = image_of_bytes little m (image_fits m h)

-- the frame: the length, the header and the root
pub record Framed (bs : List ℕ) : Type 0 where
  pub long : record_size ≤ length bs
  pub mark : is_marked bs ≡ true
  pub kind : (header bs).kind ≡ 0
  pub flag : (header bs).flag ≡ 0
  pub rest : all_nought (drop 3 (header bs).fields) ≡ true
  pub some : 2 ≤ field (header bs) 0
  pub few : field (header bs) 0 ≤ record_limit
  pub pool : field (header bs) 1 ≤ pool_limit
  pub whole : length bs ≡ record_size * field (header bs) 0 + field (header bs) 1
  pub root : kind_at (image_of bs) (field (header bs) 2) ≡ 1

-- what passes the test has the frame
pub framed_is : (bs : List ℕ) → framed bs ≡ true → Framed bs
unfolding framed
framed_is bs e =
    let h = header bs in
    let p = each_passed (leb record_size (length bs)) (
    is_marked bs
    ∷ (eqb h.kind 0 && eqb h.flag 0 && all_nought (drop 3 h.fields))
    ∷ within 2 record_limit (field h 0)
    ∷ leb (field h 1) pool_limit
    ∷ eqb (length bs) (record_size * field h 0 + field h 1)
    ∷ eqb (kind_at (image_of bs) (field h 2)) 1
    ∷ []) e in
    let q = each_passed (eqb h.kind 0) (eqb h.flag 0 ∷ all_nought (drop 3 h.fields) ∷ []) p.1.1.0 in
    let c = each_passed (leb 2 (field h 0)) (leb (field h 0) record_limit ∷ []) p.1.1.1.0 in
    record {
      long = leb-true record_size (length bs) p.0;
      mark = p.1.0;
      kind = eqb-true h.kind 0 q.0;
      flag = eqb-true h.flag 0 q.1.0;
      rest = q.1.1.0;
      some = leb-true 2 (field h 0) c.0;
      few = leb-true (field h 0) record_limit c.1.0;
      pool = leb-true (field h 1) pool_limit p.1.1.1.1.0;
      whole = eqb-true (length bs) (record_size * field h 0 + field h 1) p.1.1.1.1.1.0;
      root = eqb-true (kind_at (image_of bs) (field h 2)) 1 p.1.1.1.1.1.1.0;
    }

-- what has the frame passes the test
pub is_framed : (bs : List ℕ) → Framed bs → framed bs ≡ true
unfolding framed
is_framed bs f =
    let h = header bs in
    rw (
      le-leb record_size (length bs) f.long,
      f.mark,
      f.kind,
      f.flag,
      f.rest,
      le-leb 2 (field h 0) f.some,
      le-leb (field h 0) record_limit f.few,
      le-leb (field h 1) pool_limit f.pool,
      eq-eqb (length bs) (record_size * field h 0 + field h 1) f.whole,
      f.root,
    )

-- a fault is not none
no_fault_lem : {A P : Type 0} (a : A) → Some a ≡ None → P
no_fault_lem a e = let z : ◌≡◌ {A = ℕ} 0 1 = cc in absurd (omega arith)

-- where no record is told there is none
none_broken : (o : Option ℕ) → broken_record o ≡ None → o ≡ None
none_broken None e = refl
none_broken (Some n) e = no_fault_lem (refusal BrokenRecord n) e

-- records that are not broken are good
pub unbroken_good : (m : Image) (n k : ℕ) (bs : List ℕ) → broken m n (decodes k bs) bs ≡ None
    → RecordsGood m n (decodes k bs)
unfolding broken
unbroken_good m n zero bs e = tt
unbroken_good m n (suc k) bs e =
    let r = decode (take record_size bs) in
    by_cond (λ o. o ≡ None → RecordsGood m n (decodes (suc k) bs)) (record_right m n (take record_size bs) r)
    (λ t h.
    let p = each_passed (is_marked (take record_size bs)) (obeys m n r ∷ clean r ∷ []) t in
    (record { counted = decode_counted (take record_size bs); obeyed = p.1.0; cleaned = p.1.1.0 }, unbroken_good m (suc n) k (drop record_size bs) h))
    (λ t. no_fault_lem n) e

-- good records are not broken, written in either order
pub good_unbroken : (little : Bool) (m : Image) (n : ℕ) (rs : List Record) (more : List ℕ) → RecordsGood m n rs
    → broken m n rs (encodes little rs ++ more) ≡ None
unfolding broken
good_unbroken little m n [] more g = refl
good_unbroken little m n (r ∷ rs) more g =
    let rest = encodes little rs ++ more in
    rw (append_assoc, marked-part little r rest, g.0.obeyed, g.0.cleaned, drop_front little r rest g.0.counted) (good_unbroken little m (suc n) rs more g.1)

module _ (bs : List ℕ) (f : Framed bs) where
  -- what has the frame holds as many records as its header says
  pub count-framed : count (image_of bs) ≡ field (header bs) 0
  unfolding image_of
  count-framed = rw (length-decodes (field (header bs) 0 - 1) (drop record_size bs)) (omega arith)

  -- and as long a pool
  pub pool_framed : length (image_of bs).pool ≡ field (header bs) 1
  unfolding image_of
  pool_framed = rw (length-take, length-drop) (omega arith)

-- the frame is there, and no record is broken
pub record Sound (bs : List ℕ) : Type 0 where
  pub frame : Framed bs
  pub whole : broken (image_of bs) 1 (image_of bs).records (drop record_size bs) ≡ None

-- bytes that pass the check are so
pub fault_none : (bs : List ℕ) → table_fault bs ≡ None → Sound bs
unfolding table_fault
fault_none bs =
    let told = broken (image_of bs) 1 (image_of bs).records (drop record_size bs) in
    by_cond (λ o. o ≡ None → Sound bs) (framed bs)
    (λ t e. record { frame = framed_is bs t; whole = none_broken told e })
    (λ t. no_fault_lem (refusal NotATable 0))

-- bytes that pass the check hold a checked table
pub check_sound : (bs : List ℕ) → table_fault bs ≡ None → Checked (image_of bs)
unfolding image_of
check_sound bs e =
    let s = fault_none bs e in
    let c = count-framed bs s.frame in
    let p = pool_framed bs s.frame in
    record {
      some = omega arith;
      few = omega arith;
      pool = omega arith;
      root = s.frame.root;
      records = unbroken_good (image_of bs) 1 (field (header bs) 0 - 1) (drop record_size bs) s.whole;
    }

-- a checked table, written in either order, has the frame
pub bytes-framed : (little : Bool) (m : Image) → Checked m → Framed (bytes_of little m)
bytes-framed little m h =
    let f = image_fits m h in
    let e = header_of_bytes little m f in
    let l = length-bytes little m (fit_counted m.records f.records) in
    record {
      long = rw l (omega arith);
      mark = bytes-marked little m;
      kind = ap (λ r. r.kind) e;
      flag = ap (λ r. r.flag) e;
      rest = ap (λ r. all_nought (drop 3 r.fields)) e;
      some = rw e h.some;
      few = rw e h.few;
      pool = rw e h.pool;
      whole = rw e l;
      root = ap₂ (λ x r. kind_at x (field r 2)) (image_back little m h) e ∙ h.root;
    }

-- a checked table, written in either order, passes the check
pub check_complete : (little : Bool) (m : Image) → Checked m → table_fault (bytes_of little m) ≡ None
unfolding table_fault
check_complete little m h =
    rw (is_framed (bytes_of little m) (bytes-framed little m h), image_back little m h, bytes_behind little m, good_unbroken little m 1 m.records m.pool h.records)
