-- A table's bytes and the table that they hold: where each record stands, and how many there are. Assumes nothing.
use mathlib.Core.Path.{◌≡◌, refl, sym, ap, ◌∙◌}
use mathlib.Core.List.{List, ◌∷◌}
use Prim.Native.Nat.{ℕ, zero, suc, ◌+◌, ◌*◌, ◌-◌, ◌≤◌, ◌<◌}
use native.Mathlib.Nat.{not-suc-le-zero, le_of_suc-le-suc}
use native.Mathlib.Omega.{arith}
use lib.ListN.{length, get_or, take, drop, length-take, length-drop, get_or-eq_default}
use lib.Seq.{drop-drop, get_or-take, get_or-drop}
use Rattle.table.specs.Records.{Record, record_size, decode, field, count, header, header_of, decodes, image_of}
use Rattle.table.specs.Check.{kinds, kind_at}
use Rattle.table.specs.Names.{record_at}
use Rattle.table.specs.Clauses.Answers.{record_of, Opened}
use Rattle.table.specs.declared.records.Entry.{Entry}
use Rattle.table.specs.declared.records.Frame.{Frame}
use Rattle.table.proofs.RecordLaws.{length-decodes}
use Rattle.table.proofs.CheckLaws.{Framed, kind_record}
use Rattle.table.proofs.CheckLaws.{length-kinds}

-- the record so many records on decodes the bytes there
pub decodes_at : (k j : ℕ) (bs : List ℕ) (d : Record) → j < k
    → get_or (decodes k bs) j d ≡ decode (take record_size (drop (record_size * j) bs))
decodes_at zero j bs d h = absurd (not-suc-le-zero h)
decodes_at (suc k) zero bs d h = refl
decodes_at (suc k) (suc j) bs d h =
    let e : record_size + record_size * j ≡ record_size * suc j = omega arith in
    decodes_at k j (drop record_size bs) d (le_of_suc-le-suc h) ∙ rw (drop-drop (record_size * j) record_size bs, e)

-- a record's kind is its third byte
pub decode_kind : (bs : List ℕ) (at : ℕ) → (decode (take record_size (drop at bs))).kind ≡ get_or bs (at + 2) 0
unfolding decode
decode_kind bs at = get_or-take record_size (drop at bs) 2 0 (omega arith) ∙ get_or-drop at bs 2 0

module _ (bs : List ℕ) (f : Frame) (o : Opened bs f) where
  -- as many records as the frame says, and as long a pool
  pub count_opened : count (image_of bs) ≡ f.count
  unfolding image_of
  count_opened = rw (length-decodes (field (header bs) 0 - 1) (drop record_size bs), ← o.records) (omega arith)

  pub pool_opened : length (image_of bs).pool ≡ f.pool
  unfolding image_of
  pool_opened = rw (length-take, length-drop, ← o.records, ← o.bytes) (omega arith)

  -- the record with a number decodes the 24 bytes at 24 times the number
  pub record_opened : (n : ℕ) → 1 ≤ n → n < f.count
      → record_at (image_of bs) n ≡ decode (take record_size (drop (record_size * n) bs))
  unfolding image_of
  record_opened zero h l = absurd (not-suc-le-zero h)
  record_opened (suc n) h l =
      let k : n < field (header bs) 0 - 1 = omega arith in
      let e : record_size + record_size * n ≡ record_size * suc n = omega arith in
      decodes_at (field (header bs) 0 - 1) n (drop record_size bs) (header_of (image_of bs)) k ∙ rw (drop-drop (record_size * n) record_size bs, e)

  -- so its kind is the byte there
  pub kind_opened : (n : ℕ) → 1 ≤ n → n < f.count → kind_at (image_of bs) n ≡ get_or bs (record_size * n + 2) 0
  kind_opened n h l = kind_record (image_of bs) n ∙ ap (λ r. r.kind) (record_opened n h l) ∙ decode_kind bs (record_size * n)

  -- a number that no record has is of kind 0
  pub kind_past : (n : ℕ) → f.count ≤ n → kind_at (image_of bs) n ≡ 0
  kind_past n h =
      let c = count_opened in
      let l : length (0 ∷ kinds (image_of bs).records) ≡ count (image_of bs) = ap suc (length-kinds (image_of bs).records) in
      get_or-eq_default (0 ∷ kinds (image_of bs).records) 0 {n = n} (omega arith)

-- bytes that have the frame are opened by the counts in their header
pub framed_opened : (bs : List ℕ) (f : Frame) → Framed bs → f.count ≡ field (header bs) 0
    → f.pool ≡ field (header bs) 1 → Opened bs f
framed_opened bs f h c p = record { records = c; bytes = p; some = rw c h.some; few = rw c h.few; small = rw p h.pool; whole = rw (c, p) h.whole }

-- the counts, as they are read
pub counts_read : (bs : List ℕ) (e : Entry) → record_of e ≡ decode (take record_size bs)
    → (e.a ≡ field (header bs) 0) × (e.b ≡ field (header bs) 1)
counts_read bs e q = (ap (λ r. field r 0) q, ap (λ r. field r 1) q)

-- the kind at a number, as it is read
module _ (bs : List ℕ) (f : Frame) (n : ℕ) (o : Opened bs f) where
  pub kind_none : f.count ≤ n → 0 ≡ kind_at (image_of bs) n
  kind_none h = sym (kind_past bs f o n h)

  pub kind_byte : (at : ℕ) → (n ≡ 0 → ⊥) → n < f.count → at ≡ record_size * n
      → get_or bs (at + 2) 0 ≡ kind_at (image_of bs) n
  kind_byte at h l e = rw e (sym (kind_opened bs f o n (omega arith) l))

pub ruleset frame_steps = (counts_read, kind_none, kind_byte)
