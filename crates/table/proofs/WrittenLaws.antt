-- A table that is written holds its records and its pool, and what it writes of its records are bytes. Assumes nothing.
use mathlib.Core.Path.{◌≡◌, refl, sym, ap, subst, ◌∙◌}
use mathlib.Core.Bool.{Bool, true, false}
use mathlib.Core.List.{List, [], ◌∷◌, ◌++◌, append_assoc}
use Prim.Native.Nat.{ℕ, zero, suc, ◌+◌, ◌*◌, ◌<◌}
use native.Mathlib.Omega.{arith}
use lib.Dec.{leb}
use lib.ListN.{length, get_or, take, drop, get_or-append}
use lib.Seq.{drop-drop, get_or-drop}
use Rattle.lexis.proofs.Cases.{and_left, and_right}
use Rattle.values.proofs.Common.{le_right}
use Rattle.meaning.specs.Constraints.{booleans, date_pattern, time_pattern, duration_pattern, integers, dates}
use Rattle.table.specs.Order.{put}
use Rattle.table.specs.Records.{Record, Image, record_size, number_size, is_little, is_marked, decode, put_all, encode, count, header_of, encodes, record_in, bytes_of}
use Rattle.table.specs.Rows.{Shape, table_header, object, attribute, text, single, range, shape_of, kind_of, is_known, row_for}
use Rattle.table.specs.TableRules.{Holds}
use Rattle.table.proofs.Checked.{RecordGood, RecordsGood, Checked}
use Rattle.table.proofs.OrderLaws.{Bytes}
use Rattle.table.proofs.RecordLaws.{Fits, AllFit, ImageFits, fit_counted, header-fits, marked-part, decode_front, drop_front, length-encodes, length-bytes, pool_behind}
use Rattle.table.proofs.UseLaws.{kind_shape}
use Rattle.table.proofs.CheckLaws.{good_tests, image_fits}
use Rattle.table.proofs.HoldsLaws.{holds_there}

-- a table's bytes are its records', the header's first, and its pool
bytes_are : (little : Bool) (m : Image) → bytes_of little m ≡ encodes little (header_of m ∷ m.records) ++ m.pool
unfolding bytes_of
bytes_are little m = sym (append_assoc (encode little (header_of m)) (encodes little m.records) m.pool)

-- behind so many records stands the next
encodes_at : (little : Bool) (rs : List Record) (d : Record) (more : List ℕ) → AllFit rs → (n : ℕ) → n < length rs
    → (rest : List ℕ) × (drop (record_size * n) (encodes little rs ++ more) ≡ encode little (get_or rs n d) ++ rest)
encodes_at little [] d more f n l = absurd (omega arith)
encodes_at little (r ∷ rs) d more f zero l = (encodes little rs ++ more, append_assoc (encode little r) (encodes little rs) more)
encodes_at little (r ∷ rs) d more f (suc n) l =
    let e : record_size * suc n ≡ record_size + record_size * n = omega arith in
    rw (e, ← drop-drop (record_size * n) record_size (encodes little (r ∷ rs) ++ more), append_assoc, drop_front little r (encodes little rs ++ more) f.0.counted)
    (encodes_at little rs d more f.1 n (omega arith))

-- of records that fit each does
fit_at : (rs : List Record) (d : Record) → AllFit rs → (n : ℕ) → n < length rs → Fits (get_or rs n d)
fit_at [] d f n l = absurd (omega arith)
fit_at (r ∷ rs) d f zero l = f.0
fit_at (r ∷ rs) d f (suc n) l = fit_at rs d f.1 n (omega arith)

-- a record that is written is of the order asked
order_part : (little : Bool) (r : Record) (more : List ℕ)
    → is_little (take record_size (encode little r ++ more)) ≡ little
unfolding encode
order_part true r more = refl
order_part false r more = refl

-- a table that fits, written, holds each record
pub written_holds : (little : Bool) (m : Image) → ImageFits m → (d : Record) (n : ℕ) → n < count m
    → Holds (bytes_of little m) n little (get_or (header_of m ∷ m.records) n d)
written_holds little m f d n l =
    let rs = header_of m ∷ m.records in
    let bs = bytes_of little m in
    let r = get_or rs n d in
    let g : AllFit rs = (header-fits m f, f.records) in
    let a = encodes_at little rs d m.pool g n l in
    let p : drop (record_size * n) bs ≡ encode little r ++ a.0 = ap (drop (record_size * n)) (bytes_are little m) ∙ a.1 in
    let e = length-bytes little m (fit_counted m.records f.records) in
    let h = holds_there bs n (ap (λ x. is_marked (take record_size x)) p ∙ marked-part little r a.0) (omega arith) in
    let o : is_little (take record_size (drop (record_size * n) bs)) ≡ little = ap (λ x. is_little (take record_size x)) p ∙ order_part little r a.0 in
    let q : record_in bs n ≡ r = ap (λ x. decode (take record_size x)) p ∙ decode_front little r a.0 (fit_at rs d g n l) in
    subst (λ x. Holds bs n x r) o (subst (λ x. Holds bs n (is_little (take record_size (drop (record_size * n) bs))) x) q h)

-- behind the records stands the pool
pub pool_byte : (little : Bool) (m : Image) → ImageFits m → (k : ℕ)
    → get_or (bytes_of little m) (record_size * count m + k) 0 ≡ get_or m.pool k 0
pool_byte little m f k =
    sym (get_or-drop (record_size * count m) (bytes_of little m) k 0) ∙ ap (λ l. get_or l k 0) (pool_behind little m (fit_counted m.records f.records))

-- bytes one behind another
bytes-append : (xs ys : List ℕ) → Bytes xs → Bytes ys → Bytes (xs ++ ys)
bytes-append [] ys h k = k
bytes-append (x ∷ xs) ys h k = (h.0, bytes-append xs ys h.1 k)

-- each of them by its place
bytes_at : (xs : List ℕ) → Bytes xs → (k : ℕ) → get_or xs k 0 < 256
bytes_at [] h k = omega arith
bytes_at (x ∷ xs) h zero = h.0
bytes_at (x ∷ xs) h (suc k) = bytes_at xs h.1 k

-- a number, numbers and a record are written in bytes
put-bytes : (little : Bool) (n : ℕ) → Bytes (put little number_size n)
put-bytes true n = omega arith
put-bytes false n = omega arith

put_all-bytes : (little : Bool) (xs : List ℕ) → Bytes (put_all little xs)
put_all-bytes little [] = tt
put_all-bytes little (x ∷ xs) = bytes-append (put little number_size x) (put_all little xs) (put-bytes little x) (put_all-bytes little xs)

encode-bytes : (little : Bool) (r : Record) → r.kind < 256 → r.flag < 256 → Bytes (encode little r)
unfolding encode
encode-bytes true r h k = (omega arith, (omega arith, (h, (k, put_all-bytes true r.fields))))
encode-bytes false r h k = (omega arith, (omega arith, (h, (k, put_all-bytes false r.fields))))

-- a shape's kind, and the greatest of its flags, are bytes
shape_small : (s : Shape) → (kind_of s < 256) × ((row_for s).most < 256)
shape_small table_header = omega arith
shape_small object = omega arith
shape_small attribute = omega arith
shape_small text = omega arith
shape_small (single booleans) = omega arith
shape_small (single date_pattern) = omega arith
shape_small (single time_pattern) = omega arith
shape_small (single duration_pattern) = omega arith
shape_small (range integers) = omega arith
shape_small (range dates) = omega arith

-- so a good record is written in bytes, and so are all of a table that passes the check
good-bytes : {m : Image} {n : ℕ} {r : Record} (little : Bool) → RecordGood m n r → Bytes (encode little r)
good-bytes {r = r} little g =
    let s = shape_of r.kind in
    let f = (good_tests g).0 in
    let k = kind_shape r.kind (and_left (is_known s) _ f) in
    let l = le_right (leb (row_for s).least r.flag) r.flag (row_for s).most (and_right (is_known s) _ f) in
    let h = shape_small s in
    encode-bytes little r (omega arith) (omega arith)

goods_bytes : (little : Bool) (m : Image) (n : ℕ) (rs : List Record) → RecordsGood m n rs → Bytes (encodes little rs)
goods_bytes little m n [] g = tt
goods_bytes little m n (r ∷ rs) g = bytes-append (encode little r) (encodes little rs) (good-bytes little g.0) (goods_bytes little m (suc n) rs g.1)

pub record_bytes : (little : Bool) (m : Image) → Checked m → (k : ℕ) → k < record_size * count m
    → get_or (bytes_of little m) k 0 < 256
record_bytes little m h k l =
    let rs = header_of m ∷ m.records in
    let f = image_fits m h in
    let e = length-encodes little rs (refl, fit_counted m.records f.records) in
    let first = encode-bytes little (header_of m) (omega arith) (omega arith) in
    let b = bytes-append (encode little (header_of m)) (encodes little m.records) first (goods_bytes little m 1 m.records h.records) in
    rw (bytes_are little m, get_or-append (encodes little rs) m.pool 0 k (omega arith)) (bytes_at (encodes little rs) b k)
