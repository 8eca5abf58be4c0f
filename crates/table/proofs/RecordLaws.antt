-- Records and tables: what is written is read back, in either order. Assumes nothing.
use mathlib.Core.Path.{◌≡◌, refl, sym, ap, ap₂, ◌∙◌}
use mathlib.Core.Bool.{Bool, true, false}
use mathlib.Core.List.{List, [], ◌∷◌, ◌++◌, append_assoc}
use Prim.Native.Nat.{ℕ, zero, suc, ◌+◌, ◌*◌, ◌-◌, ◌^◌, ◌<◌}
use native.Mathlib.Omega.{arith}
use lib.ListN.{length, length-append, take, drop}
use lib.Seq.{take_at, drop_at, take-length}
use Rattle.table.specs.Order.{put}
use Rattle.table.specs.Records.{Record, Image, record_size, number_size, field_count, is_marked, numbers, decode, put_all, encode, count, header_of, decodes, encodes, header, image_of, bytes_of}
use Rattle.table.proofs.OrderLaws.{get-put, length-put}

-- every number fits 32 bits
abbrev pub Small : List ℕ → Type 0
Small [] = Unit {0}
Small (x ∷ xs) = (x < 2 ^ 32) × Small xs

-- a record has all its fields, and each fits 32 bits
pub record Fits (r : Record) : Type 0 where
  pub counted : length r.fields ≡ field_count
  pub small : Small r.fields

-- every record fits
abbrev pub AllFit : List Record → Type 0
AllFit [] = Unit {0}
AllFit (r ∷ rs) = Fits r × AllFit rs

-- numbers that fit are read back
pub numbers-put : (little : Bool) (xs : List ℕ) → Small xs → numbers little (length xs) (put_all little xs) ≡ xs
numbers-put little [] h = refl
numbers-put little (x ∷ xs) h =
    let e = length-put little number_size x in
    rw (take_at (put little number_size x) (put_all little xs) number_size e, drop_at (put little number_size x) (put_all little xs) number_size e)
    (ap₂ ◌∷◌ (get-put little number_size x h.0) (numbers-put little xs h.1))

-- a record that is read has all its fields
pub decode_counted : (bs : List ℕ) → length (decode bs).fields ≡ field_count
unfolding decode
decode_counted bs = refl

-- the fields of a record that fits are read back
fields_back : (little : Bool) (r : Record) → Fits r → numbers little field_count (put_all little r.fields) ≡ r.fields
fields_back little r f = ap (λ n. numbers little n (put_all little r.fields)) (sym f.counted) ∙ numbers-put little r.fields f.small

-- a record that fits is read back
pub decode-encode : (little : Bool) (r : Record) → Fits r → decode (encode little r) ≡ r
unfolding encode decode
decode-encode true r f = λ i. record { kind = r.kind; flag = r.flag; fields = fields_back true r f i }
decode-encode false r f = λ i. record { kind = r.kind; flag = r.flag; fields = fields_back false r f i }

-- a number takes 4 bytes
pub length-put_all : (little : Bool) (xs : List ℕ) → length (put_all little xs) ≡ number_size * length xs
length-put_all little [] = refl
length-put_all little (x ∷ xs) = rw (length-append, length-put, length-put_all little xs) (omega arith)

-- a record takes 24 bytes
pub length-encode : (little : Bool) (r : Record) → length r.fields ≡ field_count
    → length (encode little r) ≡ record_size
unfolding encode
length-encode little r h = rw (length-append, length-put, length-put_all, h)

-- a record that is written bears its mark, whatever follows
pub marked : (little : Bool) (r : Record) (more : List ℕ) → is_marked (encode little r ++ more) ≡ true
unfolding encode
marked true r more = refl
marked false r more = refl

-- so do its 24 bytes alone
pub marked-part : (little : Bool) (r : Record) (more : List ℕ)
    → is_marked (take record_size (encode little r ++ more)) ≡ true
unfolding encode
marked-part true r more = refl
marked-part false r more = refl

-- a record that fits is read back from the bytes in front
pub decode_front : (little : Bool) (r : Record) (more : List ℕ) → Fits r
    → decode (take record_size (encode little r ++ more)) ≡ r
decode_front little r more f = rw (take_at (encode little r) more record_size (length-encode little r f.counted)) (decode-encode little r f)

-- behind a record's 24 bytes stands what follows
pub drop_front : (little : Bool) (r : Record) (more : List ℕ) → length r.fields ≡ field_count
    → drop record_size (encode little r ++ more) ≡ more
drop_front little r more h = drop_at (encode little r) more record_size (length-encode little r h)

-- so many records are read, of any bytes
pub length-decodes : (n : ℕ) (bs : List ℕ) → length (decodes n bs) ≡ n
length-decodes zero bs = refl
length-decodes (suc n) bs = ap suc (length-decodes n (drop record_size bs))

-- records that fit are read back, whatever follows
pub decodes-encodes : (little : Bool) (rs : List Record) (more : List ℕ) → AllFit rs
    → decodes (length rs) (encodes little rs ++ more) ≡ rs
decodes-encodes little [] more f = refl
decodes-encodes little (r ∷ rs) more f =
    rw (append_assoc, decode_front little r (encodes little rs ++ more) f.0, drop_front little r (encodes little rs ++ more) f.0.counted)
    (ap (r ∷◌) (decodes-encodes little rs more f.1))

-- every record has all its fields
abbrev pub AllCounted : List Record → Type 0
AllCounted [] = Unit {0}
AllCounted (r ∷ rs) = (length r.fields ≡ field_count) × AllCounted rs

-- records that fit have all their fields
pub fit_counted : (rs : List Record) → AllFit rs → AllCounted rs
fit_counted [] f = tt
fit_counted (r ∷ rs) f = (f.0.counted, fit_counted rs f.1)

-- records take 24 bytes each
pub length-encodes : (little : Bool) (rs : List Record) → AllCounted rs
    → length (encodes little rs) ≡ record_size * length rs
length-encodes little [] h = refl
length-encodes little (r ∷ rs) h = rw (length-append, length-encode little r h.0, length-encodes little rs h.1) (omega arith)

-- a table's length: 24 bytes a record, its header among them, and the pool
pub length-bytes : (little : Bool) (m : Image) → AllCounted m.records
    → length (bytes_of little m) ≡ record_size * count m + length m.pool
unfolding bytes_of
length-bytes little m h =
    rw (length-append, length-encode little (header_of m) refl, length-append, length-encodes little m.records h) (omega arith)

-- a table whose records fit, and whose header does
pub record ImageFits (m : Image) : Type 0 where
  pub records : AllFit m.records
  pub count : count m < 2 ^ 32
  pub pool : length m.pool < 2 ^ 32
  pub root : m.root < 2 ^ 32

-- its header fits
pub header-fits : (m : Image) → ImageFits m → Fits (header_of m)
header-fits m f = record { counted = refl; small = (f.count, (f.pool, (f.root, (omega arith, (omega arith, tt))))) }

-- its header is read back
pub header_of_bytes : (little : Bool) (m : Image) → ImageFits m → header (bytes_of little m) ≡ header_of m
unfolding bytes_of
header_of_bytes little m f = decode_front little (header_of m) (encodes little m.records ++ m.pool) (header-fits m f)

-- a table's bytes begin with a mark
pub bytes-marked : (little : Bool) (m : Image) → is_marked (bytes_of little m) ≡ true
unfolding bytes_of
bytes-marked little m = marked little (header_of m) (encodes little m.records ++ m.pool)

-- behind the header stand the records and the pool
pub bytes_behind : (little : Bool) (m : Image)
    → drop record_size (bytes_of little m) ≡ encodes little m.records ++ m.pool
unfolding bytes_of
bytes_behind little m = drop_front little (header_of m) (encodes little m.records ++ m.pool) refl

-- behind the records stands the pool
pub pool_behind : (little : Bool) (m : Image) → AllCounted m.records
    → drop (record_size * count m) (bytes_of little m) ≡ m.pool
unfolding bytes_of
pool_behind little m h =
    let front = encode little (header_of m) ++ encodes little m.records in
    let e : length front ≡ record_size * count m = rw (length-append, length-encode little (header_of m) refl, length-encodes little m.records h) (omega arith) in
    rw (← append_assoc) (drop_at front m.pool (record_size * count m) e)

-- a table that fits is read back
pub image_of_bytes : (little : Bool) (m : Image) → ImageFits m → image_of (bytes_of little m) ≡ m
unfolding image_of
image_of_bytes little m f =
    let less : count m - 1 ≡ length m.records = omega arith in
    rw (header_of_bytes little m f, bytes_behind little m, pool_behind little m (fit_counted m.records f.records), less, decodes-encodes little m.records m.pool f.records, take-length)
