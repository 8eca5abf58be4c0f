-- Records and the bytes of a table. Document 01, 'Table': "Records of 24 bytes, number 0 first, then the name pool; length exactly 24 × count + pool. Each record: a
-- two-byte mark .., kind, flag, five 32-bit numbers a b c d e"; header: "a count, b pool bytes, c root". Assumes nothing.
use Rattle.std.specs.Prelude.{Bool, true, false, ◌||◌, List, [], ◌∷◌, ◌++◌, ℕ, zero, suc, ◌+◌, ◌*◌, ◌-◌, eqb, length, get_or, take, drop}
use Rattle.table.specs.Order.{put, get}

-- bytes of a number, and numbers of a record
abbrev pub number_size : ℕ
number_size = 4

abbrev pub field_count : ℕ
field_count = 5

-- bytes of a record: its mark, kind and flag, and its numbers
abbrev pub record_size : ℕ
record_size = 4 + number_size * field_count

-- the mark, as a number of two bytes in the record's own order
abbrev pub mark : ℕ
mark = 0xC0AD

-- a record without its mark: the fields are a b c d e
pub record Record : Type 0 where
  pub kind : ℕ
  pub flag : ℕ
  pub fields : List ℕ

-- the record's order, by its own mark
abbrev pub is_little : List ℕ → Bool
is_little bs = eqb (get true (take 2 bs)) mark

-- the mark is one of the two
abbrev pub is_marked : List ℕ → Bool
is_marked bs = eqb (get true (take 2 bs)) mark || eqb (get false (take 2 bs)) mark

-- so many numbers, one after the other
abbrev pub numbers : Bool → ℕ → List ℕ → List ℕ
numbers little zero bs = []
numbers little (suc n) bs = get little (take number_size bs) ∷ numbers little n (drop number_size bs)

unfoldable pub decode : List ℕ → Record
decode bs = record { kind = get_or bs 2 0; flag = get_or bs 3 0; fields = numbers (is_little bs) field_count (drop 4 bs) }

abbrev pub put_all : Bool → List ℕ → List ℕ
put_all little [] = []
put_all little (x ∷ xs) = put little number_size x ++ put_all little xs

unfoldable pub encode : Bool → Record → List ℕ
encode little r = put little 2 mark ++ (r.kind ∷ r.flag ∷ put_all little r.fields)

-- a list filled up to so many
abbrev pub padded : {A : Type 0} → A → ℕ → List A → List A
padded z zero xs = []
padded z (suc n) [] = z ∷ padded z n []
padded z (suc n) (x ∷ xs) = x ∷ padded z n xs

-- a record of these fields, the others 0
abbrev pub make : ℕ → ℕ → List ℕ → Record
make kind flag xs = record { kind = kind; flag = flag; fields = padded 0 field_count xs }

-- a field by its place: 0 is a, 4 is e
abbrev pub field : Record → ℕ → ℕ
field r i = get_or r.fields i 0

-- a table: its root, its pool, and its records from number 1 on
pub record Image : Type 0 where
  pub root : ℕ
  pub pool : List ℕ
  pub records : List Record

-- how many records there are, the header among them
abbrev pub count : Image → ℕ
count m = suc (length m.records)

abbrev pub header_of : Image → Record
header_of m = make 0 0 (count m ∷ length m.pool ∷ m.root ∷ [])

-- so many records, one after the other
abbrev pub decodes : ℕ → List ℕ → List Record
decodes zero bs = []
decodes (suc n) bs = decode (take record_size bs) ∷ decodes n (drop record_size bs)

abbrev pub encodes : Bool → List Record → List ℕ
encodes little [] = []
encodes little (r ∷ rs) = encode little r ++ encodes little rs

-- the record with a number, of bytes that hold records, the header's first
abbrev pub record_in : List ℕ → ℕ → Record
record_in bs n = decode (take record_size (drop (record_size * n) bs))

-- the table that bytes hold, and a table's bytes
abbrev pub header : List ℕ → Record
header bs = decode (take record_size bs)

unfoldable pub image_of : List ℕ → Image
image_of bs =
    let h = header bs in
    record {
      root = field h 2;
      pool = take (field h 1) (drop (record_size * field h 0) bs);
      records = decodes (field h 0 - 1) (drop record_size bs);
    }

unfoldable pub bytes_of : Bool → Image → List ℕ
bytes_of little m = encode little (header_of m) ++ (encodes little m.records ++ m.pool)
