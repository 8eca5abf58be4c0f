-- What a record of a table says, as rules: its links are followed by number. Document 01, 'Table', the table of kinds; "Asked for a name (an object's type, an attribute's name, a string item)
-- by record number, the build hands out the part of the pool itself"; document 02, 1: "New kind 9". Proved one with object_at, tree_at, name_answer. Assumes nothing.
use Rattle.std.specs.Prelude.{Bool, List, [], ◌∷◌, ℕ, ◌+◌, ◌*◌, ◌<◌, length}
use Rattle.lexis.specs.Runs.{StandsAt}
use Rattle.refusals.specs.Refusals.{refusal}
use Rattle.refusals.specs.declared.Refusal.{Refusal}
use Rattle.refusals.specs.declared.Cause.TheVariants.{NoName}
use Rattle.meaning.specs.Constraints.{Range, Text, Leaf, single, ranges, texts, booleans, integers, dates, Object, Attributes, Value}
use Rattle.meaning.specs.Constraints
use Rattle.table.specs.Records.{record_size, make}
use Rattle.table.specs.TableRules.{KindAt, Holds, TwosComplement, IsTable, NoTable}

-- the bytes of the pool, which stands behind the records, that a place and a length name
pub data NameIs (bs : List ℕ) (count place : ℕ) : (size : ℕ) → List ℕ → Type 0 where
  name_is : {w : List ℕ} → StandsAt bs (record_size * count + place) w → NameIs bs count place (length w) w

-- integer items: "a low, b high (two's complement); e next item"
pub data SaysIntegers (bs : List ℕ) : ℕ → List Range → Type 0 where
  no_more : SaysIntegers bs 0 []
  integer : {n a b e low high : ℕ} {little : Bool} {l : List Range}
      → Holds bs n little (make 4 0 (a ∷ b ∷ 0 ∷ 0 ∷ e ∷ []))
      → TwosComplement a low
      → TwosComplement b high
      → SaysIntegers bs e l
      → SaysIntegers bs n (record { number = n; low = low; high = high } ∷ l)

-- date intervals: "a,b as year×10,000+month×100+day; e next"
pub data SaysDates (bs : List ℕ) : ℕ → List Range → Type 0 where
  no_more : SaysDates bs 0 []
  date_interval : {n a b e : ℕ} {little : Bool} {l : List Range} → Holds bs n little (make 7 0 (a ∷ b ∷ 0 ∷ 0 ∷ e ∷ []))
      → SaysDates bs e l → SaysDates bs n (record { number = n; low = a; high = b } ∷ l)

-- strings: "a,b; e next"
pub data SaysStrings (bs : List ℕ) (count : ℕ) : ℕ → List Text → Type 0 where
  no_more : SaysStrings bs count 0 []
  string : {n a b e : ℕ} {little : Bool} {w : List ℕ} {l : List Text}
      → Holds bs n little (make 5 0 (a ∷ b ∷ 0 ∷ 0 ∷ e ∷ []))
      → NameIs bs count a b w
      → SaysStrings bs count e l
      → SaysStrings bs count n (record { number = n; text = w } ∷ l)

-- a leaf, from its first item on
pub data SaysLeaf (bs : List ℕ) (count n : ℕ) : Leaf → Type 0 where
  boolean : {flag : ℕ} {little : Bool} → Holds bs n little (make 3 flag [])
      → SaysLeaf bs count n (single booleans n flag)
  integer : {x : Range} {l : List Range} → SaysIntegers bs n (x ∷ l) → SaysLeaf bs count n (ranges integers (x ∷ l))
  string : {x : Text} {l : List Text} → SaysStrings bs count n (x ∷ l) → SaysLeaf bs count n (texts (x ∷ l))
  date_pattern : {flag : ℕ} {little : Bool} → Holds bs n little (make 6 flag [])
      → SaysLeaf bs count n (single Constraints.date_pattern n flag)
  date_interval : {x : Range} {l : List Range} → SaysDates bs n (x ∷ l) → SaysLeaf bs count n (ranges dates (x ∷ l))
  time_pattern : {flag : ℕ} {little : Bool} → Holds bs n little (make 8 flag [])
      → SaysLeaf bs count n (single Constraints.time_pattern n flag)
  duration_pattern : {flag : ℕ} {little : Bool} → Holds bs n little (make 9 flag [])
      → SaysLeaf bs count n (single Constraints.duration_pattern n flag)

mutual
  -- "a,b type place and length; c,d code; e first attribute or 0 for `*`"
  pub data SaysObject (bs : List ℕ) (count : ℕ) : ℕ → Object → Type 0 where
    object : {n a b c d e : ℕ} {little : Bool} {type code : List ℕ} {xs : Attributes}
        → Holds bs n little (make 1 0 (a ∷ b ∷ c ∷ d ∷ e ∷ []))
        → NameIs bs count a b type
        → NameIs bs count c d code
        → SaysAttributes bs count e xs
        → SaysObject bs count n (Constraints.object (record { number = n; type = type; code = code }) xs)

  -- "a,b name; c object or first item, 0 for `*`; d next attribute or 0"; the flag is "0: 0..0, 1: 0..1, 2: 1..1"
  pub data SaysAttributes (bs : List ℕ) (count : ℕ) : ℕ → Attributes → Type 0 where
    no_more : SaysAttributes bs count 0 Constraints.no_more
    attribute : {n flag a b c d : ℕ} {little : Bool} {name : List ℕ} {v : Value} {more : Attributes}
        → Holds bs n little (make 2 flag (a ∷ b ∷ c ∷ d ∷ []))
        → NameIs bs count a b name
        → SaysValue bs count c v
        → SaysAttributes bs count d more
        → SaysAttributes bs count n
        (Constraints.attribute (record { number = n; existence = flag; name = name }) v more)

  pub data SaysValue (bs : List ℕ) (count : ℕ) : ℕ → Value → Type 0 where
    anything : SaysValue bs count 0 Constraints.any
    an_object : {n : ℕ} {o : Object} → SaysObject bs count n o → SaysValue bs count n (Constraints.nested o)
    a_leaf : {n : ℕ} {l : Leaf} → SaysLeaf bs count n l → SaysValue bs count n (Constraints.leaf l)

-- the part of the table's bytes that is a record's name, by its start and its length
pub data NamePart (bs : List ℕ) (count n : ℕ) : (start size : ℕ) → Type 0 where
  type_of : {a b c d e : ℕ} {little : Bool} → Holds bs n little (make 1 0 (a ∷ b ∷ c ∷ d ∷ e ∷ []))
      → NamePart bs count n (record_size * count + a) b
  name_of : {flag a b c d : ℕ} {little : Bool} → Holds bs n little (make 2 flag (a ∷ b ∷ c ∷ d ∷ []))
      → NamePart bs count n (record_size * count + a) b
  string_of : {a b e : ℕ} {little : Bool} → Holds bs n little (make 5 0 (a ∷ b ∷ 0 ∷ 0 ∷ e ∷ []))
      → NamePart bs count n (record_size * count + a) b

-- an object of a table: the record with that number, and what it says
pub record Says (bs : List ℕ) (n : ℕ) (o : Object) : Type 0 where
  pub count : ℕ
  pub pool : ℕ
  pub root : ℕ
  pub table : IsTable bs count pool root
  pub inside : n < count
  pub object : SaysObject bs count n o

-- 14, "root asked isn't an object of the table": no record of that number has the kind 1
pub record NoObject (bs : List ℕ) (n : ℕ) : Type 0 where
  pub count : ℕ
  pub pool : ℕ
  pub root : ℕ
  pub table : IsTable bs count pool root
  pub other : n < count → ¬ KindAt bs n 1

-- the name of a record of a table
pub record Named (bs : List ℕ) (n start size : ℕ) : Type 0 where
  pub count : ℕ
  pub pool : ℕ
  pub root : ℕ
  pub table : IsTable bs count pool root
  pub inside : n < count
  pub part : NamePart bs count n start size

-- "Name: table, 14": the refusal of the bytes as a table, or 14, "record asked holds no name"
pub data NameRefuses (bs : List ℕ) (n : ℕ) : Refusal → Type 0 where
  no_table : {r : Refusal} → NoTable bs r → NameRefuses bs n r
  no_name : {count pool root : ℕ} → IsTable bs count pool root
      → (n < count → (start size : ℕ) → ¬ NamePart bs count n start size)
      → NameRefuses bs n (refusal NoName n)
