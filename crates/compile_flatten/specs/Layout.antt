-- The table of a tree, as rules, read from the bytes. Document 01, 'Table': "Compiling numbers records and fills the pool in text order (type, then code; no quotes or brackets); nothing is shared;
-- root 1"; the table of kinds; document 02, 1: "New kind 9". Each relation says that a part of the tree is laid out from a record and a place of the pool on, up to another record and place. Proved one
-- with image_of_tree, object_table, object_pool. Assumes nothing.
use Rattle.std.specs.Prelude.{◌≡◌, Bool, List, [], ◌∷◌, ℕ, ◌+◌, ◌*◌, ◌<◌, length}
use Rattle.lexis.specs.Runs.{StandsAt}
use Rattle.meaning.specs.Constraints.{Range, Text, Leaf, single, ranges, texts, booleans, integers, dates, Object, Attributes, Value}
use Rattle.meaning.specs.Constraints
use Rattle.table.specs.Records.{record_size, make}
use Rattle.table.specs.TableRules.{TwosComplement, Holds}

-- the bytes of a name stand in the pool from a place on, which the record names; "length 0 has place 0"
pub data LaysName (bs : List ℕ) (count at : ℕ) : List ℕ → (place : ℕ) → Type 0 where
  empty : LaysName bs count at [] 0
  filled : {b : ℕ} {w : List ℕ} → StandsAt bs (record_size * count + at) (b ∷ w) → LaysName bs count at (b ∷ w) at

-- integer items from record n on, the link to the first, and the next record behind them
pub data LaysIntegers (bs : List ℕ) (little : Bool) : (n : ℕ) → List Range → (first behind : ℕ) → Type 0 where
  no_more : {n : ℕ} → LaysIntegers bs little n [] 0 n
  integer : {n a b e m low high : ℕ} {l : List Range}
      → Holds bs n little (make 4 0 (a ∷ b ∷ 0 ∷ 0 ∷ e ∷ []))
      → TwosComplement a low
      → TwosComplement b high
      → LaysIntegers bs little (n + 1) l e m
      → LaysIntegers bs little n (record { number = n; low = low; high = high } ∷ l) n m

-- date intervals likewise
pub data LaysDates (bs : List ℕ) (little : Bool) : (n : ℕ) → List Range → (first behind : ℕ) → Type 0 where
  no_more : {n : ℕ} → LaysDates bs little n [] 0 n
  date_interval : {n a b e m : ℕ} {l : List Range} → Holds bs n little (make 7 0 (a ∷ b ∷ 0 ∷ 0 ∷ e ∷ []))
      → LaysDates bs little (n + 1) l e m → LaysDates bs little n (record { number = n; low = a; high = b } ∷ l) n m

-- strings from record n and place p of the pool on, the link to the first, and the next record and place behind them
pub data LaysStrings (bs : List ℕ) (little : Bool) (count : ℕ) : (n p : ℕ) → List Text → (first behind pool : ℕ)
    → Type 0 where
  no_more : {n p : ℕ} → LaysStrings bs little count n p [] 0 n p
  string : {n p a e m q : ℕ} {w : List ℕ} {l : List Text}
      → Holds bs n little (make 5 0 (a ∷ length w ∷ 0 ∷ 0 ∷ e ∷ []))
      → LaysName bs count p w a
      → LaysStrings bs little count (n + 1) (p + length w) l e m q
      → LaysStrings bs little count n p (record { number = n; text = w } ∷ l) n m q

-- a leaf from record n and place p on
pub data LaysLeaf (bs : List ℕ) (little : Bool) (count : ℕ) : (n p : ℕ) → Leaf → (behind pool : ℕ) → Type 0 where
  boolean : {n p flag : ℕ} → Holds bs n little (make 3 flag [])
      → LaysLeaf bs little count n p (single booleans n flag) (n + 1) p
  integer : {n p m : ℕ} {x : Range} {l : List Range} → LaysIntegers bs little n (x ∷ l) n m
      → LaysLeaf bs little count n p (ranges integers (x ∷ l)) m p
  string : {n p m q : ℕ} {x : Text} {l : List Text} → LaysStrings bs little count n p (x ∷ l) n m q
      → LaysLeaf bs little count n p (texts (x ∷ l)) m q
  date_pattern : {n p flag : ℕ} → Holds bs n little (make 6 flag [])
      → LaysLeaf bs little count n p (single Constraints.date_pattern n flag) (n + 1) p
  date_interval : {n p m : ℕ} {x : Range} {l : List Range} → LaysDates bs little n (x ∷ l) n m
      → LaysLeaf bs little count n p (ranges dates (x ∷ l)) m p
  time_pattern : {n p flag : ℕ} → Holds bs n little (make 8 flag [])
      → LaysLeaf bs little count n p (single Constraints.time_pattern n flag) (n + 1) p
  duration_pattern : {n p flag : ℕ} → Holds bs n little (make 9 flag [])
      → LaysLeaf bs little count n p (single Constraints.duration_pattern n flag) (n + 1) p

mutual
  -- an object: its record, its type and then its code, its attributes
  pub data LaysObject (bs : List ℕ) (little : Bool) (count : ℕ) : (n p : ℕ) → Object → (behind pool : ℕ) → Type 0 where
    object : {n p a c e m q : ℕ} {type code : List ℕ} {xs : Attributes}
        → Holds bs n little (make 1 0 (a ∷ length type ∷ c ∷ length code ∷ e ∷ []))
        → LaysName bs count p type a
        → LaysName bs count (p + length type) code c
        → LaysAttributes bs little count (n + 1) (p + length type + length code) xs e m q
        → LaysObject bs little count n p (Constraints.object (record { number = n; type = type; code = code }) xs) m q

  -- attributes, the link to the first among them: each with its record, its name, its value, and then the next
  pub data LaysAttributes (bs : List ℕ) (little : Bool) (count : ℕ) : (n p : ℕ) → Attributes → (first behind pool : ℕ)
      → Type 0 where
    no_more : {n p : ℕ} → LaysAttributes bs little count n p Constraints.no_more 0 n p
    attribute : {n p flag a c d m q k r : ℕ} {name : List ℕ} {v : Value} {more : Attributes}
        → Holds bs n little (make 2 flag (a ∷ length name ∷ c ∷ d ∷ []))
        → LaysName bs count p name a
        → LaysValue bs little count (n + 1) (p + length name) v c m q
        → LaysAttributes bs little count m q more d k r
        → LaysAttributes bs little count n p
        (Constraints.attribute (record { number = n; existence = flag; name = name }) v more) n k r

  -- a value, and the link to it
  pub data LaysValue (bs : List ℕ) (little : Bool) (count : ℕ) : (n p : ℕ) → Value → (link behind pool : ℕ)
      → Type 0 where
    anything : {n p : ℕ} → LaysValue bs little count n p Constraints.any 0 n p
    an_object : {n p m q : ℕ} {o : Object} → LaysObject bs little count n p o m q
        → LaysValue bs little count n p (Constraints.nested o) n m q
    a_leaf : {n p m q : ℕ} {l : Leaf} → LaysLeaf bs little count n p l m q
        → LaysValue bs little count n p (Constraints.leaf l) n m q

-- the table of a tree: the header, all records and the pool from record 1 and place 0 on, and nothing behind them
pub record IsCompiled (little : Bool) (tree : Object) (bs : List ℕ) : Type 0 where
  pub count : ℕ
  pub pool : ℕ
  pub header : Holds bs 0 little (make 0 0 (count ∷ pool ∷ 1 ∷ []))
  pub laid : LaysObject bs little count 1 0 tree count pool
  pub sized : length bs ≡ record_size * count + pool
  -- what is written as records are bytes
  pub bytes : (k b : ℕ) → StandsAt bs k (b ∷ []) → k < record_size * count → b < 256
