-- What a table is, as rules, read from the bytes. Document 01, 'Table': "Records of 24 bytes, number 0 first, then the name pool; length exactly 24 × count + pool. Each record: a two-byte mark
-- (C0 AD: numbers big-endian; AD C0: little-endian, per record), kind, flag, five 32-bit numbers a b c d e. A field not named is 0", the table of kinds, and the rules behind it;
-- 'Numbers of refusal', 12: "not a table: length, header, root", 13: "record breaks a rule", at the "lowest such record"; "12 comes before 13"; document 02, 1: "New kind 9; flag bits 0 to 6 are y m w d h m s,
-- and the flag is 1 to 127". Proved one with table_fault, framed, obeys, decode, record_in. Assumes nothing.
use Rattle.std.specs.Prelude.{◌≡◌, Bool, true, false, List, [], ◌∷◌, ℕ, ◌+◌, ◌*◌, ◌-◌, ◌^◌, ◌≤◌, ◌<◌, length}
use Rattle.refusals.specs.Limits.{record_limit, pool_limit, name_limit, code_limit, string_limit}
use Rattle.refusals.specs.Refusals.{refusal}
use Rattle.refusals.specs.declared.Refusal.{Refusal}
use Rattle.refusals.specs.declared.Cause.TheVariants.{NotATable, BrokenRecord}
use Rattle.lexis.specs.Runs.{StandsAt}
use Rattle.values.specs.Days.{PackedDay}
use Rattle.table.specs.Records.{Record, field_count, record_size, make}

-- the mark C0AD, a 16-bit number: C0 AD is big-endian, AD C0 little-endian
pub data MarkAt (bs : List ℕ) (place : ℕ) : (little : Bool) → Type 0 where
  big_endian : {x y : ℕ} → StandsAt bs place (x ∷ y ∷ []) → x * 2 ^ 8 + y ≡ 0xC0AD → MarkAt bs place false
  little_endian : {x y : ℕ} → StandsAt bs place (x ∷ y ∷ []) → y * 2 ^ 8 + x ≡ 0xC0AD → MarkAt bs place true

-- a 32-bit number at a place: big-endian has its highest byte first, little-endian its lowest
pub data NumberAt (bs : List ℕ) (place : ℕ) : (little : Bool) → ℕ → Type 0 where
  highest_first : {w x y z : ℕ} → StandsAt bs place (w ∷ x ∷ y ∷ z ∷ [])
      → NumberAt bs place false (w * 2 ^ 24 + x * 2 ^ 16 + y * 2 ^ 8 + z)
  lowest_first : {w x y z : ℕ} → StandsAt bs place (w ∷ x ∷ y ∷ z ∷ [])
      → NumberAt bs place true (z * 2 ^ 24 + y * 2 ^ 16 + x * 2 ^ 8 + w)

-- numbers one after the other from a place on
pub data NumbersAt (bs : List ℕ) (little : Bool) : (place : ℕ) → List ℕ → Type 0 where
  no_number : {place : ℕ} → NumbersAt bs little place []
  one_more : {place x : ℕ} {xs : List ℕ} → NumberAt bs place little x → NumbersAt bs little (place + 4) xs
      → NumbersAt bs little place (x ∷ xs)

-- the bytes hold record n, in the order that its own mark says
pub record Holds (bs : List ℕ) (n : ℕ) (little : Bool) (r : Record) : Type 0 where
  pub mark : MarkAt bs (record_size * n) little
  pub kind : StandsAt bs (record_size * n + 2) (r.kind ∷ [])
  pub flag : StandsAt bs (record_size * n + 3) (r.flag ∷ [])
  pub numbers : NumbersAt bs little (record_size * n + 4) r.fields
  pub counted : length r.fields ≡ field_count

-- the kind byte of record n
abbrev pub KindAt : List ℕ → ℕ → ℕ → Type 0
KindAt bs n kind = StandsAt bs (record_size * n + 2) (kind ∷ [])

-- the length, the header and the root: "a count, b pool bytes, c root"; "Count 2..2,048, pool to 16,384; the root's kind byte is 1"
pub record IsFrame (bs : List ℕ) (count pool root : ℕ) : Type 0 where
  pub little : Bool
  pub header : Holds bs 0 little (make 0 0 (count ∷ pool ∷ root ∷ []))
  pub least : 2 ≤ count
  pub most : count ≤ record_limit
  pub pooled : pool ≤ pool_limit
  pub sized : length bs ≡ record_size * count + pool
  pub inside : root < count
  pub object : KindAt bs root 1

-- "Pool pairs lie in the pool; length 0 has place 0"; a place and a length, which lies between two bounds
pub data PoolPair (pool least most : ℕ) : (place size : ℕ) → Type 0 where
  empty : least ≡ 0 → PoolPair pool least most 0 0
  filled : {place size : ℕ} → 1 ≤ size → least ≤ size → size ≤ most → place + size ≤ pool
      → PoolPair pool least most place size

-- "Every link is 0 or above its own record's number and below the count, and of the kind it needs"
pub data Link (bs : List ℕ) (count n : ℕ) (Needed : ℕ → Type 0) : ℕ → Type 0 where
  nowhere : Link bs count n Needed 0
  leads : {x kind : ℕ} → n < x → x < count → KindAt bs x kind → Needed kind → Link bs count n Needed x

-- the one kind that a link needs
pub data Only (kind : ℕ) : ℕ → Type 0 where
  only : Only kind kind

-- "object or first item"
pub data ObjectOrItem : ℕ → Type 0 where
  object : ObjectOrItem 1
  boolean : ObjectOrItem 3
  integer : ObjectOrItem 4
  string : ObjectOrItem 5
  date_pattern : ObjectOrItem 6
  date_interval : ObjectOrItem 7
  time_pattern : ObjectOrItem 8
  duration_pattern : ObjectOrItem 9

-- a 32-bit number in two's complement, and the integer that it stands for as its distance from -2,147,483,648
pub data TwosComplement : (bits distance : ℕ) → Type 0 where
  not_negative : {x : ℕ} → x < 2 ^ 31 → TwosComplement x (x + 2 ^ 31)
  negative : {x : ℕ} → 2 ^ 31 ≤ x → x < 2 ^ 32 → TwosComplement x (x - 2 ^ 31)

-- record n obeys the rules of its kind: "A field not named is 0"; "Lengths: type and name 1..63, code 0..31, string 0..255. Low ≤ high; dates real, none after 9999-12-31"
pub data IsRecord (bs : List ℕ) (count pool n : ℕ) : Type 0 where
  object : {little : Bool} {a b c d e : ℕ}
      → Holds bs n little (make 1 0 (a ∷ b ∷ c ∷ d ∷ e ∷ []))
      → PoolPair pool 1 name_limit a b
      → PoolPair pool 0 code_limit c d
      → Link bs count n (Only 2) e
      → IsRecord bs count pool n
  attribute : {little : Bool} {flag a b c d : ℕ}
      → Holds bs n little (make 2 flag (a ∷ b ∷ c ∷ d ∷ []))
      → flag ≤ 2
      → PoolPair pool 1 name_limit a b
      → Link bs count n ObjectOrItem c
      → Link bs count n (Only 2) d
      → IsRecord bs count pool n
  boolean : {little : Bool} {flag : ℕ} → Holds bs n little (make 3 flag []) → 1 ≤ flag → flag ≤ 3
      → IsRecord bs count pool n
  integer : {little : Bool} {a b e low high : ℕ}
      → Holds bs n little (make 4 0 (a ∷ b ∷ 0 ∷ 0 ∷ e ∷ []))
      → TwosComplement a low
      → TwosComplement b high
      → low ≤ high
      → Link bs count n (Only 4) e
      → IsRecord bs count pool n
  string : {little : Bool} {a b e : ℕ} → Holds bs n little (make 5 0 (a ∷ b ∷ 0 ∷ 0 ∷ e ∷ []))
      → PoolPair pool 0 string_limit a b → Link bs count n (Only 5) e
      → IsRecord bs count pool n
  date_pattern : {little : Bool} {flag : ℕ} → Holds bs n little (make 6 flag []) → 1 ≤ flag → flag ≤ 5
      → IsRecord bs count pool n
  date_interval : {little : Bool} {a b e : ℕ}
      → Holds bs n little (make 7 0 (a ∷ b ∷ 0 ∷ 0 ∷ e ∷ []))
      → PackedDay a
      → PackedDay b
      → a ≤ b
      → Link bs count n (Only 7) e
      → IsRecord bs count pool n
  time_pattern : {little : Bool} {flag : ℕ} → Holds bs n little (make 8 flag []) → 1 ≤ flag → flag ≤ 4
      → IsRecord bs count pool n
  duration_pattern : {little : Bool} {flag : ℕ} → Holds bs n little (make 9 flag []) → 1 ≤ flag → flag ≤ 127
      → IsRecord bs count pool n

-- a table: its frame, and every record behind the header obeys its rules
pub record IsTable (bs : List ℕ) (count pool root : ℕ) : Type 0 where
  pub frame : IsFrame bs count pool root
  pub records : (n : ℕ) → 1 ≤ n → n < count → IsRecord bs count pool n

-- why bytes are no table: the frame fails, or it holds and record n, the lowest such, breaks a rule
pub data NoTable (bs : List ℕ) : Refusal → Type 0 where
  unframed : ((count pool root : ℕ) → ¬ IsFrame bs count pool root) → NoTable bs (refusal NotATable 0)
  broken : {count pool root n : ℕ}
      → IsFrame bs count pool root
      → 1 ≤ n
      → n < count
      → ¬ IsRecord bs count pool n
      → ((k : ℕ) → 1 ≤ k → k < n → IsRecord bs count pool k)
      → NoTable bs (refusal BrokenRecord n)
