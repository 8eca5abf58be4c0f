-- What merging writes and when it refuses, as rules. Document 01, 'Table': "Merging writes all in the order asked: first table's records keep their numbers, the second's gain first count − 1;
-- links other than 0 move so, pool places of length above 0 gain the first pool's bytes. Header: counts summed less one, pools summed, first root. Both shifts are reported"; 'Numbers of
-- refusal': "Merge: first table, second, 8, 10, 11, naming the table for 12 and 13", 8 at 0: "merged count above 2,048", 10 at 0: "pool above 16,384", 11 at the needed length: "output too
-- short"; document 02, 1: "New kind 9", which names no field, so that nothing in it moves. Proved one with merge_answer, merge_outcome, join, after_step. Assumes nothing.
use Rattle.std.specs.Prelude.{◌≡◌, ◌≢◌, Bool, true, false, List, [], ◌∷◌, ℕ, ◌+◌, ◌*◌, ◌-◌, ◌≤◌, ◌<◌, length}
use Rattle.lexis.specs.Runs.{StandsAt}
use Rattle.refusals.specs.Limits.{record_limit, pool_limit}
use Rattle.refusals.specs.declared.Refusal.{Refusal}
use Rattle.refusals.specs.declared.Cause.TheVariants.{TooManyRecords, PoolTooLarge, OutputTooShort}
use Rattle.table.specs.Records.{Record, record_size, make}
use Rattle.table.specs.TableRules.{Holds, IsTable, NoTable}
use Rattle.table_merge.specs.Merge.{MergeRequest, request, MergeReport, MergeRefusal, of_table, neither}
use Rattle.table_merge.specs.Lists.{MergeStep, Carried, carried}

-- "links other than 0 move"
pub data LinkMoves (by : ℕ) : (link moved : ℕ) → Type 0 where
  nowhere : LinkMoves by 0 0
  onward : {x : ℕ} → x ≢ 0 → LinkMoves by x (x + by)

-- "pool places of length above 0 gain the first pool's bytes"
pub data PlaceMoves (by : ℕ) : (place size moved : ℕ) → Type 0 where
  empty : {place : ℕ} → PlaceMoves by place 0 place
  onward : {place size : ℕ} → 1 ≤ size → PlaceMoves by place size (place + by)

-- a record of the second table, and as it is written
pub data Moves (records pool : ℕ) : (r moved : Record) → Type 0 where
  object : {a b c d e a' c' e' : ℕ}
      → PlaceMoves pool a b a'
      → PlaceMoves pool c d c'
      → LinkMoves records e e'
      → Moves records pool (make 1 0 (a ∷ b ∷ c ∷ d ∷ e ∷ [])) (make 1 0 (a' ∷ b ∷ c' ∷ d ∷ e' ∷ []))
  attribute : {flag a b c d a' c' d' : ℕ}
      → PlaceMoves pool a b a'
      → LinkMoves records c c'
      → LinkMoves records d d'
      → Moves records pool (make 2 flag (a ∷ b ∷ c ∷ d ∷ [])) (make 2 flag (a' ∷ b ∷ c' ∷ d' ∷ []))
  boolean : {flag : ℕ} → Moves records pool (make 3 flag []) (make 3 flag [])
  integer : {a b e e' : ℕ} → LinkMoves records e e'
      → Moves records pool (make 4 0 (a ∷ b ∷ 0 ∷ 0 ∷ e ∷ [])) (make 4 0 (a ∷ b ∷ 0 ∷ 0 ∷ e' ∷ []))
  string : {a b e a' e' : ℕ} → PlaceMoves pool a b a' → LinkMoves records e e'
      → Moves records pool (make 5 0 (a ∷ b ∷ 0 ∷ 0 ∷ e ∷ [])) (make 5 0 (a' ∷ b ∷ 0 ∷ 0 ∷ e' ∷ []))
  date_pattern : {flag : ℕ} → Moves records pool (make 6 flag []) (make 6 flag [])
  date_interval : {a b e e' : ℕ} → LinkMoves records e e'
      → Moves records pool (make 7 0 (a ∷ b ∷ 0 ∷ 0 ∷ e ∷ [])) (make 7 0 (a ∷ b ∷ 0 ∷ 0 ∷ e' ∷ []))
  time_pattern : {flag : ℕ} → Moves records pool (make 8 flag []) (make 8 flag [])
  duration_pattern : {flag : ℕ} → Moves records pool (make 9 flag []) (make 9 flag [])

-- what two tables say of themselves, and what is made of it: the count, the bytes of the pool, and the length
pub record Sizes : Type 0 where
  pub count₁ : ℕ
  pub pool₁ : ℕ
  pub root₁ : ℕ
  pub count₂ : ℕ
  pub pool₂ : ℕ
  pub root₂ : ℕ

-- "counts summed less one, pools summed"
abbrev pub count_of : Sizes → ℕ
count_of z = z.count₁ + z.count₂ - 1

abbrev pub pool_of : Sizes → ℕ
pool_of z = z.pool₁ + z.pool₂

abbrev pub length_of : Sizes → ℕ
length_of z = record_size * count_of z + pool_of z

-- both are tables, of these sizes
pub record BothTables (x y : List ℕ) (z : Sizes) : Type 0 where
  pub first : IsTable x z.count₁ z.pool₁ z.root₁
  pub second : IsTable y z.count₂ z.pool₂ z.root₂

-- the table written, record by record and byte by byte of the pool, in the order asked
pub record IsMerged (first second : List ℕ) (little : Bool) (z : Sizes) (joined : List ℕ) : Type 0 where
  pub sized : length joined ≡ length_of z
  pub header : Holds joined 0 little (make 0 0 (count_of z ∷ pool_of z ∷ z.root₁ ∷ []))
  pub kept : (n : ℕ) (order : Bool) (r : Record) → 1 ≤ n → n < z.count₁ → Holds first n order r
      → Holds joined n little r
  pub moved : (n : ℕ) (order : Bool) (r : Record) → 1 ≤ n → n < z.count₂ → Holds second n order r
      → (m : Record) × Moves (z.count₁ - 1) z.pool₁ r m × Holds joined (n + (z.count₁ - 1)) little m
  pub first_pool : (k b : ℕ) → k < z.pool₁ → StandsAt first (record_size * z.count₁ + k) (b ∷ [])
      → StandsAt joined (record_size * count_of z + k) (b ∷ [])
  pub second_pool : (k b : ℕ) → k < z.pool₂ → StandsAt second (record_size * z.count₂ + k) (b ∷ [])
      → StandsAt joined (record_size * count_of z + (z.pool₁ + k)) (b ∷ [])
  -- what is written as records are bytes
  pub bytes : (k b : ℕ) → StandsAt joined k (b ∷ []) → k < record_size * count_of z → b < 256

-- merging is done: both tables pass, counts and pools fit, the output has room; and what is reported
pub record Merges (q : MergeRequest) (room : ℕ) (z : Sizes) (m : MergeReport) : Type 0 where
  pub tables : BothTables q.first q.second z
  pub counts : count_of z ≤ record_limit
  pub pools : pool_of z ≤ pool_limit
  pub fits : length_of z ≤ room
  pub length : m.length ≡ length_of z
  pub records : m.shifts.records ≡ z.count₁ - 1
  pub pool : m.shifts.pool ≡ z.pool₁

-- merging is refused, each number exactly then and in this order
pub data MergeRefuses (q : MergeRequest) (room : ℕ) : MergeRefusal → Type 0 where
  first : {r : Refusal} → NoTable q.first r → MergeRefuses q room (of_table 1 r)
  second : {count pool root : ℕ} {r : Refusal} → IsTable q.first count pool root → NoTable q.second r
      → MergeRefuses q room (of_table 2 r)
  records : {z : Sizes} → BothTables q.first q.second z → record_limit < count_of z
      → MergeRefuses q room (neither TooManyRecords 0)
  pool : {z : Sizes} → BothTables q.first q.second z → count_of z ≤ record_limit → pool_limit < pool_of z
      → MergeRefuses q room (neither PoolTooLarge 0)
  short : {z : Sizes} → BothTables q.first q.second z → count_of z ≤ record_limit → pool_of z ≤ pool_limit
      → room < length_of z
      → MergeRefuses q room (neither OutputTooShort (length_of z))

-- one merge of a list: document 01, 'The merges of demand 3': "Each merge is lent the carried table alone .. as first or second; the other table is any bytes .. It is refused exactly when the rules of
-- merging say so, and then table and sum stay. Otherwise the table written .. is the carried one from there on; where the carried table was second, the sum grows by the record shift reported, which is the
-- first table's count less 1"
pub data StepIs (s : MergeStep) (c : Carried) : Carried → Type 0 where
  first_refused : {r : MergeRefusal} → s.carried_first ≡ true
      → MergeRefuses (request c.table s.other s.little) (length s.out) r → StepIs s c c
  second_refused : {r : MergeRefusal} → s.carried_first ≡ false
      → MergeRefuses (request s.other c.table s.little) (length s.out) r → StepIs s c c
  as_first : {z : Sizes} {m : MergeReport} {joined : List ℕ}
      → s.carried_first ≡ true
      → Merges (request c.table s.other s.little) (length s.out) z m
      → IsMerged c.table s.other s.little z joined
      → StepIs s c (carried joined c.sum)
  as_second : {z : Sizes} {m : MergeReport} {joined : List ℕ}
      → s.carried_first ≡ false
      → Merges (request s.other c.table s.little) (length s.out) z m
      → IsMerged s.other c.table s.little z joined
      → StepIs s c (carried joined (c.sum + (z.count₁ - 1)))
