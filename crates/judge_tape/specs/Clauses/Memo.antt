-- The memo of a walk: a bit for each pair of a row and a record. Of a block and an attribute it is set where the attributes from that one on are known to admit the block, of a
-- string or word and an item where the items from that one on are known to admit it. Assumes nothing.
use Rattle.std.specs.Prelude.{◌≡◌, Bool, true, false, not, cond, ◌&&◌, ◌||◌, List, ℕ, zero, suc, ◌+◌, ◌*◌, ◌-◌, ◌/◌, ◌%◌, ◌^◌, ◌≤◌, ◌<◌, eqb, length, get_or, set}
use Rattle.lexis.specs.Runs.{part}
use Rattle.meaning.specs.Verdicts.{valid}
use Rattle.meaning.specs.Findings.{admitted}
use Rattle.meaning.specs.Judging.{judge_attributes}
use Rattle.dadl.specs.Clauses.Tape.{is_string, row_number, HoldsBlock, HoldsLeaf}
use Rattle.dadl.specs.Clauses.Rows.{row_at}
use Rattle.table.specs.Records.{Record, Image, record_size, field, record_in}
use Rattle.table.specs.Rows.{shape_of, is_listed}
use Rattle.table.specs.Trees.{attributes_in, tree_at}
use Rattle.judge_admission.specs.Clauses.Items.{record_leaf, Lies, image_from, TableGood}
use Rattle.judge_admission.specs.Clauses.Answers.{finding_under, item_admits}
use Rattle.judge_tape.specs.Clauses.Rows.{members_on, block_on}
use Rattle.judge_tape.specs.declared.members.Block.{Block}
use Rattle.judge_tape.specs.declared.memo.Visit.{Visit}

-- bit k of a byte, and the byte with it set
abbrev pub bit_of : ℕ → ℕ → Bool
bit_of b k = eqb (b / 2 ^ k % 2) 1

abbrev pub with_bit : ℕ → ℕ → ℕ
with_bit b k = cond (bit_of b k) b (b + 2 ^ k)

-- the bit with a number is set; none is behind the memo's end
unfoldable pub marked : List ℕ → ℕ → Bool
marked memo i = bit_of (get_or memo (i / 8) 0) (i % 8)

-- the memo with the bit with a number set, if it is not behind the end
unfoldable pub mark_bit : List ℕ → ℕ → List ℕ
mark_bit memo i = set memo (i / 8) (with_bit (get_or memo (i / 8) 0) (i % 8))

-- no bit is set
pub record NoBit (memo : List ℕ) : Type 0 where
  pub none : (i : ℕ) → marked memo i ≡ false

-- a visit is left, or there is a memo of so many bytes
unfoldable pub may_visit : ℕ → ℕ → Bool
may_visit room left = cond (eqb left 0) (not (eqb room 0)) true

-- that bit is set, if it is not behind the end, and every other is as before
pub record Marks (before : List ℕ) (i : ℕ) (after : List ℕ) : Type 0 where
  pub set : i / 8 < length before → marked after i ≡ true
  pub other : (j : ℕ) → (j ≡ i → ⊥) → marked after j ≡ marked before j

-- the number of records; the first bit of a block, behind which those of its pairs stand
abbrev pub record_count : List ℕ → ℕ
record_count records = length records / record_size

abbrev pub base_of : List ℕ → Block → ℕ
base_of records b = b.first * record_count records

-- the block of a row whose first bit is set was judged before
unfoldable pub seen_before : List ℕ → List ℕ → Block → Bool
seen_before records memo b = not (eqb b.first 0) && marked memo (base_of records b)

-- a visit of a block, at its base; only a block of a row was judged before
pub record VisitOf (records : List ℕ) (b : Block) (v : Visit) : Type 0 where
  pub base : v.base ≡ base_of records b
  pub small : v.base ≤ 8_388_608
  pub again : v.again ≡ true → 0 < b.first

-- no attribute is left, or those from n on are known to admit the block
abbrev pub admitted_in : List ℕ → Visit → ℕ → Bool
admitted_in memo v n = eqb n 0 || (v.again && marked memo (v.base + n))

-- the memo with the attributes from n on marked, up to the first that is admitted; `fuel` bounds how many
unfoldable pub mark_along : List ℕ → Visit → ℕ → ℕ → List ℕ → List ℕ
mark_along records v zero n memo = memo
mark_along records v (suc fuel) n memo =
    cond (admitted_in memo v n) memo
    (mark_along records v fuel (field (record_in records n) 3) (mark_bit memo (v.base + n)))

-- the same on a later visit of the block; on its first, the memo as before
abbrev pub mark_chain : List ℕ → Visit → ℕ → List ℕ → List ℕ
mark_chain records v n memo = cond v.again (mark_along records v (record_count records) n memo) memo

-- attribute k is on the chain from attribute n on
pub data OnChain (records : List ℕ) (k : ℕ) : ℕ → Type 0 where
  here : 0 < k → OnChain records k k
  later : (n : ℕ) → 0 < n → OnChain records k (field (record_in records n) 3) → OnChain records k n

-- the attributes from n on lie among the records, and each leads to none or up
pub record ChainGood (records : List ℕ) (n : ℕ) : Type 0 where
  pub lies : (k : ℕ) → OnChain records k n → Lies records k
  pub up : (k : ℕ) → OnChain records k n → 0 < field (record_in records k) 3 → k < field (record_in records k) 3

-- a bit that is set was set before, or is that of an attribute on the chain from n on
pub data Marking (records before : List ℕ) (base n j : ℕ) : Type 0 where
  before : marked before j ≡ true → Marking records before base n j
  new : (k : ℕ) → OnChain records k n → j ≡ base + k → Marking records before base n j

pub record ChainMarked (records before : List ℕ) (base n : ℕ) (after : List ℕ) : Type 0 where
  pub each : (j : ℕ) → marked after j ≡ true → Marking records before base n j

-- the attributes from n on admit the block
abbrev pub BlockAdmitted : Image → List ℕ → ℕ → List ℕ → Block → ℕ → Type 0
BlockAdmitted m s rows tape b n =
    judge_attributes (attributes_in (tree_at m n)) b.place (members_on s rows tape b) ≡ valid

-- the items from n on admit a value
abbrev pub ValueAdmitted : List ℕ → List ℕ → ℕ → Bool → List ℕ → Type 0
ValueAdmitted records pool n is_string w = finding_under (record_leaf records pool n) is_string w ≡ admitted

-- they admit the string or word of a row
abbrev pub RowAdmits : List ℕ → List ℕ → List ℕ → List ℕ → ℕ → ℕ → Type 0
RowAdmits records pool s tape row n =
    let r = row_at tape row in
    ValueAdmitted records pool n (eqb (row_number r 0) is_string) (part s (row_number r 6) (row_number r 7))

-- an item admits a value by itself, or the item next to it is marked
abbrev pub leads_in : List ℕ → List ℕ → ℕ → Record → Bool → List ℕ → Bool
leads_in pool memo base r is_string w =
    item_admits pool r is_string w || (not (eqb (field r 4) 0) && marked memo (base + field r 4))

-- the memo with item n marked, where it is an item of a list and those from it on are known to admit a value
unfoldable pub mark_item : List ℕ → List ℕ → ℕ → Bool → List ℕ → ℕ → List ℕ → List ℕ
mark_item records pool base is_string w n memo =
    let r = record_in records n in
    cond (is_listed (shape_of r.kind) && leads_in pool memo base r is_string w) (mark_bit memo (base + n)) memo

-- the memo with items n to 1 marked so, the last first
unfoldable pub mark_items : List ℕ → List ℕ → ℕ → Bool → List ℕ → ℕ → List ℕ → List ℕ
mark_items records pool base is_string w zero memo = memo
mark_items records pool base is_string w (suc n) memo =
    mark_items records pool base is_string w n (mark_item records pool base is_string w (suc n) memo)

-- the memo with the items of the string or word of a row marked, and the row's own bit, where it was not set before
unfoldable pub enter_leaf : List ℕ → List ℕ → List ℕ → List ℕ → ℕ → List ℕ → List ℕ
enter_leaf records pool s tape row memo =
    let base = (row + 1) * record_count records in
    let r = row_at tape row in
    let all = mark_items records pool base (eqb (row_number r 0) is_string) (part s (row_number r 6) (row_number r 7))
    (record_count records - 1) (mark_bit memo base) in
    cond (marked memo base) memo all

-- whether the memo then knows that the items from n on admit it
abbrev pub known_in : List ℕ → List ℕ → List ℕ → List ℕ → ℕ → ℕ → List ℕ → Bool
known_in records pool s tape row n memo =
    marked (enter_leaf records pool s tape row memo) ((row + 1) * record_count records + n)

-- what marking the items of a row asks: the bits from `base` on tell the truth of its value
pub record Listing (records pool memo : List ℕ) (base : ℕ) (is_string : Bool) (w : List ℕ) : Type 0 where
  pub checked : TableGood records pool
  pub near : base ≤ 8_388_608
  pub admits : (n : ℕ) → 0 < n → n < record_count records → marked memo (base + n) ≡ true
      → ValueAdmitted records pool n is_string w

-- a bit that is set was set before, or is that of a record, from `base` on
pub data OfItems (count : ℕ) (before : List ℕ) (base j : ℕ) : Type 0 where
  old : marked before j ≡ true → OfItems count before base j
  item : (k : ℕ) → k < count → j ≡ base + k → OfItems count before base j

pub record ItemsMarked (records pool before : List ℕ) (base : ℕ) (is_string : Bool) (w after : List ℕ) : Type 0 where
  pub listing : Listing records pool after base is_string w
  pub each : (j : ℕ) → marked after j ≡ true → OfItems (record_count records) before base j

-- a memo that tells the truth of each row
pub record MemoGood (records pool s tape : List ℕ) (rows : ℕ) (memo : List ℕ) : Type 0 where
  pub admits : (row n : ℕ) → HoldsBlock (row_at tape row) → 0 < n → n < record_count records
      → marked memo ((row + 1) * record_count records + n) ≡ true
      → BlockAdmitted (image_from records pool) s rows tape (block_on tape row) n
  pub leaves : (row n : ℕ) → HoldsLeaf (row_at tape row) → 0 < n → n < record_count records
      → marked memo ((row + 1) * record_count records + n) ≡ true → RowAdmits records pool s tape row n

-- what the memo knows of the string or word of a row and the items from n on
pub record KnownIs (records pool s tape : List ℕ) (row n : ℕ) (r : Bool) : Type 0 where
  pub admits : r ≡ true → RowAdmits records pool s tape row n
