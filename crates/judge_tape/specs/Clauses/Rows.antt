-- The rows of a tape as the walk meets them: what they hold, what a search among them finds, and what a walk relies on. Assumes nothing.
use Rattle.std.specs.Prelude.{⊤, ◌≡◌, cond, List, ℕ, zero, suc, ◌+◌, ◌-◌, ◌≤◌, ◌<◌, eqb, length}
use Rattle.std.specs.Prelude.{Option, None, Some, option_map as map}
use Rattle.lexis.specs.Runs.{part, same}
use Rattle.meaning.specs.Data.{Datum, datum, Members, member, Content, string, word}
use Rattle.meaning.specs.Data
use Rattle.dadl.specs.declared.tokens.Part.{Part}
use Rattle.dadl.specs.Clauses.Tape.{row_number, content_in, HoldsBlock, HoldsLeaf}
use Rattle.dadl.specs.Clauses.Rows.{row_at, TapeGood, linked}
use Rattle.judge_admission.specs.Clauses.Items.{TableGood}
use Rattle.judge_tape.specs.declared.members.Block.{Block}

-- the type between two places, none where the second is 0
abbrev pub type_at : ℕ → ℕ → Option Part
type_at start end = cond (eqb end 0) None (Some (record { start = start; end = end }))

-- a type as a text spells it, if there is one
abbrev pub type_on : List ℕ → Option Part → Option (List ℕ)
type_on s t = map (λ (p : Part). part s p.start p.end) t

-- a type, if there is one, lies in a text of a size
abbrev pub TypeGood : ℕ → Option Part → Type 0
TypeGood size None = ⊤
TypeGood size (Some p) = (p.start ≤ p.end) × (p.end ≤ size)

module _ (s : List ℕ) (rows : ℕ) (tape : List ℕ) where
  -- what the member of a row holds
  abbrev pub content_on : ℕ → Content
  content_on n = content_in s (row_at tape n) (linked s rows tape (row_number (row_at tape n) 7) (n + 1))

  -- the members of a block, and the block
  abbrev pub members_on : Block → Members
  members_on b = linked s rows tape b.inside b.first

  abbrev pub datum_on : Block → Datum
  datum_on b = datum b.place (type_on s b.type_name) (members_on b)

-- the row of the first member with a name, of the members from row n on, from link to link; `fuel` bounds how many
unfoldable pub row_from : List ℕ → List ℕ → List ℕ → ℕ → ℕ → Option ℕ
row_from s tape name zero n = None
row_from s tape name (suc fuel) n =
    let row = row_at tape n in
    let more = row_from s tape name fuel (row_number row 8) in
    cond (same name (part s (row_number row 1) (row_number row 2))) (Some n) (cond (eqb (row_number row 8) 0) None more)

-- the row of the member with a name among those from row `first` on, none where `inside` is 0
abbrev pub member_row : (s tape : List ℕ) (rows first inside : ℕ) → List ℕ → Option ℕ
member_row s tape rows first inside name = cond (eqb inside 0) None (row_from s tape name rows first)

-- rows of members from `first` on, if there are any, are on the tape
pub record Begins (rows first inside : ℕ) : Type 0 where
  pub there : 0 < inside → first < rows

-- a block's type lies in a text of a size, and its members on the tape
pub record BlockGood (size rows : ℕ) (b : Block) : Type 0 where
  pub lies : TypeGood size b.type_name
  pub begins : Begins rows b.first b.inside

-- a row of the tape that holds a string or a word
pub record LeafRow (rows : ℕ) (tape : List ℕ) (n : ℕ) : Type 0 where
  pub there : n < rows
  pub leaf : HoldsLeaf (row_at tape n)

-- the block of a row
abbrev pub block_on : List ℕ → ℕ → Block
block_on tape n =
    let row = row_at tape n in
    record {
      place = row_number row 3;
      type_name = type_at (row_number row 4) (row_number row 5);
      first = n + 1;
      inside = row_number row 7;
    }

-- a block whose first row tells which row's it is, and the row holds a block; the outermost block's is 0
pub record OfRow (rows : ℕ) (tape : List ℕ) (b : Block) : Type 0 where
  pub there : b.first ≤ rows
  pub holds : 0 < b.first → HoldsBlock (row_at tape (b.first - 1))
  pub is : 0 < b.first → b ≡ block_on tape (b.first - 1)

-- a datum has at most so many levels of blocks
unfoldable mutual
  pub DatumWithin : Datum → ℕ → Type 0
  DatumWithin (datum p t ms) zero = ⊥
  DatumWithin (datum p t ms) (suc levels) = MembersWithin ms levels

  pub MembersWithin : Members → ℕ → Type 0
  MembersWithin Data.no_more levels = Unit {0}
  MembersWithin (member w c more) levels = ContentWithin c levels × MembersWithin more levels

  pub ContentWithin : Content → ℕ → Type 0
  ContentWithin (string p w) levels = Unit {0}
  ContentWithin (word p w) levels = Unit {0}
  ContentWithin (Data.block d) levels = DatumWithin d levels

-- a table and a tape that can be walked
pub record Walk (records pool s tape : List ℕ) (rows : ℕ) : Type 0 where
  pub checked : TableGood records pool
  pub good : TapeGood (length s) rows tape
  pub few : rows ≤ 4_096
