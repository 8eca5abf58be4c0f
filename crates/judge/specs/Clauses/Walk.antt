-- Walking a tape by a table: what judging a block relies on. Assumes nothing.
use Rattle.std.specs.Prelude.{◌≡◌, List, ℕ, ◌+◌, ◌*◌, ◌≤◌, length}
use Rattle.refusals.specs.Limits.{text_limit}
use Rattle.dadl.specs.Clauses.Tape.{row_size}
use Rattle.table.specs.Check.{kind_at}
use Rattle.judge_admission.specs.Clauses.Items.{image_from}
use Rattle.judge_tape.specs.declared.members.Block.{Block}
use Rattle.judge_tape.specs.Clauses.Rows.{datum_on, BlockGood, OfRow, DatumWithin, Walk}

-- a tape of so many numbers, which are not too many, has room for the rows of a text that is not too long
pub record Roomy (s : List ℕ) (room : ℕ) : Type 0 where
  pub enough : length s ≤ text_limit → row_size * (length s + 20) ≤ 4 * room
  pub few : room ≤ 65_536

-- what judging a block asks: the object's number is one's, and the block is within the levels left
pub record Under (records pool s tape : List ℕ) (rows levels object : ℕ) (b : Block) : Type 0 where
  pub walk : Walk records pool s tape rows
  pub kind : kind_at (image_from records pool) object ≡ 1
  pub good : BlockGood (length s) rows b
  pub row : OfRow rows tape b
  pub within : DatumWithin (datum_on s rows tape b) levels
