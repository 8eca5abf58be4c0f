-- What a judge that walks a tape relies on: where the numbers of its rows lie. Assumes nothing.
use Rattle.std.specs.Prelude.{cond, List, ℕ, ◌+◌, ◌*◌, ◌≤◌, ◌<◌, eqb, length, take, drop}
use Rattle.lexis.specs.Runs.{part}
use Rattle.meaning.specs.Data.{Members, member}
use Rattle.meaning.specs.Data
use Rattle.dadl.specs.Clauses.Tape.{row_size, is_word, row_number, content_in, members_at, HoldsBlock, HoldsLeaf}

-- the row of a tape with number n
abbrev pub row_at : List ℕ → ℕ → List ℕ
row_at tape n = take row_size (drop (row_size * n) tape)

-- row n of so many rows, for a text of a size: its spans lie in the text, its links lead to higher rows
pub record RowGood (size count n : ℕ) (row : List ℕ) : Type 0 where
  pub holds : row_number row 0 ≤ is_word
  pub name_start : row_number row 1 < row_number row 2
  pub name_end : row_number row 2 ≤ size
  pub place : row_number row 3 < size
  pub type_start : row_number row 4 ≤ row_number row 5
  pub type_end : row_number row 5 ≤ size
  pub value : HoldsLeaf row → (row_number row 6 ≤ row_number row 7) × (row_number row 7 ≤ size)
  pub inside : HoldsBlock row → 0 < row_number row 7 → n + 1 < count
  pub next : 0 < row_number row 8 → (n < row_number row 8) × (row_number row 8 < count)

-- a tape of so many good rows
pub record TapeGood (size count : ℕ) (tape : List ℕ) : Type 0 where
  pub rows : (n : ℕ) → n < count → RowGood size count n (row_at tape n)
  pub room : row_size * count ≤ length tape

-- the members from row n on; none where the number tested is 0
abbrev pub linked : List ℕ → ℕ → List ℕ → ℕ → ℕ → Members
linked s count tape test n = cond (eqb test 0) Data.no_more (members_at s count tape n)

-- the member of a row with number n and those behind it, as a walker meets them
abbrev pub walked : List ℕ → ℕ → List ℕ → ℕ → List ℕ → Members
walked s count tape n row =
    member (part s (row_number row 1) (row_number row 2))
    (content_in s row (linked s count tape (row_number row 7) (n + 1)))
    (linked s count tape (row_number row 8) (row_number row 8))
