-- The tape: a data text's members as rows of numbers, in text order, for a judge that never reads the text's structure again. Each member is a row; behind a row come the rows of
-- what is inside it, and then the row of the next member of its block. Assumes nothing.
use Rattle.std.specs.Prelude.{◌≡◌, cond, List, [], ◌∷◌, ◌++◌, ℕ, zero, suc, ◌+◌, ◌-◌, ◌<◌, eqb, get_or, take, drop}
use Rattle.std.specs.Prelude.{Option, None, Some}
use Rattle.lexis.specs.Runs.{part}
use Rattle.meaning.specs.Data.{datum, Members, member}
use Rattle.meaning.specs.Data
use Rattle.dadl.specs.Placed.{Span, Block, block, Entries, no_more, entry, PlacedContent, string, word, inside}

-- numbers of a row: 0 what the member holds, 1 and 2 its name, 3 the place of its `<`, 4 and 5 its type (0 where it has none), 6 and 7 its string or word, or 0 and the number of rows
-- inside it, 8 the row of the next member of its block, 0 where there is none
abbrev pub row_size : ℕ
row_size = 9

-- what a member holds
abbrev pub is_block : ℕ
is_block = 0

abbrev pub is_string : ℕ
is_string = 1

abbrev pub is_word : ℕ
is_word = 2

-- how many rows there are
unfoldable mutual
  pub block_rows : Block → ℕ
  block_rows (block p t ms) = entry_rows ms

  pub entry_rows : Entries → ℕ
  entry_rows no_more = 0
  entry_rows (entry w c more) = suc (content_rows c + entry_rows more)

  pub content_rows : PlacedContent → ℕ
  content_rows (string p x) = 0
  content_rows (word p x) = 0
  content_rows (inside b) = block_rows b

-- the row of what follows, 0 where nothing does
abbrev pub next_row : ℕ → Entries → ℕ
next_row n no_more = 0
next_row n (entry w c more) = n

abbrev pub type_start : Option Span → ℕ
type_start None = 0
type_start (Some x) = x.start

abbrev pub type_end : Option Span → ℕ
type_end None = 0
type_end (Some x) = x.end

-- the row of a member
abbrev pub tape_row_of : Span → PlacedContent → ℕ → List ℕ
tape_row_of w (string p x) next = is_string ∷ w.start ∷ w.end ∷ p ∷ 0 ∷ 0 ∷ x.start ∷ x.end ∷ next ∷ []
tape_row_of w (word p x) next = is_word ∷ w.start ∷ w.end ∷ p ∷ 0 ∷ 0 ∷ x.start ∷ x.end ∷ next ∷ []
tape_row_of w (inside (block p t ms)) next =
    is_block ∷ w.start ∷ w.end ∷ p ∷ type_start t ∷ type_end t ∷ 0 ∷ entry_rows ms ∷ next ∷ []

-- the rows of members, the first of which has number n
unfoldable mutual
  pub block_tape : Block → ℕ → List ℕ
  block_tape (block p t ms) n = entries_tape ms n

  pub entries_tape : Entries → ℕ → List ℕ
  entries_tape no_more n = []
  entries_tape (entry w c more) n =
      tape_row_of w c (next_row (n + 1 + content_rows c) more)
      ++ (content_tape c (n + 1) ++ entries_tape more (n + 1 + content_rows c))

  pub content_tape : PlacedContent → ℕ → List ℕ
  content_tape (string p x) n = []
  content_tape (word p x) n = []
  content_tape (inside b) n = block_tape b n

-- back from a tape: its rows, so many
abbrev pub rows_of : ℕ → List ℕ → List (List ℕ)
rows_of zero xs = []
rows_of (suc n) xs = take row_size xs ∷ rows_of n (drop row_size xs)

abbrev pub row_number : List ℕ → ℕ → ℕ
row_number row i = get_or row i 0

-- a row whose member holds a block, and one whose member holds a string or a word
abbrev pub HoldsBlock : List ℕ → Type 0
HoldsBlock row = row_number row 0 ≡ is_block

abbrev pub HoldsLeaf : List ℕ → Type 0
HoldsLeaf row = is_block < row_number row 0

-- the members that a step up leads to, of those that the rows above stand for
abbrev pub reach_members : List Members → ℕ → Members
reach_members above k = get_or (Data.no_more ∷ above) k Data.no_more

abbrev pub type_in : List ℕ → List ℕ → Option (List ℕ)
type_in s row = cond (eqb (row_number row 5) 0) None (Some (part s (row_number row 4) (row_number row 5)))

-- what a row's member holds, given the members inside it
abbrev pub content_in : List ℕ → List ℕ → Members → Data.Content
content_in s row ms =
    cond (eqb (row_number row 0) is_block) (Data.block (datum (row_number row 3) (type_in s row) ms))
    (cond (eqb (row_number row 0) is_string) (Data.string (row_number row 3) (part s (row_number row 6) (row_number row 7)))
    (Data.word (row_number row 3) (part s (row_number row 6) (row_number row 7))))

-- the row with number n, and the members of its block from there on
abbrev pub members_by : List ℕ → ℕ → List ℕ → List Members → Members
members_by s n row above =
    member (part s (row_number row 1) (row_number row 2))
    (content_in s row (reach_members above (cond (eqb (row_number row 7) 0) 0 1)))
    (reach_members above (row_number row 8 - n))

abbrev pub members_of : List ℕ → ℕ → List (List ℕ) → List Members
members_of s n [] = []
members_of s n (row ∷ rows) = let above = members_of s (n + 1) rows in members_by s n row above ∷ above

-- the members from a row on; none where the number is that of no row
unfoldable pub members_at : List ℕ → ℕ → List ℕ → ℕ → Members
members_at s count tape n = get_or (members_of s 0 (rows_of count tape)) n Data.no_more
