-- Tapes that a judge may walk: a walker's step on a good tape; the tape of members that lie in a text is good, and its numbers are small. Assumes nothing.
use mathlib.Core.Path.{◌≡◌}
use Rattle.std.specs.Prelude.{Option, None, Some}
use mathlib.Core.List.{List, [], ◌∷◌, ◌++◌}
use Prim.Native.Nat.{ℕ, suc, ◌+◌, ◌≤◌, ◌<◌}
use native.Mathlib.Omega.{arith}
use native.Mathlib.Decide.{dec_le}
use lib.ListN.{length-append}
use Rattle.dadl.specs.Placed.{Span, Block, block, Entries, no_more, entry, PlacedContent, string, word, inside}
use Rattle.dadl.specs.Clauses.Tape.{is_string, is_word, block_rows, entry_rows, content_rows, next_row, type_start, type_end, tape_row_of, block_tape, entries_tape, content_tape, members_at}
use Rattle.dadl.specs.Clauses.Rows.{row_at, RowGood, TapeGood, walked}
use Rattle.dadl.proofs.TapeLaws.{EachBlock, EachEntry, EachContent, each_entry, TypeEnded, Ended, At, at_start, row_there, inside_there, more_there, next_within, entries_length, members_step}

-- a walker's step on a good tape
pub good_step : (s : List ℕ) (size count : ℕ) (tape : List ℕ) (n : ℕ) → TapeGood size count tape → n < count
    → members_at s count tape n ≡ walked s count tape n (row_at tape n)
good_step s size count tape n g h = members_step s count tape n h (λ k. ((g.rows n h).next k).0)

-- a type, a block's `<` and type, a member's content and a member lie in a text of a size
abbrev pub TypeLies : ℕ → Option Span → Type 0
TypeLies size None = Unit {0}
TypeLies size (Some x) = (x.start < x.end) × (x.end ≤ size)

abbrev pub BlockLies : ℕ → Block → Type 0
BlockLies size (block p t ms) = (p < size) × TypeLies size t

abbrev pub ContentLies : ℕ → PlacedContent → Type 0
ContentLies size (string p x) = (p < size) × (x.start ≤ x.end) × (x.end ≤ size)
ContentLies size (word p x) = (p < size) × (x.start ≤ x.end) × (x.end ≤ size)
ContentLies size (inside b) = BlockLies size b

abbrev pub Lies : ℕ → Span → PlacedContent → Type 0
Lies size w c = (w.start < w.end) × (w.end ≤ size) × ContentLies size c

-- a type that lies in a text ends behind place 0
type_ended : (size : ℕ) (t : Option Span) → TypeLies size t → TypeEnded t
type_ended size None h = tt
type_ended size (Some x) h = omega arith

-- the type of a member that lies in it does
lies_ended : (size : ℕ) (w : Span) (c : PlacedContent) → Lies size w c → Ended w c
lies_ended size w (string p x) h = tt
lies_ended size w (word p x) h = tt
lies_ended size w (inside (block p t ms)) h = type_ended size t h.2.1

-- the types of all members that lie in it do
pub each_ended : (size : ℕ) (ms : Entries) → EachEntry ms (Lies size) → EachEntry ms Ended
each_ended size ms h = each_entry ms (Lies size) Ended (lies_ended size) h

-- a row's numbers for a type that lies in the text are in order and in the text
type_order : (size : ℕ) (t : Option Span) → TypeLies size t → (type_start t ≤ type_end t) × (type_end t ≤ size)
type_order size None h = (omega arith, omega arith)
type_order size (Some x) h = (omega arith, omega arith)

-- the row of a string or a word that lies in the text is good
leaf-good : (size count n kind : ℕ) (w x : Span) (p next : ℕ) → 0 < kind → kind ≤ is_word
    → (w.start < w.end) × (w.end ≤ size) × ((p < size) × (x.start ≤ x.end) × (x.end ≤ size))
    → (0 < next → (n < next) × (next < count))
    → RowGood size count n (kind ∷ w.start ∷ w.end ∷ p ∷ 0 ∷ 0 ∷ x.start ∷ x.end ∷ next ∷ [])
leaf-good size count n kind w x p next a b h k = record {
  holds = b;
  name_start = h.0;
  name_end = h.1;
  place = h.2.0;
  type_start = omega arith;
  type_end = omega arith;
  value = λ z. (h.2.1, h.2.2);
  inside = λ z y. absurd (omega arith);
  next = k;
}

-- the row of any member that lies in the text is good
row-good : (size count n : ℕ) (w : Span) (c : PlacedContent) (next : ℕ) → Lies size w c → n + 1 + content_rows c ≤ count
    → (0 < next → (n < next) × (next < count)) → RowGood size count n (tape_row_of w c next)
unfolding content_rows block_rows
row-good size count n w (string p x) next h l k = leaf-good size count n is_string w x p next (omega arith) (omega arith) h k
row-good size count n w (word p x) next h l k = leaf-good size count n is_word w x p next (omega arith) (omega arith) h k
row-good size count n w (inside (block p t ms)) next h l k =
    let o = type_order size t h.2.1 in
    record {
      holds = omega arith;
      name_start = h.0;
      name_end = h.1;
      place = h.2.0;
      type_start = o.0;
      type_end = o.1;
      value = λ z. absurd (omega arith);
      inside = λ z y. omega arith;
      next = k;
    }

-- what holds of the first row, of the rows inside it and of those behind it holds of each
by_place : (P : ℕ → Type 0) (n a b k : ℕ) → P n → (n + 1 ≤ k → k < n + 1 + a → P k)
    → (n + 1 + a ≤ k → k < n + 1 + a + b → P k) → n ≤ k → k < n + suc (a + b) → P k
by_place P n a b k here within behind h l = first (dec_le k n)
  where
    second : n + 1 ≤ k → Dec (n + 1 + a ≤ k) → P k
    second g (yes f) = behind f (omega arith)
    second g (no f) = within g (omega arith)

    first : Dec (k ≤ n) → P k
    first (yes f) = let e : n ≡ k = omega arith in rw e at here
    first (no f) = second (omega arith) (dec_le (n + 1 + a) k)

module _ (size count : ℕ) (tape : List ℕ) where
  mutual
    unfolding EachBlock EachEntry EachContent block_rows entry_rows content_rows block_tape content_tape

    -- the rows of members that stand from row n on are good
    block_good : (b : Block) (n k : ℕ) → EachBlock b (Lies size) → At tape n (block_tape b n) → n + block_rows b ≤ count
        → n ≤ k → k < n + block_rows b → RowGood size count k (row_at tape k)
    block_good (block p t ms) n k h a l f g = entries_good ms n k h a l f g

    pub entries_good : (ms : Entries) (n k : ℕ) → EachEntry ms (Lies size) → At tape n (entries_tape ms n)
        → n + entry_rows ms ≤ count → n ≤ k → k < n + entry_rows ms → RowGood size count k (row_at tape k)
    entries_good no_more n k h a l f g = absurd (omega arith)
    entries_good (entry w c more) n k h a l f g =
        let m = n + 1 + content_rows c in
        by_place (λ i. RowGood size count i (row_at tape i)) n (content_rows c) (entry_rows more) k
        (rw (row_there w c more n a) (row-good size count n w c (next_row m more) h.0 (omega arith) (next_within more n m count (omega arith) (omega arith))))
        (λ x y. content_good c (n + 1) k h.1 (inside_there w c more n a) (omega arith) x y)
        (λ x y. entries_good more m k h.2 (more_there w c more n a) (omega arith) x y)
        f g

    content_good : (c : PlacedContent) (n k : ℕ) → EachContent c (Lies size) → At tape n (content_tape c n)
        → n + content_rows c ≤ count → n ≤ k → k < n + content_rows c → RowGood size count k (row_at tape k)
    content_good (string p x) n k h a l f g = absurd (omega arith)
    content_good (word p x) n k h a l f g = absurd (omega arith)
    content_good (inside b) n k h a l f g = block_good b n k h a l f g

-- the tape of members that lie in the text is good, whatever stands behind it
pub tape_good : (size : ℕ) (ms : Entries) (rest : List ℕ) → EachEntry ms (Lies size)
    → TapeGood size (entry_rows ms) (entries_tape ms 0 ++ rest)
tape_good size ms rest h =
    let tape = entries_tape ms 0 ++ rest in
    record {
      rows = λ k l. entries_good size (entry_rows ms) tape ms 0 k h (at_start (entries_tape ms 0) rest) (omega arith) (omega arith) (omega arith);
      room = omega (arith, length-append (entries_tape ms 0) rest, entries_length ms 0);
    }
