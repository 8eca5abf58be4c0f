-- The tape of a tree's members: its length, how a walker meets its rows, and that the members are read back from it. Assumes nothing.
use mathlib.Core.Path.{◌≡◌, refl, ap, ◌∙◌}
use mathlib.Core.Bool.{Bool, true, false, cond}
use Rattle.std.specs.Prelude.{Option, None, Some, option_map as map}
use mathlib.Core.List.{List, ◌++◌, append_assoc}
use Prim.Native.Nat.{ℕ, zero, suc, ◌+◌, ◌*◌, ◌-◌, ◌≤◌, ◌<◌}
use native.Mathlib.Omega.{arith}
use lib.Dec.{eqb, eqb-suc-zero}
use lib.ListN.{length, length-append, get_or, drop}
use lib.Seq.{get_or-drop, get_or-take, drop-drop, drop_at, take_at}
use borrow.Author.Tests.{ne_eqb}
use Rattle.lexis.specs.Runs.{part}
use Rattle.meaning.specs.Data.{Members, datum, member}
use Rattle.meaning.specs.Data
use Rattle.dadl.specs.Placed.{Span, Block, block, Entries, no_more, entry, PlacedContent, string, word, inside, spelled_span, spelled_block, spelled_entries, spelled_content}
use Rattle.dadl.specs.Clauses.Tape.{row_size, block_rows, entry_rows, content_rows, next_row, type_start, type_end, tape_row_of, block_tape, entries_tape, content_tape, rows_of, row_number, reach_members, content_in, members_by, members_of, members_at}
use Rattle.dadl.specs.Clauses.Rows.{row_at, linked, walked}

-- a property of every member, those inside others among them
unfoldable mutual
  pub EachBlock : Block → (Span → PlacedContent → Type 0) → Type 0
  EachBlock (block p t ms) P = EachEntry ms P

  pub EachEntry : Entries → (Span → PlacedContent → Type 0) → Type 0
  EachEntry no_more P = Unit {0}
  EachEntry (entry w c more) P = P w c × EachContent c P × EachEntry more P

  pub EachContent : PlacedContent → (Span → PlacedContent → Type 0) → Type 0
  EachContent (string p x) P = Unit {0}
  EachContent (word p x) P = Unit {0}
  EachContent (inside b) P = EachBlock b P

-- what follows from a property follows of every member
mutual
  unfolding EachBlock EachEntry EachContent

  each_block : (b : Block) (P Q : Span → PlacedContent → Type 0) → ((w : Span) (c : PlacedContent) → P w c → Q w c)
      → EachBlock b P → EachBlock b Q
  each_block (block p t ms) P Q f h = each_entry ms P Q f h

  pub each_entry : (ms : Entries) (P Q : Span → PlacedContent → Type 0)
      → ((w : Span) (c : PlacedContent) → P w c → Q w c) → EachEntry ms P → EachEntry ms Q
  each_entry no_more P Q f h = tt
  each_entry (entry w c more) P Q f h = (f w c h.0, each_content c P Q f h.1, each_entry more P Q f h.2)

  each_content : (c : PlacedContent) (P Q : Span → PlacedContent → Type 0)
      → ((w : Span) (c : PlacedContent) → P w c → Q w c) → EachContent c P → EachContent c Q
  each_content (string p x) P Q f h = tt
  each_content (word p x) P Q f h = tt
  each_content (inside b) P Q f h = each_block b P Q f h

-- a type, where there is one, ends behind place 0
abbrev pub TypeEnded : Option Span → Type 0
TypeEnded None = Unit {0}
TypeEnded (Some x) = 0 < x.end

-- the type of a member's block does
abbrev pub Ended : Span → PlacedContent → Type 0
Ended w (string p x) = Unit {0}
Ended w (word p x) = Unit {0}
Ended w (inside (block p t ms)) = TypeEnded t

-- a row has nine numbers
pub row-length : (w : Span) (c : PlacedContent) (next : ℕ) → length (tape_row_of w c next) ≡ row_size
row-length w (string p x) next = refl
row-length w (word p x) next = refl
row-length w (inside (block p t ms)) next = refl

-- a row's numbers 1, 2 and 8 are the name and the next row
pub row-numbers : (w : Span) (c : PlacedContent) (next : ℕ)
    → (row_number (tape_row_of w c next) 1 ≡ w.start) × (row_number (tape_row_of w c next) 2 ≡ w.end)
    × (row_number (tape_row_of w c next) 8 ≡ next)
row-numbers w (string p x) next = (refl, refl, refl)
row-numbers w (word p x) next = (refl, refl, refl)
row-numbers w (inside (block p t ms)) next = (refl, refl, refl)

-- the tape of members has nine numbers for each row
mutual
  unfolding block_rows entry_rows content_rows block_tape entries_tape content_tape

  block_length : (b : Block) (n : ℕ) → length (block_tape b n) ≡ row_size * block_rows b
  block_length (block p t ms) n = entries_length ms n

  pub entries_length : (ms : Entries) (n : ℕ) → length (entries_tape ms n) ≡ row_size * entry_rows ms
  entries_length no_more n = refl
  entries_length (entry w c more) n =
      let a = row-length w c (next_row (n + 1 + content_rows c) more) in
      let b = content_length c (n + 1) in
      let d = entries_length more (n + 1 + content_rows c) in
      simp length-append (omega arith)

  pub content_length : (c : PlacedContent) (n : ℕ) → length (content_tape c n) ≡ row_size * content_rows c
  content_length (string p x) n = refl
  content_length (word p x) n = refl
  content_length (inside b) n = block_length b n

-- a number of a row, by its place in the tape
pub number_at : (tape : List ℕ) (n i : ℕ) → i < row_size → row_number (row_at tape n) i ≡ get_or tape (row_size * n + i) 0
number_at tape n i h = rw (get_or-take, get_or-drop)

-- the members of a row, above those of the rows behind it
members_there : (s : List ℕ) (i n count : ℕ) (tape : List ℕ) → n < count
    → get_or (members_of s i (rows_of count tape)) n Data.no_more
    ≡ members_by s (i + n) (row_at tape n) (drop (suc n) (members_of s i (rows_of count tape)))
members_there s i n zero tape h = absurd (omega arith)
members_there s i zero (suc count) tape h = let e : i + 0 ≡ i = omega arith in rw e
members_there s i (suc n) (suc count) tape h =
    let e : i + 1 + n ≡ i + suc n = omega arith in
    let f : row_size + row_size * n ≡ row_size * suc n = omega arith in
    let g = drop-drop (row_size * n) row_size tape in
    members_there s (i + 1) n count (drop row_size tape) (omega arith) ∙ rw (g, e, f)

-- a step up, and the row that it leads to
reach_next : (l : List Members) (n m : ℕ) → (0 < m → n < m)
    → reach_members (drop (suc n) l) (m - n) ≡ cond (eqb m 0) Data.no_more (get_or l m Data.no_more)
reach_next l n zero h = let e : 0 - n ≡ 0 = omega arith in rw e
reach_next l n (suc m) h =
    let k = h (omega arith) in
    let e : suc m - n ≡ suc (m - n) = omega arith in
    let f : suc n + (m - n) ≡ suc m = omega arith in
    rw (e, get_or-drop, f, eqb-suc-zero)

-- the step to what is inside, and the row behind
reach-inside : (l : List Members) (n : ℕ) (b : Bool)
    → reach_members (drop (suc n) l) (cond b 0 1) ≡ cond b Data.no_more (get_or l (n + 1) Data.no_more)
reach-inside l n true = refl
reach-inside l n false = let e : suc n + 0 ≡ n + 1 = omega arith in rw (get_or-drop, e)

-- a walker's step: the row's member, what is inside it and what is next, where the next row, if there is one, stands behind
pub members_step : (s : List ℕ) (count : ℕ) (tape : List ℕ) (n : ℕ) → n < count
    → (0 < row_number (row_at tape n) 8 → n < row_number (row_at tape n) 8)
    → members_at s count tape n ≡ walked s count tape n (row_at tape n)
unfolding members_at
members_step s count tape n h k =
    let row = row_at tape n in
    let all = members_of s 0 (rows_of count tape) in
    let e : 0 + n ≡ n = omega arith in
    members_there s 0 n count tape h
    ∙ ap (λ i. members_by s i row (drop (suc n) all)) e
    ∙ λ j. member (part s (row_number row 1) (row_number row 2)) (content_in s row (reach-inside all n (eqb (row_number row 7) 0) j)) (reach_next all n (row_number row 8) k j)

-- xs stands in the tape from row n on
pub record At (tape : List ℕ) (n : ℕ) (xs : List ℕ) : Type 0 where
  pub rest : List ℕ
  pub there : drop (row_size * n) tape ≡ xs ++ rest

-- what a tape begins with stands from row 0 on
pub at_start : (xs rest : List ℕ) → At (xs ++ rest) 0 xs
at_start xs rest = record { rest = rest; there = refl }

module _ {tape : List ℕ} {n : ℕ} (xs ys : List ℕ) (h : At tape n (xs ++ ys)) where
  -- the first part of what stands there stands there
  pub at_left : At tape n xs
  at_left = record { rest = ys ++ h.rest; there = h.there ∙ append_assoc xs ys h.rest }

  -- behind xs, which is k rows long, stands ys
  pub at_right : (k : ℕ) → length xs ≡ row_size * k → At tape (n + k) ys
  at_right k e =
      let f : row_size * (n + k) ≡ row_size * n + row_size * k = omega arith in
      record { rest = h.rest; there = rw (f, ← drop-drop (row_size * k) (row_size * n) tape, h.there, append_assoc) (drop_at xs (ys ++ h.rest) (row_size * k) e) }

  -- xs is a row: the one at n
  pub at_row : length xs ≡ row_size → row_at tape n ≡ xs
  at_row e = rw (h.there, append_assoc) (take_at xs (ys ++ h.rest) row_size e)

-- the parts of members that stand from row n on: their first row, what is inside it, and the members behind it
module _ (w : Span) (c : PlacedContent) (more : Entries) {tape : List ℕ} (n : ℕ)
    (h : At tape n (entries_tape (entry w c more) n)) where
  pub row_there : row_at tape n ≡ tape_row_of w c (next_row (n + 1 + content_rows c) more)
  unfolding entries_tape
  row_there = at_row _ _ h (row-length w c _)

  behind_there : At tape (n + 1) (content_tape c (n + 1) ++ entries_tape more (n + 1 + content_rows c))
  unfolding entries_tape
  behind_there = at_right (tape_row_of w c (next_row (n + 1 + content_rows c) more)) _ h 1 (row-length w c _)

  pub inside_there : At tape (n + 1) (content_tape c (n + 1))
  inside_there = at_left _ _ behind_there

  pub more_there : At tape (n + 1 + content_rows c) (entries_tape more (n + 1 + content_rows c))
  more_there = at_right (content_tape c (n + 1)) _ behind_there (content_rows c) (content_length c (n + 1))

-- a next row is behind, and one of those that there are
pub next_within : (more : Entries) (n m count : ℕ) → n < m → m + entry_rows more ≤ count → 0 < next_row m more
    → (n < next_row m more) × (next_row m more < count)
unfolding entry_rows
next_within no_more n m count h l k = absurd (omega arith)
next_within (entry w c more) n m count h l k = (h, omega arith)

-- a type is read back
type_back : (s : List ℕ) (t : Option Span) → TypeEnded t
    → cond (eqb (type_end t) 0) None (Some (part s (type_start t) (type_end t))) ≡ map (spelled_span s) t
type_back s None h = refl
type_back s (Some x) h = rw (ne_eqb x.end 0 (λ e. omega arith))

module _ (s : List ℕ) (count : ℕ) (tape : List ℕ) where
  -- the row that is told as the next is the one where the next members stand
  next_linked : (more : Entries) (m : ℕ) → 0 < m
      → linked s count tape (next_row m more) (next_row m more) ≡ linked s count tape (entry_rows more) m
  unfolding entry_rows
  next_linked no_more m h = refl
  next_linked (entry w c more) m h = rw (ne_eqb m 0 (λ e. omega arith), eqb-suc-zero)

  mutual
    unfolding EachBlock EachEntry EachContent block_rows entry_rows content_rows block_tape content_tape spelled_block spelled_entries spelled_content

    -- members that stand from row n on are read back from there
    block_back : (b : Block) (w : Span) (next n : ℕ) → Ended w (inside b) → EachBlock b Ended
        → At tape (n + 1) (block_tape b (n + 1)) → n + 1 + block_rows b ≤ count
        → content_in s (tape_row_of w (inside b) next)
        (linked s count tape (row_number (tape_row_of w (inside b) next) 7) (n + 1)) ≡ Data.block (spelled_block b s)
    block_back (block p t ms) w next n e h a l = λ j. Data.block (datum p (type_back s t e j) (entries_back ms (n + 1) h a l j))

    pub entries_back : (ms : Entries) (n : ℕ) → EachEntry ms Ended → At tape n (entries_tape ms n)
        → n + entry_rows ms ≤ count
        → linked s count tape (entry_rows ms) n ≡ spelled_entries ms s
    entries_back no_more n h a l = refl
    entries_back (entry w c more) n h a l =
        let m = n + 1 + content_rows c in
        let next = next_row m more in
        let e = row_there w c more n a in
        let r = row-numbers w c next in
        let k : row_number (row_at tape n) 8 ≡ next = ap (λ row. row_number row 8) e ∙ r.2 in
        rw eqb-suc-zero
        (members_step s count tape n (omega arith) (rw k (λ i. (next_within more n m count (omega arith) (omega arith) i).0))
        ∙ ap (walked s count tape n) e
        ∙ λ j. member (part s (r.0 j) (r.1 j)) (content_back c w next n h.0 h.1 (inside_there w c more n a) (omega arith) j)
        ((ap (λ i. linked s count tape i i) r.2 ∙ next_linked more m (omega arith) ∙ entries_back more m h.2 (more_there w c more n a) (omega arith)) j))

    content_back : (c : PlacedContent) (w : Span) (next n : ℕ) → Ended w c → EachContent c Ended
        → At tape (n + 1) (content_tape c (n + 1)) → n + 1 + content_rows c ≤ count
        → content_in s (tape_row_of w c next) (linked s count tape (row_number (tape_row_of w c next) 7) (n + 1))
        ≡ spelled_content c s
    content_back (string p x) w next n e h a l = refl
    content_back (word p x) w next n e h a l = refl
    content_back (inside b) w next n e h a l = block_back b w next n e h a l

-- the members are read back from their tape, whatever stands behind it
pub tape_back : (s : List ℕ) (ms : Entries) (rest : List ℕ) → EachEntry ms Ended
    → members_at s (entry_rows ms) (entries_tape ms 0 ++ rest) 0 ≡ spelled_entries ms s
unfolding entry_rows members_at spelled_entries
tape_back s no_more rest h = refl
tape_back s (entry w c more) rest h =
    let ms = entry w c more in
    rw eqb-suc-zero at (entries_back s (entry_rows ms) (entries_tape ms 0 ++ rest) ms 0 h (at_start (entries_tape ms 0) rest) (omega arith))
