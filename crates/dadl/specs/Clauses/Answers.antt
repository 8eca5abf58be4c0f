-- What the functions of this crate promise of their answers: each answer as the reading of the definitions, and bounds. Assumes nothing.
use Rattle.std.specs.Prelude.{◌≡◌, cond, List, [], ◌∷◌, ℕ, zero, suc, ◌+◌, ◌*◌, ◌-◌, ◌≤◌, ◌<◌, eqb, ltb, length, get_or}
use Rattle.std.specs.Prelude.{Option, None, Some}
use Rattle.std.proofs.lemmas.List.Edits.{sets}
use Rattle.lexis.specs.Runs.{part}
use Rattle.lexis.specs.Tokens.{name}
use Rattle.lexis.specs.Tokens
use Rattle.lexis.specs.DataTokens.{data_token_at, word_run}
use Rattle.lexis.specs.declared.Token.{Token}
use Rattle.refusals.specs.Limits.{text_limit, level_limit}
use Rattle.refusals.specs.declared.Cause.TheVariants.{TooDeep}
use Rattle.refusals.specs.Reading.{Reading, refused, got, refuse}
use Rattle.refusals.specs.Reading
use Rattle.refusals.specs.Parsing.{parsed, and_then, first_in}
use Rattle.dadl.specs.Placed.{Span, span, Block, block, Entries, PlacedContent, string, word, inside}
use Rattle.dadl.specs.Data.{leaf_from, Down, typed, content_from, name_from, members, block_from, outermost, span_of}
use Rattle.dadl.specs.Clauses.Tape.{row_size, is_block, is_string, is_word, entry_rows, content_rows, tape_row_of, entries_tape, content_tape, type_start, type_end}
use Rattle.refusals.specs.declared.Refusal.{Refusal}
use Rattle.std.specs.declared.result.Result.{Result}
use Rattle.std.specs.declared.result.Result.TheVariants.{Ok, Err}
use Rattle.dadl.specs.declared.tokens.Part.{Part}
use Rattle.dadl.specs.declared.tokens.TypeName.{TypeName}
use Rattle.dadl.specs.declared.tokens.Opening.{Opening}
use Rattle.dadl.specs.declared.contents.LeafSort.{LeafSort}
use Rattle.dadl.specs.declared.contents.LeafSort.TheVariants as leaf
use Rattle.dadl.specs.declared.contents.Leaf.{Leaf}
use Rattle.dadl.specs.declared.contents.Content.{Content}
use Rattle.dadl.specs.declared.contents.Content.TheVariants as content
use Rattle.dadl.specs.declared.rows.Row.{Row}
use Rattle.dadl.specs.declared.blocks.Rows.{Rows}
use Rattle.dadl.specs.declared.blocks.Member.{Member}
use Rattle.dadl.specs.declared.DataText.{DataText}

-- the bytes of a token as a part of the text
abbrev pub part_of : Token → Part
part_of t = record { start = t.start; end = t.end }

-- a part of the text as the definitions have it
abbrev pub part_span : Part → Span
part_span p = span p.start p.end

-- a type as a reading
abbrev pub type_reading : Result TypeName Refusal → Reading Span
type_reading (Err x) = refused x
type_reading (Ok t) = got (part_span t.part) t.next

abbrev pub TypePast : List ℕ → ℕ → Result TypeName Refusal → Type 0
TypePast s from (Err x) = Unit {0}
TypePast s from (Ok t) =
    (from ≤ t.part.start) × (t.part.start < t.part.end) × (t.part.end < t.next) × (t.next ≤ length s)

pub record TypeIs (s : List ℕ) (from : ℕ) (reading : Reading Span) (r : Result TypeName Refusal) : Type 0 where
  pub is : type_reading r ≡ reading
  pub past : TypePast s from r

-- a place of the text behind another
pub record Behind (s : List ℕ) (place from : ℕ) : Type 0 where
  pub order : place < from
  pub inside : from ≤ length s

-- a type that a block may have
abbrev pub type_span : Option Part → Option Span
type_span None = None
type_span (Some p) = Some (part_span p)

-- an opening, and the block that is read behind it
abbrev pub opened : Down → Opening → Reading Block
opened down o = first_in (down o.place (type_span o.type_name) o.next)

abbrev pub open_reading : Down → Result Opening Refusal → Reading Block
open_reading down (Err x) = refused x
open_reading down (Ok o) = opened down o

-- a type, where there is one, lies in the text
abbrev pub TypeInside : List ℕ → Option Part → Type 0
TypeInside s None = Unit {0}
TypeInside s (Some p) = (p.start ≤ p.end) × (p.end ≤ length s)

-- where an opening's places lie
pub record Opens (s : List ℕ) (from : ℕ) (o : Opening) : Type 0 where
  pub low : from ≤ o.place
  pub order : o.place < o.next
  pub high : o.next ≤ length s
  pub type_inside : TypeInside s o.type_name

abbrev pub OpenPast : List ℕ → ℕ → Result Opening Refusal → Type 0
OpenPast s from (Err x) = Unit {0}
OpenPast s from (Ok o) = Opens s from o

pub record OpeningIs (s : List ℕ) (from : ℕ) (reading : Down → Reading Block) (r : Result Opening Refusal) : Type 0 where
  pub is : (down : Down) → open_reading down r ≡ reading down
  pub past : OpenPast s from r

pub record OutermostIs (s : List ℕ) (r : Result Opening Refusal) : Type 0 where
  pub is : (levels : ℕ) → open_reading (block_from s levels) r ≡ first_in (outermost levels s)
  pub past : OpenPast s 0 r

-- behind `(`: a TYPE, `)`, `<` and a block
unfoldable pub typed_from : List ℕ → ℕ → Down → Reading Block
typed_from s from down = first_in (typed s down from)

-- a leaf by what it is
abbrev pub sorted_leaf : LeafSort → ℕ → Span → PlacedContent
sorted_leaf leaf.String place x = string place x
sorted_leaf leaf.Word place x = word place x

abbrev pub leaf_of : Leaf → PlacedContent
leaf_of l = sorted_leaf l.sort l.place (part_span l.text)

-- what stands behind `=`, and the block that is read behind its opening
abbrev pub content_reading : Down → Result Content Refusal → Reading PlacedContent
content_reading down (Err x) = refused x
content_reading down (Ok (content.Leaf l)) = got (leaf_of l) l.next
content_reading down (Ok (content.Block o)) = Reading.read_then (opened down o) (λ d q. got (inside d) q)

-- where a leaf's places lie
pub record LeafLies (s : List ℕ) (from : ℕ) (l : Leaf) : Type 0 where
  pub low : from ≤ l.place
  pub behind : l.place + 2 ≤ l.next
  pub high : l.next ≤ length s
  pub order : l.text.start ≤ l.text.end
  pub ahead : l.text.end ≤ length s

abbrev pub ContentPast : List ℕ → ℕ → Result Content Refusal → Type 0
ContentPast s from (Err x) = Unit {0}
ContentPast s from (Ok (content.Leaf l)) = LeafLies s from l
ContentPast s from (Ok (content.Block o)) = Opens s from o

pub record ContentIs (s : List ℕ) (from : ℕ) (reading : Down → Reading PlacedContent) (r : Result Content Refusal) : Type 0 where
  pub is : (down : Down) → content_reading down r ≡ reading down
  pub past : ContentPast s from r

-- a leaf, which no block inside it changes
unfoldable pub leaf_by : List ℕ → ℕ → Token → Down → Reading PlacedContent
leaf_by s place t down = first_in (leaf_from s place t)

-- behind a `<` with no type
unfoldable pub less_from : List ℕ → ℕ → ℕ → Down → Reading PlacedContent
less_from s place from down =
    let u = data_token_at s from in
    first_in
    (cond (eqb u.sort Tokens.string) (leaf_from s place u)
    (cond (eqb u.sort word_run) (leaf_from s place u)
    (and_then (down place None from) (λ d q. parsed (inside d) q))))

unfoldable pub content_of : List ℕ → ℕ → Down → Reading PlacedContent
content_of s from down = first_in (content_from s down from)

-- a place of the text up to another, behind it
pub record Inside (s : List ℕ) (start end : ℕ) : Type 0 where
  pub order : start < end
  pub inside : end ≤ length s

-- the number i of row n
abbrev pub number_at : List ℕ → ℕ → ℕ → ℕ
number_at tape n i = get_or tape (row_size * n + i) 0

-- the name of row n
abbrev pub name_at : List ℕ → List ℕ → ℕ → List ℕ
name_at s tape n = part s (number_at tape n 1) (number_at tape n 2)

-- the name of row n is on the tape, and lies in the text
pub record NameLies (s tape : List ℕ) (n : ℕ) : Type 0 where
  pub room : row_size * n + 2 < length tape
  pub order : number_at tape n 1 ≤ number_at tape n 2
  pub inside : number_at tape n 2 ≤ length s

-- the names of the rows from n on, from link to link, up to row `end`; `fuel` bounds how many
unfoldable pub names_from : List ℕ → List ℕ → ℕ → ℕ → ℕ → List (List ℕ)
names_from s tape zero n end = []
names_from s tape (suc fuel) n end =
    let more = names_from s tape fuel (number_at tape n 8) end in
    cond (ltb n end) (name_at s tape n ∷ more) []

abbrev pub earlier_names : List ℕ → List ℕ → ℕ → ℕ → List (List ℕ)
earlier_names s tape first end = names_from s tape (end - first) first end

-- row n has the name w, which lies in the text, and leads to a row behind it, up to row `end`
pub record NamedRow (s tape : List ℕ) (n end : ℕ) (w : List ℕ) : Type 0 where
  pub is : name_at s tape n ≡ w
  pub order : number_at tape n 1 ≤ number_at tape n 2
  pub inside : number_at tape n 2 ≤ length s
  pub up : n < number_at tape n 8
  pub most : number_at tape n 8 ≤ end

-- the rows from n on, from link to link, up to row `end`, have these names
unfoldable pub Chain : List ℕ → List ℕ → ℕ → ℕ → List (List ℕ) → Type 0
Chain s tape n end [] = n ≡ end
Chain s tape n end (w ∷ ws) = NamedRow s tape n end w × Chain s tape (number_at tape n 8) end ws

-- the rows of the members before row `end`, in a block whose first row is `first`
pub record Earlier (s tape : List ℕ) (first end : ℕ) : Type 0 where
  pub chain : Chain s tape first end (earlier_names s tape first end)
  pub room : row_size * end ≤ length tape

-- the name of a token and its `=`, of which the place behind is told
abbrev pub name_reading : Token → Result ℕ Refusal → Reading Span
name_reading t (Err x) = refused x
name_reading t (Ok next) = got (span_of t) next

abbrev pub NamePast : List ℕ → Token → Result ℕ Refusal → Type 0
NamePast s t (Err x) = Unit {0}
NamePast s t (Ok next) = (t.end < next) × (next ≤ length s)

pub record NameIs (s : List ℕ) (t : Token) (reading : Reading Span) (r : Result ℕ Refusal) : Type 0 where
  pub is : name_reading t r ≡ reading
  pub past : NamePast s t r

-- a member's content, once its name is read; the names before it are `seen`
unfoldable pub member_reading : List ℕ → List (List ℕ) → Token → Down → Reading PlacedContent
member_reading s seen t down = first_in (and_then (name_from s seen t) (λ w p. content_from s down p))

-- a row's numbers
abbrev pub row_numbers : Row → ℕ → List ℕ
row_numbers r next =
    r.holds ∷ r.name.start ∷ r.name.end ∷ r.place ∷ r.type_name.start ∷ r.type_name.end ∷ r.start ∷ r.end ∷ next
    ∷ []

-- a row that its place on the tape and the numbers there hold
pub record RowFits (n : ℕ) (r : Row) (next : ℕ) (tape : List ℕ) : Type 0 where
  pub room : row_size * n + row_size ≤ length tape
  pub name_start : r.name.start < 65_536
  pub name_end : r.name.end < 65_536
  pub place : r.place < 65_536
  pub type_start : r.type_name.start < 65_536
  pub type_end : r.type_name.end < 65_536
  pub start : r.start < 65_536
  pub end : r.end < 65_536
  pub link : next < 65_536

-- the row that the token behind a member leads to
abbrev pub link_of : ℕ → ℕ → ℕ
link_of sort rows = cond (eqb sort name) rows 0

-- what a leaf's row says that its member holds
abbrev pub holds_of : LeafSort → ℕ
holds_of leaf.String = is_string
holds_of leaf.Word = is_word

-- a type's places, 0 and 0 where there is none
abbrev pub type_part : Option Part → Part
type_part None = record { start = 0; end = 0 }
type_part (Some p) = p

-- the row of a leaf
abbrev pub leaf_row : Token → Leaf → Row
leaf_row t l = record {
  holds = holds_of l.sort;
  name = part_of t;
  place = l.place;
  type_name = record { start = 0; end = 0 };
  start = l.text.start;
  end = l.text.end;
}

-- the row of a block with so many rows inside it
abbrev pub block_row : Token → Opening → ℕ → Row
block_row t o rows = record {
  holds = is_block;
  name = part_of t;
  place = o.place;
  type_name = type_part o.type_name;
  start = 0;
  end = rows;
}

-- an answer, and the tape where it is one of success; after a refusal nothing is said of the tape
pub record Wrote (A : Type 0) : Type 0 where
  pub answer : Result A Refusal
  pub tape : List ℕ

abbrev pub data_wrote : {A : Type 0} → Result A Refusal → List ℕ → Wrote A
data_wrote (Err x) tape = record { answer = Err x; tape = [] }
data_wrote (Ok a) tape = record { answer = Ok a; tape = tape }

-- rows up to a row, and the place behind them
abbrev pub rows_to : ℕ → ℕ → Rows
rows_to end place = record { end = end; place = place }

-- what finishing a member's row answers
abbrev pub finished : List ℕ → Rows → Member
finished s rows = record { end = rows.end; after = data_token_at s rows.place }

-- a row that can be finished
pub record Finish (s : List ℕ) (n : ℕ) (row : Row) (rows : Rows) (tape : List ℕ) : Type 0 where
  pub inside : rows.place ≤ length s
  pub fits : RowFits n row rows.end tape

-- what reading a member at row n answers, and its rows on the tape
abbrev pub member_written : List ℕ → Token → ℕ → List ℕ → Reading PlacedContent → Wrote Member
member_written s t n tape (refused x) = record { answer = Err x; tape = [] }
member_written s t n tape (got c q) = record {
  answer = Ok (finished s (rows_to (n + 1 + content_rows c) q));
  tape =
      sets (sets tape (row_size * (n + 1)) (content_tape c (n + 1))) (row_size * n)
      (tape_row_of (span_of t) c (link_of (data_token_at s q).sort (n + 1 + content_rows c)));
}

-- the rows before row n and the levels left leave room for a block read from a place on
pub record RowsRoom (s : List ℕ) (levels from n : ℕ) (tape : List ℕ) : Type 0 where
  pub inside : from ≤ length s
  pub short : length s ≤ text_limit
  pub few : 4 * n + levels ≤ from + level_limit
  pub long : row_size * (length s + 20) ≤ 4 * length tape

-- the same for a member whose name is t
pub record MemberRoom (s : List ℕ) (levels : ℕ) (t : Token) (n : ℕ) (tape : List ℕ) : Type 0 where
  pub name : Inside s t.start t.end
  pub short : length s ≤ text_limit
  pub few : 4 * n + levels + 1 ≤ t.start + level_limit
  pub long : row_size * (length s + 20) ≤ 4 * length tape

pub record MemberIs (s : List ℕ) (levels : ℕ) (t : Token) (first n : ℕ) (before after : List ℕ)
    (r : Result Member Refusal) : Type 0 where
  pub is : data_wrote r after
      ≡ member_written s t n before (member_reading s (earlier_names s before first n) t (block_from s levels))

-- what reading members from row n on answers, and their rows on the tape
abbrev pub entries_written : ℕ → List ℕ → Reading Entries → Wrote Rows
entries_written n tape (refused x) = record { answer = Err x; tape = [] }
entries_written n tape (got ms p) = record {
  answer = Ok (rows_to (n + entry_rows ms) p);
  tape = sets tape (row_size * n) (entries_tape ms n);
}

-- the members of a block of at most so many levels, from behind its `<` on
unfoldable pub entries_from : List ℕ → ℕ → ℕ → ℕ → Reading Entries
entries_from s zero place from = refuse TooDeep place
entries_from s (suc levels) place from = first_in (members s (block_from s levels) (length s + 1) [] from)

-- members that were read take a byte for `>` and four for each row
abbrev pub RowsPast : List ℕ → ℕ → ℕ → Result Rows Refusal → Type 0
RowsPast s from n (Err x) = Unit {0}
RowsPast s from n (Ok rows) =
    (n ≤ rows.end) × (4 * rows.end + from + 1 ≤ 4 * n + rows.place) × (rows.place ≤ length s)

pub record RowsIs (s : List ℕ) (from n : ℕ) (before : List ℕ) (reading : Reading Entries) (after : List ℕ)
    (r : Result Rows Refusal) : Type 0 where
  pub is : data_wrote r after ≡ entries_written n before reading
  pub past : RowsPast s from n r

-- a tape with room for the rows of a text that is not too long: fewer than one for each four bytes, and five
pub record TapeRoom (s tape : List ℕ) : Type 0 where
  pub room : length s ≤ text_limit → row_size * (length s + 20) ≤ 4 * length tape

-- what reading a data text answers, and the rows of its members on the tape from row 0 on
abbrev pub data_written : List ℕ → Reading Block → Wrote DataText
data_written tape (refused x) = record { answer = Err x; tape = [] }
data_written tape (got (block place type ms) last) = record {
  answer = Ok (record {
    place = place;
    type_start = type_start type;
    type_end = type_end type;
    rows = entry_rows ms;
    end = last;
  });
  tape = sets tape 0 (entries_tape ms 0);
}
