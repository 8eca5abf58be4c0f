-- Data text: how it is parsed, to its faults and its tree; and its tree or its refusal. Document 01, 'Data text': "Datum: optional `(`TYPE`)`, `<`, members, `>`.
-- Member: NAME `=` then a datum, or `<` leaf `>` with no type. `<>` is a block without members"; "A `<` is a leaf's when it has no type, isn't the outermost, and a
-- string or word follows; else a block's"; 'Numbers of refusal', 1 "text over 16,384", at 16,384; 2 "first token that can't follow, or unreadable", at the token, "text
-- end is a token"; 3 "17th level of object or block", at the `<`; 4 "type, name, code or string too long", at the token; 5 "word unreadable", at the word; 9 "member
-- named twice", at the "later name". Parsing goes on past a type, a name or a string that is too long, past a bad word, past a name that stood before (which is kept
-- among the names) and into a block of a level that is not allowed and any below it. Assumes nothing.
use Rattle.std.specs.Prelude.{cond, not, List, [], ◌∷◌, ℕ, zero, suc, ◌+◌, ◌-◌, eqb, ltb, length}
use Rattle.std.specs.Prelude.{Option, None, Some}
use Rattle.lexis.specs.Runs.{listed}
use Rattle.lexis.specs.Spelling.{less, greater}
use Rattle.lexis.specs.Tokens.{text_end, type_name, name, spelling, inner}
use Rattle.lexis.specs.Tokens
use Rattle.lexis.specs.DataTokens.{data_token_at, type_token_at, equals, open_round, close_round, word_run}
use Rattle.lexis.specs.declared.Token.{Token}
use Rattle.values.specs.Words.{good}
use Rattle.refusals.specs.Limits.{text_limit, name_limit, string_limit}
use Rattle.refusals.specs.declared.Cause.TheVariants.{TextTooLong, EndsEarly, TooDeep, TooLong, BadWord, RepeatedName}
use Rattle.refusals.specs.Refusals.{refusal}
use Rattle.refusals.specs.Reading.{Reading, got}
use Rattle.refusals.specs.Expecting.{taken}
use Rattle.refusals.specs.Reading
use Rattle.refusals.specs.Parsing.{Parse, stopped, flawed, parsed, and_then, noting, syntax, as_read, first_in}
use Rattle.meaning.specs.Data.{Datum}
use Rattle.dadl.specs.Placed.{Span, span, Block, block, Entries, no_more, entry, PlacedContent, string, word, inside, spelled_block}

-- a token of the sort asked for
unfoldable pub expect_data : List ℕ → ℕ → ℕ → Parse Token
expect_data s sort from = as_read (taken (data_token_at s from) sort)

-- a token's places, and those between its first and its last byte
abbrev pub span_of : Token → Span
span_of t = span t.start t.end

abbrev pub inner_span : Token → Span
inner_span t = span (t.start + 1) (t.end - 1)

-- behind `(`: a TYPE and `)`
unfoldable pub type_from : List ℕ → ℕ → Parse Span
type_from s from =
    let t = type_token_at s from in
    cond (eqb t.sort type_name)
    (noting (ltb name_limit (length (spelling s t))) TooLong t.start
    (and_then (expect_data s close_round t.end) (λ u p. parsed (span_of t) p)))
    (syntax t)

-- a leaf's string or word, and `>`; `place` is its `<`
unfoldable pub leaf_from : List ℕ → ℕ → Token → Parse PlacedContent
leaf_from s place t =
    cond (eqb t.sort Tokens.string)
    (noting (ltb string_limit (length (inner s t))) TooLong t.start
    (and_then (expect_data s greater t.end) (λ u p. parsed (string place (inner_span t)) p)))
    (noting (not (good (spelling s t))) BadWord t.start
    (and_then (expect_data s greater t.end) (λ u p. parsed (word place (span_of t)) p)))

-- a block of the levels left: given its `<` and its type, it is parsed from behind the `<` on
abbrev pub Down : Type 0
Down = ℕ → Option Span → ℕ → Parse Block

-- behind `(`: a TYPE, `)`, `<` and a block
unfoldable pub typed : List ℕ → Down → ℕ → Parse Block
typed s down from = and_then (type_from s from) (λ w p. and_then (expect_data s less p) (λ t q. down t.start (Some w) q))

-- what stands behind a member's `=`
unfoldable pub content_from : List ℕ → Down → ℕ → Parse PlacedContent
content_from s down from =
    let t = data_token_at s from in
    let u = data_token_at s t.end in
    cond (eqb t.sort open_round)
    (and_then (typed s down t.end) (λ d q. parsed (inside d) q))
    (cond (eqb t.sort less)
    (cond (eqb u.sort Tokens.string) (leaf_from s t.start u)
    (cond (eqb u.sort word_run) (leaf_from s t.start u)
    (and_then (down t.start None t.end) (λ d q. parsed (inside d) q))))
    (syntax t))

-- a member's NAME and `=`; `seen` are the names before it in its block
unfoldable pub name_from : List ℕ → List (List ℕ) → Token → Parse Span
name_from s seen t =
    noting (ltb name_limit (length (spelling s t))) TooLong t.start
    (noting (listed (spelling s t) seen) RepeatedName t.start
    (and_then (expect_data s equals t.end) (λ u p. parsed (span_of t) p)))

-- the members from a place on, and the block's `>`; `fuel` bounds how many, and its end, told behind the text's end, is no fault of any text
unfoldable pub members : List ℕ → Down → ℕ → List (List ℕ) → ℕ → Parse Entries
members s down zero seen from = stopped (refusal EndsEarly (length s + 1))
members s down (suc fuel) seen from =
    let t = data_token_at s from in
    let more =
    and_then (name_from s seen t) (λ w p.
    and_then (content_from s down p) (λ x q.
    and_then (members s down fuel (spelling s t ∷ seen) q) (λ ms r.
    parsed (entry w x ms) r)))
    in
    cond (eqb t.sort greater) (parsed no_more t.end) (cond (eqb t.sort name) more (syntax t))

-- a block from behind its `<` on, given how those inside it are parsed
abbrev pub block_by : List ℕ → Down → Down
block_by s down place type from =
    and_then (members s down (length s + 1) [] from) (λ ms p. parsed (block place type ms) p)

-- a block below the levels that are allowed; `fuel` bounds how many levels there are, and its end is no fault of any text
unfoldable pub deeper_block : List ℕ → ℕ → Down
deeper_block s zero place type from = stopped (refusal EndsEarly (length s + 1))
deeper_block s (suc fuel) place type from = block_by s (deeper_block s fuel) place type from

-- a block of at most so many levels; the first level that is not allowed is a fault
unfoldable pub block_from : List ℕ → ℕ → Down
block_from s zero place type from = flawed (refusal TooDeep place) (deeper_block s (length s + 1) place type from)
block_from s (suc levels) place type from = block_by s (block_from s levels) place type from

-- the outermost datum, of at most so many levels: its `<` is never a leaf's
unfoldable pub outermost : ℕ → List ℕ → Parse Block
outermost levels s =
    let t = data_token_at s 0 in
    cond (eqb t.sort open_round)
    (typed s (block_from s levels) t.end)
    (and_then (expect_data s less 0) (λ u p. block_from s levels u.start None p))

-- the outermost datum and the text's end
unfoldable pub datum_alone : ℕ → List ℕ → Parse Block
datum_alone levels s = and_then (outermost levels s) (λ d p. and_then (expect_data s text_end p) (λ t q. parsed d q))

-- a data text of at most so many levels
unfoldable pub data_text : ℕ → List ℕ → Parse Block
data_text levels s = noting (ltb text_limit (length s)) TextTooLong text_limit (datum_alone levels s)

-- its outermost block, or its refusal
unfoldable pub block_of : ℕ → List ℕ → Reading Block
block_of levels s = first_in (data_text levels s)

-- the tree that a data text says, its names and values spelled out, or its refusal
unfoldable pub datum_of : ℕ → List ℕ → Reading Datum
datum_of levels s = Reading.read_then (block_of levels s) (λ d p. got (spelled_block d s) p)
