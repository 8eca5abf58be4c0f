-- The tokens of constraint text. Document 01, 'Constraint text': "Tokens by longest match"; the text's end is a token (number 2).
-- What begins as a date or time pattern, a date or a longer mark is that, and not the shorter NAME, TYPE, integer or mark with which it begins. Document 02, 1: "Where a leaf may stand, a token such as Pd, a
-- TYPE too, is the pattern exactly when `}` .. follows".
-- Assumes nothing.
use Rattle.std.specs.Prelude.{Bool, false, cond, ◌&&◌, ◌||◌, List, [], ◌∷◌, ℕ, ◌+◌, ◌-◌, eqb, leb, length, drop}
use Rattle.lexis.specs.Text.{byte}
use Rattle.lexis.specs.Bytes.{is, digit, small, capital, mark, word_byte, string_byte}
use Rattle.lexis.specs.Runs.{past, byte_at, part, starts_with, shaped}
use Rattle.lexis.specs.Blanks.{token_start}
use Rattle.lexis.specs.Spelling.{Literal, close_brace, word_sort, mark_spellings, keywords, element_sign, booleans, date_pattern_spellings, time_pattern_spellings, code_start, date_shape}
use Rattle.lexis.specs.Durations.{pattern_slots, duration_pattern}
use Rattle.lexis.specs.declared.Token.{Token}

-- the sorts of tokens that are spelled in many ways
abbrev pub text_end : ℕ
text_end = 0

abbrev pub unreadable : ℕ
unreadable = 1

abbrev pub type_name : ℕ
type_name = 2

abbrev pub name : ℕ
name = 3

abbrev pub code : ℕ
code = 8

abbrev pub integer : ℕ
integer = 9

abbrev pub date : ℕ
date = 10

abbrev pub string : ℕ
string = 11

abbrev pub token : ℕ → ℕ → ℕ → Token
token sort start end = record { sort = sort; start = start; end = end }

-- a token's bytes, and those between its first and its last: a string without its quotes, a code without its brackets
abbrev pub spelling : List ℕ → Token → List ℕ
spelling s t = part s t.start t.end

abbrev pub inner : List ℕ → Token → List ℕ
inner s t = part s (t.start + 1) (t.end - 1)

-- nothing that can be read starts at a place: the place is the token's
abbrev pub no_token : ℕ → Token
no_token at = token unreadable at at

-- the first of these spellings with which the bytes at a place begin, or else another token
unfoldable pub spelled : List Literal → ℕ → List ℕ → Token → Token
spelled [] at bs t = t
spelled (l ∷ ls) at bs t =
    let more = spelled ls at bs t in
    cond (starts_with l.spelling bs) (token l.sort at (at + length l.spelling)) more

-- a word from a place on: a spelling of the list, or else of the sort given
abbrev pub word : List ℕ → List Literal → ℕ → ℕ → Token
word s ls sort at =
    let end = past word_byte at (drop at s) in
    token (word_sort ls (part s at end) sort) at end

-- date: four digits, `-`, two, `-`, two; integer: digits
abbrev pub number : List ℕ → ℕ → Token
number s at =
    cond (shaped date_shape (drop at s)) (token date at (at + 10)) (token integer at (past (is digit) at (drop at s)))

-- integer: `-` and digits; else a mark
abbrev pub sign : List ℕ → ℕ → Token
sign s at =
    cond (eqb (byte_at s at) (byte "-") && is digit (byte_at s (at + 1)))
    (token integer at (past (is digit) (at + 1) (drop (at + 1) s)))
    (spelled mark_spellings at (drop at s) (no_token at))

-- string: `"`, bytes of strings, `"`
abbrev pub quoted : List ℕ → ℕ → Token
quoted s at =
    let end = past string_byte (at + 1) (drop (at + 1) s) in
    cond (eqb (byte_at s end) (byte "\"")) (token string at (end + 1)) (no_token at)

-- behind `[at`: digits, then any number of dot and digits, then `]`; the place behind it, or 0. `some` says that a digit stands before.
unfoldable pub code_end : Bool → ℕ → List ℕ → ℕ
code_end some at [] = 0
code_end some at (b ∷ bs) =
    let more = code_end (is digit b) (at + 1) bs in
    cond (is digit b || eqb b (byte ".") && some) more (cond (eqb b (byte "]") && some) (at + 1) 0)

abbrev pub code_to : ℕ → ℕ → Token
code_to at end = cond (eqb end 0) (no_token at) (token code at end)

-- code: one token with its brackets
abbrev pub bracket : List ℕ → ℕ → Token
bracket s at =
    cond (starts_with code_start (drop at s)) (code_to at (code_end false (at + 3) (drop (at + 3) s))) (no_token at)

-- a byte of no sort but `other` starts a string, a code or the sign ∈
abbrev pub special : List ℕ → ℕ → Token
special s at =
    cond (eqb (byte_at s at) (byte "\"")) (quoted s at)
    (cond (eqb (byte_at s at) (byte "[")) (bracket s at) (spelled element_sign at (drop at s) (no_token at)))

-- the token that starts at a place
unfoldable pub token_on : List ℕ → ℕ → Token
token_on s at =
    cond (leb (length s) at) (token text_end at at)
    (cond (is capital (byte_at s at)) (spelled time_pattern_spellings at (drop at s) (word s booleans type_name at))
    (cond (is small (byte_at s at)) (spelled date_pattern_spellings at (drop at s) (word s keywords name at))
    (cond (is digit (byte_at s at)) (number s at)
    (cond (is mark (byte_at s at)) (sign s at) (special s at)))))

-- the next token, from a place on
unfoldable pub token_at : List ℕ → ℕ → Token
token_at s from = token_on s (token_start s from)

-- the flag of the Duration pattern that a TYPE is spelled as, 0 for none
abbrev pub duration_flag : List ℕ → Token → ℕ
duration_flag s t = cond (eqb t.sort type_name) (pattern_slots (spelling s t)) 0

-- a token, or the Duration pattern of a flag above 0 in its place where `}` follows
abbrev pub pattern_or : List ℕ → Token → ℕ → Token
pattern_or s t flag =
    cond (leb 1 flag && eqb (token_at s t.end).sort close_brace)
    (token (duration_pattern + flag) t.start t.end) t

-- the next token where a value may stand: a TYPE that is spelled as a Duration pattern is the pattern where `}` follows
unfoldable pub content_token_at : List ℕ → ℕ → Token
content_token_at s from = let t = token_at s from in pattern_or s t (duration_flag s t)
