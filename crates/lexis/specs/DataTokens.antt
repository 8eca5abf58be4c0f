-- The tokens of data text. Document 01, 'Data text': "A leaf is a string or a word, the longest run of letters, digits, `_ + - . :`. A run that
-- opens with a small letter is a NAME or unreadable (2), never a word; after `(` a run is a TYPE or unreadable." Assumes nothing.
use Rattle.std.specs.Prelude.{cond, List, [], ◌∷◌, ℕ, eqb, leb, length, drop}
use Rattle.lexis.specs.Text.{byte, bytes}
use Rattle.lexis.specs.Bytes.{is, small, capital, word_byte, run_byte}
use Rattle.lexis.specs.Runs.{past, byte_at, part, all}
use Rattle.lexis.specs.Blanks.{token_start}
use Rattle.lexis.specs.Spelling.{Literal, literal_of, less, greater, word_sort, keywords, booleans}
use Rattle.lexis.specs.Tokens.{token, no_token, spelled, quoted, text_end, unreadable, type_name, name}
use Rattle.lexis.specs.declared.Token.{Token}

abbrev pub equals : ℕ
equals = 23

abbrev pub open_round : ℕ
open_round = 24

abbrev pub close_round : ℕ
close_round = 25

abbrev pub word_run : ℕ
word_run = 26

-- < > = ( )
abbrev pub data_marks : List Literal
data_marks =
    literal_of less (bytes "<")
    ∷ literal_of greater (bytes ">")
    ∷ literal_of equals (bytes "=")
    ∷ literal_of open_round (bytes "(")
    ∷ literal_of close_round (bytes ")")
    ∷ []

-- a run all of whose bytes go on in a word is of the sort given, unless the list spells it
abbrev pub name_sort : List Literal → ℕ → List ℕ → ℕ
name_sort ls sort w = cond (all word_byte w) (cond (eqb (word_sort ls w sort) sort) sort unreadable) unreadable

-- a run where any token may stand
abbrev pub run_sort : List ℕ → ℕ → ℕ
run_sort w first = cond (is small first) (name_sort keywords name w) word_run

-- a run behind `(`
abbrev pub type_sort : List ℕ → ℕ → ℕ
type_sort w first = cond (is capital first) (name_sort booleans type_name w) unreadable

-- the run at a place, of the sort that its bytes and its first byte have
abbrev pub run : (List ℕ → ℕ → ℕ) → List ℕ → ℕ → Token
run sorted s at =
    let end = past run_byte at (drop at s) in
    token (sorted (part s at end) (byte_at s at)) at end

-- the token that starts at a place
unfoldable pub data_token_on : (List ℕ → ℕ → ℕ) → List ℕ → ℕ → Token
data_token_on sorted s at =
    cond (leb (length s) at) (token text_end at at)
    (cond (run_byte (byte_at s at)) (run sorted s at)
    (cond (eqb (byte_at s at) (byte "\"")) (quoted s at) (spelled data_marks at (drop at s) (no_token at))))

-- the next token, from a place on
unfoldable pub data_token_at : List ℕ → ℕ → Token
data_token_at s from = data_token_on run_sort s (token_start s from)

-- the next token, from a place behind `(` on
unfoldable pub type_token_at : List ℕ → ℕ → Token
type_token_at s from = data_token_on type_sort s (token_start s from)
