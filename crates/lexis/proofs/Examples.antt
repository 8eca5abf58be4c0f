-- Examples of bytes, of blanks and of tokens, each with what is expected. The cases stand in the tables. Assumes nothing.
use mathlib.Core.Path.{◌≡◌, refl}
use mathlib.Core.Bool.{Bool, true, false, cond, not, ◌&&◌, ◌||◌}
use mathlib.Core.List.{List, [], ◌∷◌}
use Prim.Native.Nat.{ℕ, zero, suc, ◌+◌}
use lib.Dec.{eqb}
use lib.ListN.{length}
use Rattle.lexis.specs.Bytes.{blank, digit, small, capital, mark, other, sort_of, word_byte, string_byte, run_byte, line_end}
use Rattle.lexis.specs.Runs.{same, listed}
use Rattle.lexis.specs.Blanks.{token_start}
use Rattle.lexis.specs.Spelling.{matches, existence, true_word, false_word, open_brace, close_brace, comma, star, bar, dots, less, greater, at_most, at_least, plus_minus, date_pattern, time_pattern}
use Rattle.lexis.specs.Durations.{pattern_slots, duration_pattern}
use Rattle.lexis.specs.Tokens.{token_at, content_token_at, spelling, inner, text_end, unreadable, type_name, name, code, integer, date, string}
use Rattle.lexis.specs.DataTokens.{data_token_at, type_token_at, equals, open_round, close_round, word_run}
use Rattle.lexis.specs.declared.Token.{Token}

-- the sorts of bytes are six numbers, and those of tokens one after the other, so that no two are the same
pub byte_sorts_apart : (blank ∷ digit ∷ small ∷ capital ∷ mark ∷ other ∷ []) ≡ (0 ∷ 1 ∷ 2 ∷ 3 ∷ 4 ∷ 5 ∷ [])
byte_sorts_apart = refl

pub token_sorts_apart :
    (text_end ∷ unreadable ∷ type_name ∷ name ∷ matches ∷ existence ∷ true_word ∷ false_word ∷ code ∷ integer ∷ date
    ∷ string ∷ open_brace ∷ close_brace ∷ comma ∷ star ∷ bar ∷ dots ∷ less ∷ greater ∷ at_most ∷ at_least ∷ plus_minus
    ∷ equals ∷ open_round ∷ close_round ∷ word_run ∷ date_pattern ∷ time_pattern ∷ duration_pattern ∷ [])
    ≡ (0 ∷ 1 ∷ 2 ∷ 3 ∷ 4 ∷ 5 ∷ 6 ∷ 7 ∷ 8 ∷ 9 ∷ 10 ∷ 11 ∷ 12 ∷ 13 ∷ 14 ∷ 15 ∷ 16 ∷ 17 ∷ 18 ∷ 19 ∷ 20 ∷ 21 ∷ 22 ∷ 23 ∷ 24
    ∷ 25 ∷ 26 ∷ 30 ∷ 40 ∷ 100 ∷ [])
token_sorts_apart = refl

abbrev pub agree : Bool → Bool → Bool
agree true b = b
agree false b = not b

-- a byte: its sort, and whether it goes on in a word, in a string, in a run of data text, and ends a line
pub data ByteCase : Type 0 where
  byte_is : (byte sort : ℕ) (word string run line : Bool) → ByteCase

unfoldable pub byte_right : ByteCase → Bool
byte_right (byte_is b sort word string run line) =
    eqb (sort_of b) sort && agree (word_byte b) word && agree (string_byte b) string && agree (run_byte b) run && agree (line_end b) line

-- a text and a place of it: where a token may start from there on
pub data BlankCase : Type 0 where
  starts : (text : List ℕ) (from place : ℕ) → BlankCase

unfoldable pub blank_right : BlankCase → Bool
blank_right (starts s from place) = eqb (token_start s from) place

-- two runs of bytes, or a run and a list of runs: whether they are the same, and whether it stands in the list; a text, and the bytes of its first token,
-- whole and without the first and the last
pub data RunCase : Type 0 where
  same_is : (one other : List ℕ) (answer : Bool) → RunCase
  listed_is : (one : List ℕ) (others : List (List ℕ)) (answer : Bool) → RunCase
  parts_are : (text whole within : List ℕ) → RunCase

unfoldable pub run_right : RunCase → Bool
run_right (same_is x y answer) = agree (same x y) answer
run_right (listed_is x ys answer) = agree (listed x ys) answer
run_right (parts_are s whole within) = same (spelling s (token_at s 0)) whole && same (inner s (token_at s 0)) within

-- the tokens from a place on, up to the text's end or to the first that is unreadable; `fuel` bounds how many
unfoldable pub tokens_from : (List ℕ → ℕ → Token) → List ℕ → ℕ → ℕ → List Token
tokens_from next s zero at = []
tokens_from next s (suc fuel) at =
    let t = next s at in
    let more = tokens_from next s fuel t.end in
    t ∷ cond (eqb t.sort text_end || eqb t.sort unreadable) [] more

-- tokens as a list of numbers; of one that is unreadable the place counts
abbrev pub token_list : List Token → List ℕ
token_list [] = []
token_list (t ∷ ts) = t.sort ∷ t.start ∷ cond (eqb t.sort unreadable) t.start t.end ∷ token_list ts

-- a constraint text and its tokens
pub data TokenCase : Type 0 where
  reads : (text : List ℕ) (tokens : List Token) → TokenCase

unfoldable pub token_right : TokenCase → Bool
token_right (reads s ts) = same (token_list (tokens_from token_at s (length s + 1) 0)) (token_list ts)

-- a data text and its tokens, or its first token where it stands behind `(`
pub data DataTokenCase : Type 0 where
  data_reads : (text : List ℕ) (tokens : List Token) → DataTokenCase
  type_reads : (text : List ℕ) (token : Token) → DataTokenCase

unfoldable pub data_token_right : DataTokenCase → Bool
data_token_right (data_reads s ts) = same (token_list (tokens_from data_token_at s (length s + 1) 0)) (token_list ts)
data_token_right (type_reads s t) = same (token_list (type_token_at s 0 ∷ [])) (token_list (t ∷ []))

-- a word, and the flag of the Duration pattern that it spells, 0 for none
pub data DurationCase : Type 0 where
  pattern_is : (word : List ℕ) (flag : ℕ) → DurationCase

unfoldable pub duration_right : DurationCase → Bool
duration_right (pattern_is w flag) = eqb (pattern_slots w) flag

-- a constraint text, and the token where a value may stand from a place on
pub data ContentCase : Type 0 where
  content_reads : (text : List ℕ) (from : ℕ) (token : Token) → ContentCase

unfoldable pub content_right : ContentCase → Bool
content_right (content_reads s from t) = same (token_list (content_token_at s from ∷ [])) (token_list (t ∷ []))
