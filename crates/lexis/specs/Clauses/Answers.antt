-- What the functions of this crate promise of their answers: an equation with a definition, and bounds. Assumes nothing.
use Rattle.std.specs.Prelude.{◌≡◌, Bool, true, false, cond, not, ◌&&◌, ◌||◌, List, [], ◌∷◌, ℕ, Option, Some, None, IfSome, ◌+◌, ◌≤◌, ◌<◌, eqb, length, drop}
use Rattle.lexis.specs.Bytes.{among, is, blank, word_byte, line_end}
use Rattle.lexis.specs.Text.{byte, bytes}
use Rattle.lexis.specs.Runs.{byte_at}
use Rattle.lexis.specs.Blanks.{opens_comment, token_start}
use Rattle.lexis.specs.Spelling.{less, greater}
use Rattle.lexis.specs.Tokens.{token_at, type_name}
use Rattle.lexis.specs.Durations.{Filled, filled}
use Rattle.lexis.specs.DataTokens.{equals, open_round, close_round, data_token_at, type_token_at}
use Rattle.lexis.specs.declared.Token.{Token}
use Rattle.lexis.specs.declared.durations.Slots.{Slots}
use Rattle.lexis.specs.declared.reader.Tokens.{Tokens}
use Rattle.lexis.specs.declared.reader.Tokens.TheVariants.{Constraint, Data, Behind}

-- a number, none where it is 0
abbrev pub unless_zero : ℕ → Option ℕ
unless_zero n = cond (eqb n 0) None (Some n)

-- r is the place x, from a place of the text on
pub record PlaceIs (s : List ℕ) (from x r : ℕ) : Type 0 where
  pub is : r ≡ x
  pub low : from ≤ r
  pub high : r ≤ length s

-- what a run of data text holds besides the bytes of words
abbrev pub run_mark : ℕ → Bool
run_mark b = among b (bytes "+-.:")

-- a place of the text at which no word goes on
pub record WordEnds (s : List ℕ) (at : ℕ) : Type 0 where
  pub inside : at ≤ length s
  pub stops : word_byte (byte_at s at) ≡ false

-- a place of the text from which on the next token starts where it does from an earlier one
pub record StartsAlike (s : List ℕ) (from r : ℕ) : Type 0 where
  pub is : token_start s r ≡ token_start s from
  pub low : from ≤ r
  pub high : r ≤ length s

-- the byte is the mark of data text of that sort
abbrev pub is_mark : ℕ → ℕ → Bool
is_mark b sort =
    cond (eqb sort less) (eqb b (byte "<"))
    (cond (eqb sort greater) (eqb b (byte ">"))
    (cond (eqb sort equals) (eqb b (byte "="))
    (cond (eqb sort open_round) (eqb b (byte "("))
    (cond (eqb sort close_round) (eqb b (byte ")")) false))))

-- a comment is open behind the byte b, before which one is open or not, and behind which bs stand
abbrev pub comment_open : Bool → ℕ → List ℕ → Bool
comment_open true b bs = not (line_end b)
comment_open false b bs = opens_comment b bs

-- a token starts at the byte b, before which a comment is open or not, and behind which bs stand
abbrev pub token_here : Bool → ℕ → List ℕ → Bool
token_here true b bs = false
token_here false b bs = not (is blank b || opens_comment b bs)

-- the bytes begin with bytes that the word's admit, one by one
unfoldable pub begins_by : (ℕ → ℕ → Bool) → List ℕ → List ℕ → Bool
begins_by f [] bs = true
begins_by f (w ∷ ws) [] = false
begins_by f (w ∷ ws) (b ∷ bs) = f w b && begins_by f ws bs

-- the next token from a place of a text on, of those that are read
abbrev pub token_by : Tokens → List ℕ → ℕ → Token
token_by Constraint = token_at
token_by Data = data_token_at
token_by Behind = type_token_at

-- r is the token t, and lies in the text from a place on; it has a byte, unless it is the text's end or unreadable
pub record TokenIs (s : List ℕ) (from : ℕ) (t r : Token) : Type 0 where
  pub is : r ≡ t
  pub start : from ≤ r.start
  pub order : r.start ≤ r.end
  pub inside : r.end ≤ length s
  pub strict : 1 < r.sort → r.start < r.end

-- r is a slot's size n, none where it is 0, from a place of the word on
pub record SlotIs (w : List ℕ) (at n : ℕ) (r : Option ℕ) : Type 0 where
  pub is : r ≡ unless_zero n
  pub inside : IfSome r (λ size. at + size ≤ length w)

-- a walk over slots, by the place that it has come to
abbrev pub filled_at : List ℕ → Slots → Filled
filled_at w x = filled x.flag (drop x.at w)

-- a walk that lies in the word, and has room for one more slot's bit
pub record FillRoom (w : List ℕ) (x : Slots) (bit : ℕ) : Type 0 where
  pub inside : x.at ≤ length w
  pub few : x.flag + bit ≤ 127

-- r is the walk x, lies in the word, and its flag is at most so much
pub record FillIs (w : List ℕ) (most : ℕ) (x : Filled) (r : Slots) : Type 0 where
  pub is : filled_at w r ≡ x
  pub inside : r.at ≤ length w
  pub few : r.flag ≤ most

-- r is the flag n, none where it is 0, and at most that of all slots
pub record FlagIs (n : ℕ) (r : Option ℕ) : Type 0 where
  pub is : r ≡ unless_zero n
  pub few : IfSome r (λ flag. flag ≤ 127)

-- a TYPE with its bytes stands in the text
pub record TypeThere (s : List ℕ) (t : Token) : Type 0 where
  pub is : t.sort ≡ type_name
  pub order : t.start < t.end
  pub inside : t.end ≤ length s
