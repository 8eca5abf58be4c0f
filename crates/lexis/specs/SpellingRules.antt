-- What bytes spell a token, as rules. Document 01, 'Constraint text': "Marks: `{ } , * | .. < > <= >= +/-`. TYPE: capital, then letters, digits, `_`; `True` and `False` aren't TYPEs.
-- NAME: small letter, then the same; the keywords aren't NAMEs. Keywords: `matches` (also the bytes E2 88 88, ∈) and `existence`. code: `at`, digits, then any number of dot and digits; one
-- token with its `[ ]`, no blank inside. integer: optional `-` and digits. date: four digits, `-`, two, `-`, two. string: `"`, bytes 20 to 7E hex except `"` and `\`, `"`"; the patterns;
-- 'Data text': "a word, the longest run of letters, digits, `_ + - . :`". Proved one with token_on, token_at, data_token_at, type_token_at. Assumes nothing.
use Rattle.std.specs.Prelude.{◌≢◌, List, [], ◌∷◌, ◌++◌, ℕ, ◌+◌, ◌≤◌}
use Rattle.lexis.specs.Text.{byte, bytes}
use Rattle.lexis.specs.Spelling
use Rattle.lexis.specs.Tokens
use Rattle.lexis.specs.DataTokens

-- digits and letters
pub data Digit (b : ℕ) : Type 0 where
  digit : byte "0" ≤ b → b ≤ byte "9" → Digit b

pub data Small (b : ℕ) : Type 0 where
  small : byte "a" ≤ b → b ≤ byte "z" → Small b

pub data Capital (b : ℕ) : Type 0 where
  capital : byte "A" ≤ b → b ≤ byte "Z" → Capital b

-- letters, digits, `_`
pub data WordByte : ℕ → Type 0 where
  small : {b : ℕ} → Small b → WordByte b
  capital : {b : ℕ} → Capital b → WordByte b
  digit : {b : ℕ} → Digit b → WordByte b
  underscore : WordByte (byte "_")

-- letters, digits, `_ + - . :`
pub data RunByte : ℕ → Type 0 where
  word : {b : ℕ} → WordByte b → RunByte b
  plus : RunByte (byte "+")
  minus : RunByte (byte "-")
  dot : RunByte (byte ".")
  colon : RunByte (byte ":")

-- bytes 20 to 7E hex except `"` and `\`
pub data StringByte (b : ℕ) : Type 0 where
  string_byte : 0x20 ≤ b → b ≤ 0x7E → b ≢ byte "\"" → b ≢ byte "\\" → StringByte b

-- all bytes are such
pub data All (Such : ℕ → Type 0) : List ℕ → Type 0 where
  none : All Such []
  more : {b : ℕ} {w : List ℕ} → Such b → All Such w → All Such (b ∷ w)

-- one digit or more
pub data Digits : List ℕ → Type 0 where
  digits : {b : ℕ} {w : List ℕ} → Digit b → All Digit w → Digits (b ∷ w)

-- digits, then any number of dot and digits
pub data CodeNumbers : List ℕ → Type 0 where
  one : {w : List ℕ} → Digits w → CodeNumbers w
  further : {w v : List ℕ} → CodeNumbers w → Digits v → CodeNumbers (w ++ (byte "." ∷ v))

-- a capital, then letters, digits, `_`; a small letter, then the same
pub data CapitalWord : List ℕ → Type 0 where
  capital_word : {b : ℕ} {w : List ℕ} → Capital b → All WordByte w → CapitalWord (b ∷ w)

pub data SmallWord : List ℕ → Type 0 where
  small_word : {b : ℕ} {w : List ℕ} → Small b → All WordByte w → SmallWord (b ∷ w)

-- `"`, bytes of strings, `"`
pub data Quoted : List ℕ → Type 0 where
  quoted : {w : List ℕ} → All StringByte w → Quoted (byte "\"" ∷ (w ++ bytes "\""))

-- what spells a TYPE and a NAME, in both texts
pub record SpellsType (w : List ℕ) : Type 0 where
  pub capital : CapitalWord w
  pub not_true : w ≢ bytes "True"
  pub not_false : w ≢ bytes "False"

pub record SpellsName (w : List ℕ) : Type 0 where
  pub small : SmallWord w
  pub not_matches : w ≢ bytes "matches"
  pub not_existence : w ≢ bytes "existence"

-- a token of constraint text, of a sort
pub data Spells : (sort : ℕ) → List ℕ → Type 0 where
  type : {w : List ℕ} → SpellsType w → Spells Tokens.type_name w
  name : {w : List ℕ} → SpellsName w → Spells Tokens.name w
  matches : Spells Spelling.matches (bytes "matches")
  element : Spells Spelling.matches (0xE2 ∷ 0x88 ∷ 0x88 ∷ [])
  existence : Spells Spelling.existence (bytes "existence")
  is_true : Spells Spelling.true_word (bytes "True")
  is_false : Spells Spelling.false_word (bytes "False")
  code : {w : List ℕ} → CodeNumbers w → Spells Tokens.code (bytes "[at" ++ (w ++ bytes "]"))
  plain_integer : {w : List ℕ} → Digits w → Spells Tokens.integer w
  signed_integer : {w : List ℕ} → Digits w → Spells Tokens.integer (byte "-" ∷ w)
  date : {a b c d e f g h : ℕ}
      → All Digit (a ∷ b ∷ c ∷ d ∷ e ∷ f ∷ g ∷ h ∷ [])
      → Spells Tokens.date (a ∷ b ∷ c ∷ d ∷ byte "-" ∷ e ∷ f ∷ byte "-" ∷ g ∷ h ∷ [])
  string : {w : List ℕ} → Quoted w → Spells Tokens.string w
  open_brace : Spells Spelling.open_brace (bytes "{")
  close_brace : Spells Spelling.close_brace (bytes "}")
  comma : Spells Spelling.comma (bytes ",")
  star : Spells Spelling.star (bytes "*")
  bar : Spells Spelling.bar (bytes "|")
  dots : Spells Spelling.dots (bytes "..")
  less : Spells Spelling.less (bytes "<")
  greater : Spells Spelling.greater (bytes ">")
  at_most : Spells Spelling.at_most (bytes "<=")
  at_least : Spells Spelling.at_least (bytes ">=")
  plus_minus : Spells Spelling.plus_minus (bytes "+/-")
  date_pattern1 : Spells (Spelling.date_pattern + 1) (bytes "yyyy-mm-dd")
  date_pattern2 : Spells (Spelling.date_pattern + 2) (bytes "yyyy-mm-??")
  date_pattern3 : Spells (Spelling.date_pattern + 3) (bytes "yyyy-??-??")
  date_pattern4 : Spells (Spelling.date_pattern + 4) (bytes "yyyy-mm-XX")
  date_pattern5 : Spells (Spelling.date_pattern + 5) (bytes "yyyy-??-XX")
  time_pattern1 : Spells (Spelling.time_pattern + 1) (bytes "Thh:mm:ss")
  time_pattern2 : Spells (Spelling.time_pattern + 2) (bytes "Thh:mm:XX")
  time_pattern3 : Spells (Spelling.time_pattern + 3) (bytes "Thh:??:XX")
  time_pattern4 : Spells (Spelling.time_pattern + 4) (bytes "Thh:??:??")

-- a token of data text that is no run: a mark or a string
pub data SpellsData : (sort : ℕ) → List ℕ → Type 0 where
  less : SpellsData Spelling.less (bytes "<")
  greater : SpellsData Spelling.greater (bytes ">")
  equals : SpellsData DataTokens.equals (bytes "=")
  open_round : SpellsData DataTokens.open_round (bytes "(")
  close_round : SpellsData DataTokens.close_round (bytes ")")
  string : {w : List ℕ} → Quoted w → SpellsData Tokens.string w
