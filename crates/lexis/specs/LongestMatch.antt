-- Which token stands next in a text, as rules. Document 01, 'Constraint text': "Tokens by longest match; space, tab, CR, LF and `--` with any bytes up to the next CR or LF separate";
-- 'Data text': "same blanks and comments (a comment starts only where a token may)"; "the longest run of letters, digits, `_ + - . :`. A run that opens with a small letter is a NAME or
-- unreadable (2), never a word; after `(` a run is a TYPE or unreadable"; 'Numbers of refusal', 2: "text end is a token"; document 02, 1: "Where a leaf may stand, a token such as Pd, a TYPE too, is
-- the pattern exactly when `}` .. follows". Proved one with token_start, token_at, content_token_at, data_token_at, type_token_at. Assumes nothing.
use Rattle.std.specs.Prelude.{List, [], ◌∷◌, ℕ, ◌+◌, ◌≤◌, ◌<◌, length}
use Rattle.lexis.specs.Text.{byte, bytes}
use Rattle.lexis.specs.Runs.{part, StandsAt}
use Rattle.lexis.specs.Spelling.{close_brace}
use Rattle.lexis.specs.Tokens.{token, text_end, unreadable, type_name, name}
use Rattle.lexis.specs.Durations.{duration_pattern}
use Rattle.lexis.specs.DataTokens.{word_run}
use Rattle.lexis.specs.declared.Token.{Token}
use Rattle.lexis.specs.SpellingRules.{Small, RunByte, All, SpellsType, SpellsName, Spells, SpellsData}
use Rattle.lexis.specs.DurationRules.{SpellsPattern}

-- CR and LF
pub data LineEnd : ℕ → Type 0 where
  return : LineEnd (byte "\r")
  feed : LineEnd (byte "\n")

-- space, tab, CR, LF
pub data Blank : ℕ → Type 0 where
  space : Blank (byte " ")
  tab : Blank (byte "\t")
  line_end : {b : ℕ} → LineEnd b → Blank b

-- any bytes up to the next CR or LF, or the text's end
pub data CommentTo (s : List ℕ) : (from to : ℕ) → Type 0 where
  text_ends : {from : ℕ} → length s ≤ from → CommentTo s from from
  line_ends : {from b : ℕ} → StandsAt s from (b ∷ []) → LineEnd b → CommentTo s from from
  onward : {from to b : ℕ} → StandsAt s from (b ∷ []) → ¬ LineEnd b → CommentTo s (from + 1) to → CommentTo s from to

-- blanks and comments from one place up to another, where neither starts
pub data Separates (s : List ℕ) : (from to : ℕ) → Type 0 where
  nothing : {from : ℕ} → ((b : ℕ) → StandsAt s from (b ∷ []) → ¬ Blank b) → ¬ StandsAt s from (bytes "--")
      → Separates s from from
  blank : {from to b : ℕ} → StandsAt s from (b ∷ []) → Blank b → Separates s (from + 1) to → Separates s from to
  comment : {from over to : ℕ} → StandsAt s from (bytes "--") → CommentTo s (from + 2) over → Separates s over to
      → Separates s from to

-- the bytes from one place of the text up to another spell a token
pub record SpelledAt (Spelled : (sort : ℕ) → List ℕ → Type 0) (s : List ℕ) (at sort end : ℕ) : Type 0 where
  pub ordered : at ≤ end
  pub inside : end ≤ length s
  pub spelled : Spelled sort (part s at end)

-- the longest token at a place
pub record LongestAt (Spelled : (sort : ℕ) → List ℕ → Type 0) (s : List ℕ) (at sort end : ℕ) : Type 0 where
  pub one : SpelledAt Spelled s at sort end
  pub longest : (other e : ℕ) → SpelledAt Spelled s at other e → e ≤ end

-- the next token of a constraint text, from a place on; where none can be read, its place is both its start and its end
pub data NextIs (s : List ℕ) (from : ℕ) : Token → Type 0 where
  ends : {at : ℕ} → Separates s from at → length s ≤ at → NextIs s from (token text_end at at)
  none : {at : ℕ} → Separates s from at → at < length s → ((sort end : ℕ) → ¬ SpelledAt Spells s at sort end)
      → NextIs s from (token unreadable at at)
  longest : {at sort end : ℕ} → Separates s from at → LongestAt Spells s at sort end → NextIs s from (token sort at end)

-- a TYPE spelled as the Duration pattern of a flag, from one place up to another, with `}` as the next token
pub data PatternHere (s : List ℕ) (from start end flag : ℕ) : Type 0 where
  pattern_here : {after behind : ℕ} → NextIs s from (token type_name start end) → SpellsPattern (part s start end) flag
      → NextIs s end (token close_brace after behind) → PatternHere s from start end flag

-- the next token where a value may stand
pub data NextContentIs (s : List ℕ) (from : ℕ) : Token → Type 0 where
  pattern : {start end flag : ℕ} → PatternHere s from start end flag
      → NextContentIs s from (token (duration_pattern + flag) start end)
  other : {t : Token} → NextIs s from t → ((start end flag : ℕ) → ¬ PatternHere s from start end flag)
      → NextContentIs s from t

-- the longest run at a place: at least one byte, and none behind it goes on in it
pub record RunAt (s : List ℕ) (at end : ℕ) : Type 0 where
  pub some : at < end
  pub inside : end ≤ length s
  pub run : All RunByte (part s at end)
  pub longest : (b : ℕ) → StandsAt s end (b ∷ []) → ¬ RunByte b

-- it opens with a small letter
pub data OpensSmall : List ℕ → Type 0 where
  opens_small : {b : ℕ} {w : List ℕ} → Small b → OpensSmall (b ∷ w)

-- a run is classed whole: a NAME, a run that opens with a small letter and is none, or a word
pub data Classed : List ℕ → (sort : ℕ) → Type 0 where
  a_name : {w : List ℕ} → SpellsName w → Classed w name
  no_name : {w : List ℕ} → OpensSmall w → ¬ SpellsName w → Classed w unreadable
  a_word : {w : List ℕ} → ¬ OpensSmall w → Classed w word_run

-- behind `(`: a TYPE or unreadable
pub data ClassedBehind : List ℕ → (sort : ℕ) → Type 0 where
  a_type : {w : List ℕ} → SpellsType w → ClassedBehind w type_name
  no_type : {w : List ℕ} → ¬ SpellsType w → ClassedBehind w unreadable

-- the next token of a data text, from a place on, where runs are classed so
pub data NextDataIs (Class : List ℕ → (sort : ℕ) → Type 0) (s : List ℕ) (from : ℕ) : Token → Type 0 where
  ends : {at : ℕ} → Separates s from at → length s ≤ at → NextDataIs Class s from (token text_end at at)
  run : {at sort end : ℕ} → Separates s from at → RunAt s at end → Class (part s at end) sort
      → NextDataIs Class s from (token sort at end)
  longest : {at sort end : ℕ} → Separates s from at → LongestAt SpellsData s at sort end
      → NextDataIs Class s from (token sort at end)
  none : {at : ℕ}
      → Separates s from at
      → at < length s
      → ((end : ℕ) → ¬ RunAt s at end)
      → ((sort end : ℕ) → ¬ SpelledAt SpellsData s at sort end)
      → NextDataIs Class s from (token unreadable at at)
