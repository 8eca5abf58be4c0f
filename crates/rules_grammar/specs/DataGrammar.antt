-- The grammar of data text, as productions. Document 01, 'Data text': "At most 16,384 bytes .. Datum: optional `(`TYPE`)`, `<`, members, `>`. Member: NAME `=` then a datum, or `<`
-- leaf `>` with no type. `<>` is a block without members. A leaf is a string or a word .. A `<` is a leaf's when it has no type, isn't the outermost, and a string or word follows; else
-- a block's"; a word "is good if it reads as at least one of" the kinds; 'Table', lengths of types, names and strings; 'Meaning': "at most 16 levels"; 'Numbers of refusal', 9: a
-- "member named twice" is refused. Tokens are those of LongestMatch. Each relation says that a part of the text s, from one place up to another, derives a tree. Proved one with block_of, datum_of, data_token_at, type_token_at. Assumes nothing.
use Rattle.std.specs.Prelude.{◌≡◌, ℕ, suc, ◌≤◌, max, length}
use Rattle.std.specs.Prelude.{None, Some}
use mathlib.Core.List.{List, [], ◌∷◌, Memᴰ}
use Rattle.lexis.specs.Spelling.{less, greater}
use Rattle.lexis.specs.Tokens.{text_end, type_name, name, spelling, inner}
use Rattle.lexis.specs.Tokens
use Rattle.lexis.specs.DataTokens.{equals, open_round, close_round, word_run}
use Rattle.lexis.specs.declared.Token.{Token}
use Rattle.refusals.specs.Limits.{text_limit, name_limit, string_limit}
use Rattle.dadl.specs.Placed.{Block, block, Entries, no_more, entry, PlacedContent, string, word, inside, spelled_span}
use Rattle.dadl.specs.Data.{span_of, inner_span}
use Rattle.lexis.specs.LongestMatch.{NextDataIs, Classed, ClassedBehind}
use Rattle.values.specs.WordRules.{IsGood}

-- the next token from a place on, of a sort
pub data NextDataToken (s : List ℕ) (from sort : ℕ) : Token → Type 0 where
  next : {t : Token} → NextDataIs Classed s from t → t.sort ≡ sort → NextDataToken s from sort t

-- the next token from a place behind `(` on, a TYPE
pub data NextType (s : List ℕ) (from : ℕ) : Token → Type 0 where
  next_type : {t : Token} → NextDataIs ClassedBehind s from t → t.sort ≡ type_name → NextType s from t

-- the names of members
unfoldable pub names_of : List ℕ → Entries → List (List ℕ)
names_of s no_more = []
names_of s (entry w c more) = spelled_span s w ∷ names_of s more

-- no name is one of those before it
pub data Distinct : (before names : List (List ℕ)) → Type 0 where
  no_name : {before : List (List ℕ)} → Distinct before []
  new_name : {before names : List (List ℕ)} {w : List ℕ} → ¬ Memᴰ w before → Distinct (w ∷ before) names
      → Distinct before (w ∷ names)

-- levels of blocks
unfoldable mutual
  pub levels_of : Block → ℕ
  levels_of (block p t ms) = suc (member_levels ms)

  pub member_levels : Entries → ℕ
  member_levels no_more = 0
  member_levels (entry w c more) = max (content_levels c) (member_levels more)

  pub content_levels : PlacedContent → ℕ
  content_levels (string p x) = 0
  content_levels (word p x) = 0
  content_levels (inside b) = levels_of b

-- a leaf, whose `<` stands at a place: a string, or a good word
pub data DerivesDataLeaf (s : List ℕ) (place from : ℕ) : PlacedContent → ℕ → Type 0 where
  a_string : {t : Token} → NextDataToken s from Tokens.string t → length (inner s t) ≤ string_limit
      → DerivesDataLeaf s place from (string place (inner_span t)) t.end
  a_word : {t : Token} → NextDataToken s from word_run t → IsGood (spelling s t)
      → DerivesDataLeaf s place from (word place (span_of t)) t.end

mutual
  -- `<`, members, `>`; the same behind `(`TYPE`)`; no member is named twice
  pub data DerivesDatum (s : List ℕ) : ℕ → Block → ℕ → Type 0 where
    untyped : {from p : ℕ} {l g : Token} {ms : Entries}
        → NextDataToken s from less l
        → DerivesMembers s l.end ms p
        → NextDataToken s p greater g
        → Distinct [] (names_of s ms)
        → DerivesDatum s from (block l.start None ms) g.end
    typed : {from p : ℕ} {o t c l g : Token} {ms : Entries}
        → NextDataToken s from open_round o
        → NextType s o.end t
        → length (spelling s t) ≤ name_limit
        → NextDataToken s t.end close_round c
        → NextDataToken s c.end less l
        → DerivesMembers s l.end ms p
        → NextDataToken s p greater g
        → Distinct [] (names_of s ms)
        → DerivesDatum s from (block l.start (Some (span_of t)) ms) g.end

  -- no member, or one and more: NAME `=` and its content
  pub data DerivesMembers (s : List ℕ) : ℕ → Entries → ℕ → Type 0 where
    no_member : {from : ℕ} → DerivesMembers s from no_more from
    one_more : {from p q : ℕ} {n e : Token} {c : PlacedContent} {ms : Entries}
        → NextDataToken s from name n
        → length (spelling s n) ≤ name_limit
        → NextDataToken s n.end equals e
        → DerivesContent s e.end c p
        → DerivesMembers s p ms q
        → DerivesMembers s from (entry (span_of n) c ms) q

  -- a datum, or `<` leaf `>`
  pub data DerivesContent (s : List ℕ) : ℕ → PlacedContent → ℕ → Type 0 where
    a_datum : {from p : ℕ} {b : Block} → DerivesDatum s from b p → DerivesContent s from (inside b) p
    a_leaf : {from p : ℕ} {l g : Token} {c : PlacedContent} → NextDataToken s from less l
        → DerivesDataLeaf s l.start l.end c p → NextDataToken s p greater g → DerivesContent s from c g.end

-- a data text: one datum of at most so many levels, and the text's end behind it
pub data DerivesData (levels : ℕ) (s : List ℕ) : Block → Type 0 where
  whole_text : {b : Block} {p : ℕ} {e : Token} → length s ≤ text_limit → DerivesDatum s 0 b p
      → NextDataToken s p text_end e → levels_of b ≤ levels → DerivesData levels s b
