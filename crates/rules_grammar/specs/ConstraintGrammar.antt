-- The grammar of constraint text, as productions. Document 01, 'Constraint text': "ASCII, at most 16,384 bytes"; "object: TYPE, optional [code], `matches {`, then `*` or one or more
-- attributes, `}`. The text is one object"; "attribute: NAME, optional `existence matches {` `0`, `1`, `0..0`, `0..1` or `1..1` `}`, `matches {`, then `*`, one object or one leaf, `}`.
-- `0` is 0..0, `1` is 1..1; no existence means 1..1"; 'Table', lengths of types, names and codes, and "Compiling numbers records .. in text order"; 'Numbers of refusal':
-- no 17th level, no record 2,048, no attribute named twice. Tokens are those of LongestMatch. Proved one with constraint_of, token_at, content_token_at. Assumes nothing.
use Rattle.std.specs.Prelude.{◌≡◌, ◌≢◌, List, [], ◌∷◌, ℕ, suc, ◌+◌, ◌≤◌, max, length}
use Rattle.lexis.specs.Text.{bytes}
use Rattle.lexis.specs.Spelling.{matches, existence, open_brace, close_brace, dots, star}
use Rattle.lexis.specs.Tokens.{text_end, type_name, name, code, integer, spelling, inner}
use Rattle.lexis.specs.declared.Token.{Token}
use Rattle.refusals.specs.Limits.{text_limit, level_limit, record_limit, name_limit, code_limit}
use Rattle.meaning.specs.Constraints.{Object, object, AttributeHead, Attributes, no_more, attribute, Value, any, nested, leaf, Leaf}
use Rattle.meaning.specs.Counting.{value_records}
use Rattle.rules_grammar.specs.DataGrammar.{Distinct}
use Rattle.rules_grammar.specs.LeafGrammar.{NextToken, DerivesLeaf}

-- `matches {`
pub data Opens (s : List ℕ) (from : ℕ) : Token → Type 0 where
  opens : {m b : Token} → NextToken s from matches m → NextToken s m.end open_brace b → Opens s from b

-- an integer spelled so
pub data SpelledInteger (s : List ℕ) (from : ℕ) (w : List ℕ) : Token → Type 0 where
  digit : {t : Token} → NextToken s from integer t → w ≡ spelling s t → SpelledInteger s from w t

-- 0, 1, 0..0, 0..1 or 1..1: 0 for 0..0, 1 for 0..1, 2 for 1..1, as in the flag of kind 2
pub data DerivesBounds (s : List ℕ) (from : ℕ) : ℕ → ℕ → Type 0 where
  nought : {t : Token} → SpelledInteger s from (bytes "0") t → DerivesBounds s from 0 t.end
  one : {t : Token} → SpelledInteger s from (bytes "1") t → DerivesBounds s from 2 t.end
  nought_to_nought : {t d u : Token} → SpelledInteger s from (bytes "0") t → NextToken s t.end dots d
      → SpelledInteger s d.end (bytes "0") u → DerivesBounds s from 0 u.end
  nought_to_one : {t d u : Token} → SpelledInteger s from (bytes "0") t → NextToken s t.end dots d
      → SpelledInteger s d.end (bytes "1") u → DerivesBounds s from 1 u.end
  one_to_one : {t d u : Token} → SpelledInteger s from (bytes "1") t → NextToken s t.end dots d
      → SpelledInteger s d.end (bytes "1") u
      → DerivesBounds s from 2 u.end

-- no existence means 1..1
pub data DerivesExistence (s : List ℕ) (from : ℕ) : ℕ → ℕ → Type 0 where
  unwritten : DerivesExistence s from 2 from
  written : {e p : ℕ} {x b z : Token} → NextToken s from existence x → Opens s x.end b → DerivesBounds s b.end e p
      → NextToken s p close_brace z → DerivesExistence s from e z.end

-- a code without its brackets, empty where there is none
pub data DerivesCode (s : List ℕ) (from : ℕ) : List ℕ → ℕ → Type 0 where
  uncoded : DerivesCode s from [] from
  coded : {t : Token} → NextToken s from code t → length (inner s t) ≤ code_limit
      → DerivesCode s from (inner s t) t.end

-- the names of attributes
unfoldable pub attribute_names : Attributes → List (List ℕ)
attribute_names no_more = []
attribute_names (attribute a v more) = a.name ∷ attribute_names more

-- levels of objects
unfoldable mutual
  pub object_levels : Object → ℕ
  object_levels (object h xs) = suc (attribute_levels xs)

  pub attribute_levels : Attributes → ℕ
  attribute_levels no_more = 0
  attribute_levels (attribute a v more) = max (value_levels v) (attribute_levels more)

  pub value_levels : Value → ℕ
  value_levels any = 0
  value_levels (nested o) = object_levels o
  value_levels (leaf l) = 0

-- the next record's number behind an attribute
abbrev pub behind_attribute : ℕ → Value → ℕ
behind_attribute n v = n + 1 + value_records v

-- a TYPE or a NAME for which there is room: it is not too long, and its record, whose number is given, is not number 2,048
pub record WithinLimit (n : ℕ) (w : List ℕ) : Type 0 where
  pub short : length w ≤ name_limit
  pub room : n ≢ record_limit

-- of each the first number is that of the next record, the second the place from which it is read
mutual
  -- TYPE, optional code, `matches {`, body; no attribute is named twice
  pub data DerivesObject (s : List ℕ) : ℕ → ℕ → Object → ℕ → Type 0 where
    an_object : {n from p q : ℕ} {t b : Token} {k : List ℕ} {xs : Attributes}
        → NextToken s from type_name t
        → WithinLimit n (spelling s t)
        → DerivesCode s t.end k p
        → Opens s p b
        → DerivesBody s (n + 1) b.end xs q
        → Distinct [] (attribute_names xs)
        → DerivesObject s n from (object (record { number = n; type = spelling s t; code = k }) xs) q

  -- `*` or one or more attributes, and `}`
  pub data DerivesBody (s : List ℕ) : ℕ → ℕ → Attributes → ℕ → Type 0 where
    any_members : {n from : ℕ} {t z : Token} → NextToken s from star t → NextToken s t.end close_brace z
        → DerivesBody s n from no_more z.end
    members : {n from p : ℕ} {z : Token} {xs : Attributes} → DerivesAttributes s n from xs p
        → NextToken s p close_brace z → DerivesBody s n from xs z.end

  -- one attribute or more
  pub data DerivesAttributes (s : List ℕ) : ℕ → ℕ → Attributes → ℕ → Type 0 where
    last_one : {n from p : ℕ} {a : AttributeHead} {v : Value} → DerivesAttribute s n from a v p
        → DerivesAttributes s n from (attribute a v no_more) p
    one_more : {n from p q : ℕ} {a : AttributeHead} {v : Value} {xs : Attributes}
        → DerivesAttribute s n from a v p
        → DerivesAttributes s (behind_attribute n v) p xs q
        → DerivesAttributes s n from (attribute a v xs) q

  -- NAME, existence, `matches {`, value, `}`
  pub data DerivesAttribute (s : List ℕ) : ℕ → ℕ → AttributeHead → Value → ℕ → Type 0 where
    an_attribute : {n from e p q : ℕ} {t b z : Token} {v : Value}
        → NextToken s from name t
        → WithinLimit n (spelling s t)
        → DerivesExistence s t.end e p
        → Opens s p b
        → DerivesValue s (n + 1) b.end v q
        → NextToken s q close_brace z
        → DerivesAttribute s n from (record { number = n; existence = e; name = spelling s t }) v z.end

  -- `*`, one object or one leaf
  pub data DerivesValue (s : List ℕ) : ℕ → ℕ → Value → ℕ → Type 0 where
    anything : {n from : ℕ} {t : Token} → NextToken s from star t → DerivesValue s n from any t.end
    one_object : {n from p : ℕ} {o : Object} → DerivesObject s n from o p → DerivesValue s n from (nested o) p
    one_leaf : {n from p : ℕ} {l : Leaf} → DerivesLeaf s n from l p → DerivesValue s n from (leaf l) p

-- a constraint text: one object of at most 16 levels, whose record is number 1, and the text's end behind it
pub data DerivesConstraint (s : List ℕ) : Object → Type 0 where
  whole_text : {o : Object} {p : ℕ} {e : Token} → length s ≤ text_limit → DerivesObject s 1 0 o p
      → NextToken s p text_end e → object_levels o ≤ level_limit → DerivesConstraint s o
