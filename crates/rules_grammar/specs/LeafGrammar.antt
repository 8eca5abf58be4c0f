-- The grammar of leaves, as productions. Document 01, 'Constraint text': "leaf: Booleans by comma (one or two); or items by comma, all integer, all string or all date interval; or one
-- pattern. An integer item is a value or an interval: `|a|`, `|a..b|`, `|a..<b|`, `|>a..b|`, `|>a..<b|`, `|a+/-d|`, `|<a|`, `|>a|`, `|<=a|`, `|>=a|`. Date items are intervals only, the
-- same without `+/-`. Date patterns .. Time patterns .."; "Intervals become closed pairs; an open end moves by one (one calendar day for dates); a missing end is the range's end,
-- 0000-01-01 and 9999-12-31 for dates"; 'Numbers of refusal': no `+/-` result outside, no empty interval, no 17th item, no record 2,048, no overlapping or equal item, no string too long.
-- Document 02, 1: "Where a leaf may stand, a token such as Pd, a TYPE too, is the pattern exactly when `}` .. follows": the `}` is asked for behind the leaf, by the production of an attribute.
-- Integers are distances from -2,147,483,648, dates are packed. Proved one with token_at, content_token_at, literal_value, after, before, empty, closed, inside, around, leaf. Assumes nothing.
use Rattle.std.specs.Prelude.{◌≡◌, ◌≢◌, ℕ, ◌+◌, ◌*◌, ◌≤◌, length}
use mathlib.Core.List.{List, [], ◌∷◌, Memᴰ}
use Rattle.lexis.specs.Spelling.{bar, dots, less, greater, at_most, at_least, plus_minus, comma, true_word, false_word}
use Rattle.lexis.specs.Spelling
use Rattle.lexis.specs.Tokens.{type_name, integer, date, string, spelling, inner}
use Rattle.lexis.specs.declared.Token.{Token}
use Rattle.values.specs.Integers.{Pair, pair}
use Rattle.values.specs.declared.dates.Date.{Date}
use Rattle.values.specs.Days.{MonthHas, IsDay}
use Rattle.refusals.specs.Limits.{record_limit, string_limit, item_limit}
use Rattle.meaning.specs.Constraints.{Range, Text, Leaf, single, ranges, texts, booleans, date_pattern, time_pattern, duration_pattern, integers, dates}
use Rattle.values.specs.WordRules.{IsInteger, IsDate}
use Rattle.rules_grammar.specs.DataGrammar.{Distinct}
use Rattle.lexis.specs.LongestMatch.{NextIs}
use Rattle.lexis.specs.DurationRules.{SpellsPattern}

-- the next token from a place on, of a sort
pub data NextToken (s : List ℕ) (from sort : ℕ) : Token → Type 0 where
  next : {t : Token} → NextIs s from t → t.sort ≡ sort → NextToken s from sort t

-- what a literal of a kind says: an integer, or a date with all its parts
pub data IsLiteral : (kind : ℕ) → List ℕ → ℕ → Type 0 where
  an_integer : {w : List ℕ} {v : ℕ} → IsInteger w v → IsLiteral integer w v
  a_full_date : {w : List ℕ} {d : Date} → IsDate w d → d.parts ≡ 3 → IsLiteral date w d.day

-- a literal of a kind, integer or date, and its value
pub data DerivesLiteral (s : List ℕ) (kind from : ℕ) : ℕ → Token → Type 0 where
  literal : {v : ℕ} {t : Token} → NextToken s from kind t → IsLiteral kind (spelling s t) v
      → DerivesLiteral s kind from v t

-- the least and the greatest value of a kind
pub data Bounds : (kind least most : ℕ) → Type 0 where
  of_integers : Bounds integer 0 4_294_967_295
  of_dates : Bounds date (0 * 10_000 + 1 * 100 + 1) (9999 * 10_000 + 12 * 100 + 31)

-- "an open end moves by one (one calendar day for dates)": the second value is the next behind the first
pub data StepsTo : (kind a b : ℕ) → Type 0 where
  next_integer : {a : ℕ} → StepsTo integer a (a + 1)
  next_day : {y m d : ℕ} → IsDay y m d → IsDay y m (d + 1)
      → StepsTo date (y * 10_000 + m * 100 + d) (y * 10_000 + m * 100 + (d + 1))
  next_month : {y m d : ℕ} → MonthHas y m d → IsDay y (m + 1) 1
      → StepsTo date (y * 10_000 + m * 100 + d) (y * 10_000 + (m + 1) * 100 + 1)
  next_year : (y : ℕ) → IsDay (y + 1) 1 1
      → StepsTo date (y * 10_000 + 12 * 100 + 31) ((y + 1) * 10_000 + 1 * 100 + 1)

-- what stands between the bars, as the closed pair that it becomes; no pair where no value lies in it
pub data DerivesEnds (s : List ℕ) (kind from : ℕ) : Pair → ℕ → Type 0 where
  point : {a : ℕ} {t : Token} → DerivesLiteral s kind from a t → DerivesEnds s kind from (pair a a) t.end
  closed_ends : {a b : ℕ} {t d u : Token} → DerivesLiteral s kind from a t → NextToken s t.end dots d
      → DerivesLiteral s kind d.end b u → a ≤ b → DerivesEnds s kind from (pair a b) u.end
  open_high : {a b high : ℕ} {t d l u : Token}
      → DerivesLiteral s kind from a t
      → NextToken s t.end dots d
      → NextToken s d.end less l
      → DerivesLiteral s kind l.end b u
      → StepsTo kind high b
      → a ≤ high
      → DerivesEnds s kind from (pair a high) u.end
  open_low : {a b low : ℕ} {g t d u : Token}
      → NextToken s from greater g
      → DerivesLiteral s kind g.end a t
      → NextToken s t.end dots d
      → DerivesLiteral s kind d.end b u
      → StepsTo kind a low
      → low ≤ b
      → DerivesEnds s kind from (pair low b) u.end
  open_both : {a b low high : ℕ} {g t d l u : Token}
      → NextToken s from greater g
      → DerivesLiteral s kind g.end a t
      → NextToken s t.end dots d
      → NextToken s d.end less l
      → DerivesLiteral s kind l.end b u
      → StepsTo kind a low
      → StepsTo kind high b
      → low ≤ high
      → DerivesEnds s kind from (pair low high) u.end
  -- m is what d says, and not negative
  spread : {a low : ℕ} (m : ℕ) {t d u : Token}
      → kind ≡ integer
      → DerivesLiteral s kind from a t
      → NextToken s t.end plus_minus d
      → DerivesLiteral s integer d.end (2_147_483_648 + m) u
      → low + m ≡ a
      → a + m ≤ 4_294_967_295
      → DerivesEnds s kind from (pair low (a + m)) u.end
  below : {a least most high : ℕ} {l t : Token} → NextToken s from less l → DerivesLiteral s kind l.end a t
      → Bounds kind least most → StepsTo kind high a → DerivesEnds s kind from (pair least high) t.end
  above : {a least most low : ℕ} {g t : Token} → NextToken s from greater g → DerivesLiteral s kind g.end a t
      → Bounds kind least most → StepsTo kind a low → low ≤ most → DerivesEnds s kind from (pair low most) t.end
  up_to : {a least most : ℕ} {l t : Token} → NextToken s from at_most l → DerivesLiteral s kind l.end a t
      → Bounds kind least most → DerivesEnds s kind from (pair least a) t.end
  from : {a least most : ℕ} {g t : Token} → NextToken s from at_least g → DerivesLiteral s kind g.end a t
      → Bounds kind least most → DerivesEnds s kind from (pair a most) t.end

-- an item: an integer's value, or an interval
pub data DerivesItem (s : List ℕ) (kind from : ℕ) : Pair → ℕ → Type 0 where
  a_value : {v : ℕ} {t : Token} → kind ≡ integer → DerivesLiteral s integer from v t
      → DerivesItem s kind from (pair v v) t.end
  an_interval : {x : Pair} {p : ℕ} {o z : Token} → NextToken s from bar o → DerivesEnds s kind o.end x p
      → NextToken s p bar z → DerivesItem s kind from x z.end

-- one item or more by comma, each with a record of its own
pub data DerivesItems (s : List ℕ) (kind : ℕ) : ℕ → ℕ → List Range → ℕ → Type 0 where
  last_item : {n from p : ℕ} {x : Pair} → n ≢ record_limit → DerivesItem s kind from x p
      → DerivesItems s kind n from (record { number = n; low = x.low; high = x.high } ∷ []) p
  more_items : {n from p q : ℕ} {x : Pair} {c : Token} {l : List Range}
      → n ≢ record_limit
      → DerivesItem s kind from x p
      → NextToken s p comma c
      → DerivesItems s kind (n + 1) c.end l q
      → DerivesItems s kind n from (record { number = n; low = x.low; high = x.high } ∷ l) q

-- two pairs share a value
pub record Meet (x y : Pair) : Type 0 where
  pub low : x.low ≤ y.high
  pub high : y.low ≤ x.high

-- no item shares a value with one before it
pub data Apart : List Pair → List Range → Type 0 where
  no_item : {seen : List Pair} → Apart seen []
  new_item : {seen : List Pair} {n : ℕ} {x : Pair} {l : List Range} → ((y : Pair) → Memᴰ y seen → ¬ Meet x y)
      → Apart (x ∷ seen) l → Apart seen (record { number = n; low = x.low; high = x.high } ∷ l)

-- one string or more by comma, each with a record of its own
pub data DerivesStrings (s : List ℕ) : ℕ → ℕ → List Text → ℕ → Type 0 where
  last_string : {n from : ℕ} {t : Token}
      → NextToken s from string t
      → length (inner s t) ≤ string_limit
      → n ≢ record_limit
      → DerivesStrings s n from (record { number = n; text = inner s t } ∷ []) t.end
  more_strings : {n from p : ℕ} {t c : Token} {l : List Text}
      → NextToken s from string t
      → length (inner s t) ≤ string_limit
      → n ≢ record_limit
      → NextToken s t.end comma c
      → DerivesStrings s (n + 1) c.end l p
      → DerivesStrings s n from (record { number = n; text = inner s t } ∷ l) p

unfoldable pub texts_in : List Text → List (List ℕ)
texts_in [] = []
texts_in (x ∷ l) = x.text ∷ texts_in l

-- True is 1, False 2
pub data Boolean (s : List ℕ) (from : ℕ) : ℕ → Token → Type 0 where
  a_true : {t : Token} → NextToken s from true_word t → Boolean s from 1 t
  a_false : {t : Token} → NextToken s from false_word t → Boolean s from 2 t

-- a leaf, given the next record's number
pub data DerivesLeaf (s : List ℕ) (n from : ℕ) : Leaf → ℕ → Type 0 where
  one_boolean : {b : ℕ} {t : Token} → n ≢ record_limit → Boolean s from b t
      → DerivesLeaf s n from (single booleans n b) t.end
  two_booleans : {a b : ℕ} {t c u : Token} → n ≢ record_limit → Boolean s from a t → NextToken s t.end comma c
      → Boolean s c.end b u → b ≢ a → DerivesLeaf s n from (single booleans n 3) u.end
  integer_items : {l : List Range} {p : ℕ} → DerivesItems s integer n from l p → length l ≤ item_limit → Apart [] l
      → DerivesLeaf s n from (ranges integers l) p
  date_items : {l : List Range} {p : ℕ} → DerivesItems s date n from l p → length l ≤ item_limit → Apart [] l
      → DerivesLeaf s n from (ranges dates l) p
  string_items : {l : List Text} {p : ℕ} → DerivesStrings s n from l p → length l ≤ item_limit → Distinct [] (texts_in l)
      → DerivesLeaf s n from (texts l) p
  a_date_pattern : {f : ℕ} {t : Token} → n ≢ record_limit → 1 ≤ f → f ≤ 5 → NextToken s from (Spelling.date_pattern + f) t
      → DerivesLeaf s n from (single date_pattern n f) t.end
  a_time_pattern : {f : ℕ} {t : Token} → n ≢ record_limit → 1 ≤ f → f ≤ 4 → NextToken s from (Spelling.time_pattern + f) t
      → DerivesLeaf s n from (single time_pattern n f) t.end
  a_duration_pattern : {f : ℕ} {t : Token} → n ≢ record_limit → NextToken s from type_name t
      → SpellsPattern (spelling s t) f → DerivesLeaf s n from (single duration_pattern n f) t.end
