-- The next token of a sort in the grammars is the one that the definitions read, where it is of that sort. Assumes nothing.
use mathlib.Core.Path.{◌≡◌, refl, sym, ap, ◌∙◌, subst}
use mathlib.Core.Logic.{◌≢◌}
use mathlib.Core.List.{List}
use Prim.Native.Nat.{ℕ, ◌+◌, ◌≤◌}
use native.Mathlib.Omega.{arith}
use lib.ListN.{length}
use Rattle.lexis.specs.Spelling.{close_brace}
use Rattle.lexis.specs.Durations.{duration_pattern}
use Rattle.lexis.specs.DurationRules.{SpellsPattern}
use Rattle.lexis.specs.Tokens.{token, token_at, content_token_at, type_name, date, spelling}
use Rattle.lexis.specs.DataTokens.{data_token_at, type_token_at}
use Rattle.lexis.specs.declared.Token.{Token}
use Rattle.lexis.specs.SpellingRules.{Spells}
use Rattle.lexis.specs.SpellingRules
use Rattle.lexis.specs.LongestMatch.{NextIs, PatternHere, pattern_here, NextContentIs, NextDataIs, Classed, ClassedBehind}
use Rattle.rules_grammar.specs.DataGrammar.{NextDataToken, NextType, next_type}
use Rattle.rules_grammar.specs.DataGrammar
use Rattle.rules_grammar.specs.LeafGrammar.{NextToken}
use Rattle.rules_grammar.specs.LeafGrammar
use Rattle.lexis.proofs.TokenLaws.{token_is}
use Rattle.lexis.proofs.SlotLaws.{slots_some}
use Rattle.lexis.proofs.DurationLaws.{pattern_is_lem, pattern_only}
use Rattle.lexis.proofs.ContentLaws.{content_is, pattern_here_lem}
use Rattle.lexis.proofs.DataTokenLaws.{data_token_is, type_token_is}

-- in constraint text
pub next_token : {s : List ℕ} {from sort : ℕ} → (token_at s from).sort ≡ sort → NextToken s from sort (token_at s from)
next_token {s} {from} e = LeafGrammar.next ((token_is s from _).0 refl) e

pub token_read : {s : List ℕ} {from : ℕ} {t : Token} → NextIs s from t → token_at s from ≡ t
token_read {s} {from} {t} n = (token_is s from t).1 n

pub sort_read : {s : List ℕ} {from sort : ℕ} {t : Token} → NextToken s from sort t → (token_at s from).sort ≡ sort
sort_read (LeafGrammar.next n e) = rw (token_read n) e

-- where a value may stand, a token that is no Duration pattern is the next token
pub content_low : (s : List ℕ) (from : ℕ) → (content_token_at s from).sort ≤ 99 → token_at s from ≡ content_token_at s from
content_low s from l = by ((content_is s from _).0 refl) l
  where
    by : {t : Token} → NextContentIs s from t → t.sort ≤ 99 → token_at s from ≡ t
    by (NextContentIs.pattern h) m = absurd (omega arith)
    by (NextContentIs.other k n) m = token_read k

pub content_token : {s : List ℕ} {from sort : ℕ} → (content_token_at s from).sort ≡ sort → sort ≤ 99
    → NextToken s from sort (content_token_at s from)
content_token {s} {from} e l = LeafGrammar.next ((token_is s from _).0 (content_low s from (rw e l))) e

-- the next token is the token there, where it is no TYPE before `}`
pub content_same : (s : List ℕ) (from : ℕ)
    → ((token_at s from).sort ≡ type_name → (token_at s (token_at s from).end).sort ≢ close_brace)
    → content_token_at s from ≡ token_at s from
content_same s from h = (content_is s from (token_at s from)).1 (NextContentIs.other ((token_is s from _).0 refl) none)
  where
    none : (start end flag : ℕ) → ¬ PatternHere s from start end flag
    none start end flag (pattern_here n k c) =
        let e = token_read n in
        h (ap (λ (t : Token). t.sort) e) (rw (e, token_read c) refl)

pub content_read : {s : List ℕ} {from sort : ℕ} {t : Token} → NextToken s from sort t → sort ≢ type_name
    → content_token_at s from ≡ t
content_read {s} {from} (LeafGrammar.next n e) h =
    let r = token_read n in
    content_same s from (λ k. absurd (h (sym e ∙ rw r at k))) ∙ r

-- a TYPE that spells a Duration pattern is the pattern before `}`
pub pattern_read : {s : List ℕ} {from f : ℕ} {t z : Token} → NextToken s from type_name t
    → SpellsPattern (spelling s t) f → NextToken s t.end close_brace z
    → content_token_at s from ≡ token (duration_pattern + f) t.start t.end
pattern_read {s} {from} {f} {t} {z} (LeafGrammar.next n e) k (LeafGrammar.next m d) =
    (pattern_here_lem s from t.start t.end f).1 (pattern_here
    (subst (λ (sort : ℕ). NextIs s from (token sort t.start t.end)) e n) k
    (subst (λ (sort : ℕ). NextIs s t.end (token sort z.start z.end)) d m))

pub pattern_stands : (s : List ℕ) (from f : ℕ) → (content_token_at s from).sort ≡ duration_pattern + f
    → PatternHere s from (content_token_at s from).start (content_token_at s from).end f
pattern_stands s from f e =
    let t = content_token_at s from in
    (pattern_here_lem s from t.start t.end f).0 (λ i. token (e i) t.start t.end)

-- its flag is 1 to 127
pub flag_least : {w : List ℕ} {f : ℕ} → SpellsPattern w f → 1 ≤ f
flag_least k = let n = slots_some k in omega arith

pub flag_most : {w : List ℕ} {f : ℕ} → SpellsPattern w f → f ≤ 127
flag_most {w} {f} k = let n = slots_some k in (pattern_only w f n ((pattern_is_lem w f n).1 k)).0

-- a date's token has ten bytes: no other token has its sort
date_ten : {w : List ℕ} → Spells date w → length w ≡ 10
date_ten (SpellingRules.date h) = refl

pub date_long : {s : List ℕ} {from : ℕ} {t : Token} → NextToken s from date t → length (spelling s t) ≡ 10
date_long {s} (LeafGrammar.next n e) = by n e
  where
    by : {from : ℕ} {t : Token} → NextIs s from t → t.sort ≡ date → length (spelling s t) ≡ 10
    by (NextIs.ends p h) f = absurd (omega arith)
    by (NextIs.none p h x) f = absurd (omega arith)
    by (NextIs.longest p x) f = date_ten (rw f at x.one.spelled)

-- in data text
pub next_data : {s : List ℕ} {from sort : ℕ} → (data_token_at s from).sort ≡ sort
    → NextDataToken s from sort (data_token_at s from)
next_data {s} {from} e = DataGrammar.next ((data_token_is s from _).0 refl) e

pub data_read : {s : List ℕ} {from : ℕ} {t : Token} → NextDataIs Classed s from t → data_token_at s from ≡ t
data_read {s} {from} {t} n = (data_token_is s from t).1 n

-- in data text behind `(`
pub next_type_lem : {s : List ℕ} {from : ℕ} → (type_token_at s from).sort ≡ type_name → NextType s from (type_token_at s from)
next_type_lem {s} {from} e = next_type ((type_token_is s from _).0 refl) e

pub type_read : {s : List ℕ} {from : ℕ} {t : Token} → NextDataIs ClassedBehind s from t → type_token_at s from ≡ t
type_read {s} {from} {t} n = (type_token_is s from t).1 n
