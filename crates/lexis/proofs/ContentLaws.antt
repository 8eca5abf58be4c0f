-- The next token where a value may stand is the one that the rules give. Assumes nothing.
use mathlib.Core.Path.{◌≡◌, refl, sym, ◌∙◌, subst}
use mathlib.Core.Logic.{◌↔◌}
use mathlib.Core.Bool.{Bool, true, false, ◌&&◌}
use mathlib.Core.List.{List}
use Prim.Native.Nat.{ℕ, ◌+◌, ◌≤◌}
use native.Mathlib.Omega.{arith}
use lib.Dec.{eqb, leb}
use borrow.Author.Tests.{eqb-true, eq-eqb, leb-true, le-leb}
use Rattle.lexis.specs.Spelling.{close_brace}
use Rattle.lexis.specs.SpellingRules.{Spells}
use Rattle.lexis.specs.SpellingRules
use Rattle.lexis.specs.Durations.{pattern_slots, duration_pattern}
use Rattle.lexis.specs.DurationRules.{SpellsPattern}
use Rattle.lexis.specs.Tokens.{token, type_name, spelling, token_at, duration_flag, content_token_at}
use Rattle.lexis.specs.LongestMatch.{NextIs, PatternHere, pattern_here, NextContentIs}
use Rattle.lexis.specs.declared.Token.{Token}
use Rattle.lexis.proofs.Cases.{and_left, and_right}
use Rattle.lexis.proofs.TestLaws.{true_or_false, false_true}
use Rattle.lexis.proofs.TokenLaws.{next_is, is_next}
use Rattle.lexis.proofs.SlotLaws.{slots_some}
use Rattle.lexis.proofs.DurationLaws.{pattern_is_lem}
use Rattle.lexis.proofs.ContentSteps.{flag_type}

-- the test by which a TYPE is taken for a pattern
abbrev pattern_test : List ℕ → ℕ → Bool
pattern_test s from =
    leb 1 (duration_flag s (token_at s from)) && eqb (token_at s (token_at s from).end).sort close_brace

-- a token of a sort is the next
of_sort : (s : List ℕ) (from sort : ℕ) → (token_at s from).sort ≡ sort
    → NextIs s from (token sort (token_at s from).start (token_at s from).end)
of_sort s from sort e = subst (λ (n : ℕ). NextIs s from (token n (token_at s from).start (token_at s from).end)) e (next_is s from)

-- where the test passes, a pattern stands
test_here : (s : List ℕ) (from : ℕ) → pattern_test s from ≡ true
    → PatternHere s from (token_at s from).start (token_at s from).end (duration_flag s (token_at s from))
test_here s from h =
    let t = token_at s from in
    let flag = duration_flag s t in
    let l = leb-true 1 flag (and_left (leb 1 flag) (eqb (token_at s t.end).sort close_brace) h) in
    let c = eqb-true (token_at s t.end).sort close_brace (and_right (leb 1 flag) (eqb (token_at s t.end).sort close_brace) h) in
    let k = flag_type s t (and_left (leb 1 flag) (eqb (token_at s t.end).sort close_brace) h) in
    let e : flag ≡ pattern_slots (spelling s t) = rw (eq-eqb t.sort type_name k) refl in
    pattern_here (of_sort s from type_name k) ((pattern_is_lem (spelling s t) flag (λ z. omega arith)).0 (sym e)) (of_sort s t.end close_brace c)

-- a pattern's flag is read, and above 0
spelled_flag : {w : List ℕ} {flag : ℕ} → SpellsPattern w flag → (pattern_slots w ≡ flag) × (leb 1 flag ≡ true)
spelled_flag {w} {flag} k = let n = slots_some k in ((pattern_is_lem w flag n).1 k, le-leb 1 flag (omega arith))

-- where a pattern stands, it is the token
here_content : {s : List ℕ} {from start end flag : ℕ} → PatternHere s from start end flag
    → content_token_at s from ≡ token (duration_pattern + flag) start end
unfolding content_token_at
here_content (pattern_here t k c) = let (f, l) = spelled_flag k in rw (is_next t, f, l, is_next c) refl

-- the test and the token
content_true : (s : List ℕ) (from : ℕ) → pattern_test s from ≡ true
    → content_token_at s from ≡ token (duration_pattern + duration_flag s (token_at s from)) (token_at s from).start (token_at s from).end
unfolding content_token_at
content_true s from h = rw h refl

content_false : (s : List ℕ) (from : ℕ) → pattern_test s from ≡ false → content_token_at s from ≡ token_at s from
unfolding content_token_at
content_false s from h = rw h refl

-- a pattern passes the test
here_test : {s : List ℕ} {from start end flag : ℕ} → PatternHere s from start end flag → pattern_test s from ≡ true
here_test (pattern_here t k c) = let (f, l) = spelled_flag k in rw (is_next t, f, l, is_next c) refl

next_content : (s : List ℕ) (from : ℕ) → NextContentIs s from (content_token_at s from)
next_content s from =
    true_or_false (pattern_test s from)
    (λ h. rw (content_true s from h) (NextContentIs.pattern (test_here s from h)))
    (λ h. rw (content_false s from h) (NextContentIs.other (next_is s from) (λ a e f k. false_true (sym h ∙ here_test k))))

content_next : {s : List ℕ} {from : ℕ} {t : Token} → NextContentIs s from t → content_token_at s from ≡ t
content_next (NextContentIs.pattern h) = here_content h
content_next {s} {from} {t} (NextContentIs.other k n) =
    true_or_false (pattern_test s from)
    (λ h. absurd (n _ _ _ (test_here s from h)))
    (λ h. content_false s from h ∙ is_next k)

-- the definition and the rules give one token where a value may stand
pub content_is : (s : List ℕ) (from : ℕ) (t : Token) → (content_token_at s from ≡ t) ↔ NextContentIs s from t
content_is s from t = (λ e. rw e at (next_content s from), content_next)

-- no token of constraint text has the sort of a Duration pattern
sort_low : {sort : ℕ} {w : List ℕ} → Spells sort w → sort ≤ 99
sort_low (SpellingRules.type h) = omega arith
sort_low (SpellingRules.name h) = omega arith
sort_low SpellingRules.matches = omega arith
sort_low SpellingRules.element = omega arith
sort_low SpellingRules.existence = omega arith
sort_low SpellingRules.is_true = omega arith
sort_low SpellingRules.is_false = omega arith
sort_low (SpellingRules.code h) = omega arith
sort_low (SpellingRules.plain_integer h) = omega arith
sort_low (SpellingRules.signed_integer h) = omega arith
sort_low (SpellingRules.date h) = omega arith
sort_low (SpellingRules.string h) = omega arith
sort_low SpellingRules.open_brace = omega arith
sort_low SpellingRules.close_brace = omega arith
sort_low SpellingRules.comma = omega arith
sort_low SpellingRules.star = omega arith
sort_low SpellingRules.bar = omega arith
sort_low SpellingRules.dots = omega arith
sort_low SpellingRules.less = omega arith
sort_low SpellingRules.greater = omega arith
sort_low SpellingRules.at_most = omega arith
sort_low SpellingRules.at_least = omega arith
sort_low SpellingRules.plus_minus = omega arith
sort_low SpellingRules.date_pattern1 = omega arith
sort_low SpellingRules.date_pattern2 = omega arith
sort_low SpellingRules.date_pattern3 = omega arith
sort_low SpellingRules.date_pattern4 = omega arith
sort_low SpellingRules.date_pattern5 = omega arith
sort_low SpellingRules.time_pattern1 = omega arith
sort_low SpellingRules.time_pattern2 = omega arith
sort_low SpellingRules.time_pattern3 = omega arith
sort_low SpellingRules.time_pattern4 = omega arith

pub next_low : {s : List ℕ} {from : ℕ} {t : Token} → NextIs s from t → t.sort ≤ 99
next_low (NextIs.ends g l) = omega arith
next_low (NextIs.none g l n) = omega arith
next_low (NextIs.longest g p) = sort_low p.one.spelled

-- the token has a Duration pattern's sort exactly where a TYPE that spells the pattern stands before `}`
sorted_here : {s : List ℕ} {from f : ℕ} {t : Token} → NextContentIs s from t → t.sort ≡ duration_pattern + f
    → PatternHere s from t.start t.end f
sorted_here {s} {from} {f} (NextContentIs.pattern {start = a} {end = b} {flag = g} h) e =
    let z : g ≡ f = omega arith in subst (λ (n : ℕ). PatternHere s from a b n) z h
sorted_here (NextContentIs.other k n) e = let l = next_low k in absurd (omega arith)

pub pattern_here_lem : (s : List ℕ) (from start end flag : ℕ)
    → (content_token_at s from ≡ token (duration_pattern + flag) start end) ↔ PatternHere s from start end flag
pattern_here_lem s from start end flag =
    (λ e. sorted_here (rw e at (next_content s from)) refl, here_content)
