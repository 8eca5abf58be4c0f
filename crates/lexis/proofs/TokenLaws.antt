-- The next token of a constraint text is the one that the rule of the longest match gives. Assumes nothing.
use mathlib.Core.Path.{◌≡◌, refl, sym, ap, ◌∙◌}
use mathlib.Core.Logic.{◌↔◌}
use mathlib.Core.List.{List}
use Prim.Native.Nat.{ℕ, ◌+◌, ◌≤◌, ◌<◌}
use native.Mathlib.Omega.{arith}
use lib.Dec.{leb}
use lib.ListN.{length, drop}
use borrow.Author.Tests.{leb-true, leb-false, le-leb}
use Rattle.lexis.specs.Runs.{part}
use Rattle.lexis.specs.Blanks.{token_start}
use Rattle.lexis.specs.Tokens.{token, no_token, text_end, unreadable, token_on, token_at}
use Rattle.lexis.specs.declared.Token.{Token}
use Rattle.lexis.proofs.Parts.{part_length}
use Rattle.lexis.specs.SpellingRules.{Spells}
use Rattle.lexis.specs.LongestMatch.{Separates, SpelledAt, LongestAt, NextIs}
use Rattle.lexis.proofs.TestLaws.{true_or_false}
use Rattle.lexis.proofs.ByteRules.{part_splits}
use Rattle.lexis.proofs.SeparatorLaws.{separated}
use Rattle.lexis.proofs.TokensReach.{Reaches, reaches}
use Rattle.lexis.proofs.TokensSpelled.{Reads, on_reads}

-- where a token is spelled, the definition's can be read, ends no earlier, and has its sort where it ends with it
covers : {s : List ℕ} {at sort end : ℕ} → SpelledAt Spells s at sort end → Reaches end sort (token_on s at)
covers {s} {at} {sort} {end} p =
    let o = p.ordered in
    let l = part_length s at end p.inside in
    let e : at + length (part s at end) ≡ end = omega arith in
    rw e at (reaches p.spelled s at (drop end s) (part_splits s at end o))

-- behind the text's end
ends_on : (s : List ℕ) (at : ℕ) → length s ≤ at → token_on s at ≡ token text_end at at
unfolding token_on
ends_on s at l = rw (le-leb (length s) at l)

-- what the definition reads at a place, and the rules
module _ (s : List ℕ) (at : ℕ) where
  -- nothing is spelled where the text ends or the definition reads nothing
  no_sort : {t : Token} → token_on s at ≡ t → t.sort ≤ unreadable → (sort end : ℕ) → ¬ SpelledAt Spells s at sort end
  no_sort e l sort end p =
      let n = ap (λ (t : Token). t.sort) e in
      let r = (covers p).readable in
      omega arith

  -- what is spelled has a byte
  spelled-inside : {sort end : ℕ} → SpelledAt Spells s at sort end → at < length s
  spelled-inside {sort} {end} p =
      true_or_false (leb (length s) at) (λ e. absurd (no_sort (ends_on s at (leb-true _ _ e)) (omega arith) sort end p)) (λ e. leb-false _ _ e)

  -- nothing longer than the token found is spelled
  no_longer : {t : Token} → token_on s at ≡ t → (sort end : ℕ) → SpelledAt Spells s at sort end → end ≤ t.end
  no_longer e sort end p =
      let n = ap (λ (t : Token). t.end) e in
      let f = (covers p).far in
      omega arith

  -- what is read is the next token
  read_next : {from : ℕ} {t : Token} → Separates s from at → at < length s → token_on s at ≡ t → Reads s at t
      → NextIs s from t
  read_next g l e Reads.nothing = NextIs.none g l (no_sort e (omega arith))
  read_next g l e (Reads.something p) = NextIs.longest g (record { one = p; longest = no_longer e })

  -- where nothing is spelled, nothing is read
  none_read : {t : Token} → Reads s at t → ((sort end : ℕ) → ¬ SpelledAt Spells s at sort end) → t ≡ no_token at
  none_read Reads.nothing n = refl
  none_read (Reads.something {sort = sort} {end = end} p) n = absurd (n sort end p)

  -- the longest that is spelled is what is read
  longest_read : {sort end : ℕ} {t : Token} → token_on s at ≡ t → Reads s at t → LongestAt Spells s at sort end
      → t ≡ token sort at end
  longest_read {sort} {end} e Reads.nothing g = absurd (no_sort e (omega arith) sort end g.one)
  longest_read {sort} {end} e (Reads.something {sort = x} {end = y} p) g =
      let l = no_longer e sort end g.one in
      let m = g.longest x y p in
      let q : y ≡ end = omega arith in
      let r : x ≡ sort = alike (covers g.one) q in
      λ i. token (r i) at (q i)
    where
      alike : Reaches end sort (token_on s at) → y ≡ end → x ≡ sort
      alike c q = sym (ap (λ (t : Token). t.sort) e) ∙ c.alike (ap (λ (t : Token). t.end) e ∙ q)

-- the token that the definition finds is the next
pub next_is : (s : List ℕ) (from : ℕ) → NextIs s from (token_at s from)
unfolding token_at
next_is s from =
    let at = token_start s from in
    let g = (separated s from at).0 refl in
    true_or_false (leb (length s) at)
    (λ e. let l = leb-true (length s) at e in rw (ends_on s at l) (NextIs.ends g l))
    (λ e. let l = leb-false (length s) at e in read_next s at g l refl (on_reads s at l))

-- the next token is the one that the definition finds
pub is_next : {s : List ℕ} {from : ℕ} {t : Token} → NextIs s from t → token_at s from ≡ t
unfolding token_at
is_next {s} {from} (NextIs.ends {at = at} g l) = ap (token_on s) ((separated s from at).1 g) ∙ ends_on s at l
is_next {s} {from} (NextIs.none {at = at} g l n) = ap (token_on s) ((separated s from at).1 g) ∙ none_read s at (on_reads s at l) n
is_next {s} {from} (NextIs.longest {at = at} g p) =
    ap (token_on s) ((separated s from at).1 g) ∙ longest_read s at refl (on_reads s at (spelled-inside s at p.one)) p

-- the definition and the rules give one next token
pub token_is : (s : List ℕ) (from : ℕ) (t : Token) → (token_at s from ≡ t) ↔ NextIs s from t
token_is s from t = (λ e. rw e at (next_is s from), is_next)
