-- A constraint text that is read is read up to its end. Assumes nothing.
use mathlib.Core.Path.{◌≡◌, refl}
use mathlib.Core.List.{List}
use Prim.Native.Nat.{ℕ, ◌≤◌}
use native.Mathlib.Omega.{arith}
use lib.Dec.{ltb}
use lib.ListN.{length}
use Rattle.lexis.specs.Tokens.{text_end}
use Rattle.lexis.specs.declared.Token.{Token}
use Rattle.refusals.specs.Limits.{text_limit, level_limit}
use Rattle.refusals.specs.Reading.{Reading, refused, got, read_then}
use Rattle.refusals.specs.declared.Cause.TheVariants.{TextTooLong}
use Rattle.refusals.specs.Expecting.{expect}
use Rattle.refusals.proofs.Readings.{Holds}
use Rattle.meaning.specs.Constraints.{Object}
use Rattle.cadl_objects.specs.Clauses.Told.{object_from}
use Rattle.cadl_objects.specs.Texts.{constraint_of}
use Rattle.cadl_objects.proofs.TreeParts.{constraint_is}
use Rattle.cadl_objects.proofs.TreeReading.{ObjectRead, object_holds}
use Rattle.lexis.specs.SpellingRules.{Spells}
use Rattle.lexis.specs.LongestMatch.{NextIs}
use Rattle.rules_grammar.specs.LeafGrammar.{next}
use Rattle.rules_grammar.proofs.Given.{Gives, got_gives, refuse_gives, unless_gives, then_gives, given}
use Rattle.rules_grammar.proofs.Items.{Took, took, expect_gives}
use Rattle.rules_grammar.proofs.Constrained.{next_found}

-- the text's end, as a token, ends where the text does: no other token has its sort
end_no_spelling : {w : List ℕ} → ¬ Spells text_end w
end_no_spelling = elim [ ]

at_end_lem : {s : List ℕ} {from : ℕ} {t : Token} → NextIs s from t → t.sort ≡ text_end → length s ≤ t.end
at_end_lem (NextIs.ends p h) e = h
at_end_lem (NextIs.none p h x) e = absurd (omega arith)
at_end_lem (NextIs.longest p x) e = absurd (end_no_spelling (rw e at x.one.spelled))

whole_gives : (s : List ℕ) → Gives (λ (o : Object) p. p ≡ length s) (constraint_of s)
unfolding Holds
whole_gives s = rw (constraint_is s) (unless_gives P (ltb text_limit (length s)) TextTooLong text_limit _ (λ l. by_object (object_from s level_limit 1 0) refl))
  where
    P : Object → ℕ → Type 0
    P o p = p ≡ length s

    ends : {t : Token} {p q : ℕ} → Took s text_end p t q → p ≤ length s → q ≡ length s
    ends (took (next n e)) h =
        let a = at_end_lem n e in
        let f = next_found (next n e) h in
        omega arith

    by_object : (r : Reading Object) → object_from s level_limit 1 0 ≡ r
        → Gives P (read_then r (λ o p. read_then (expect s text_end p) (λ t q. got o q)))
    by_object (refused x) e = refuse_gives P x.cause x.place
    by_object (got o p) e =
        let r : ObjectRead s 1 0 o p = rw e at (object_holds s level_limit 1 0 (omega arith)) in
        then_gives P (Took s text_end p) (expect s text_end p) _ (expect_gives s text_end p) (λ t q y. got_gives P o q (ends y r.most))

-- a text that is read is read up to its end
pub read_whole : (s : List ℕ) (o : Object) (p : ℕ) → constraint_of s ≡ got o p → p ≡ length s
read_whole s o p h = given (λ (x : Object) q. q ≡ length s) (constraint_of s) o p (whole_gives s) h
