-- What a data text gives under an object: its refusal, the least of its faults, or the verdict on the datum that it derives. Assumes nothing.
use mathlib.Core.Path.{◌≡◌, refl, sym, subst}
use mathlib.Core.Logic.{◌↔◌}
use mathlib.Core.List.{List}
use Prim.Native.Nat.{ℕ, ◌<◌}
use lib.ListN.{length}
use borrow.Author.Tests.{lt-ltb}
use Rattle.refusals.specs.Limits.{text_limit, level_limit}
use Rattle.refusals.specs.Reading.{Reading, got}
use Rattle.refusals.specs.Outcomes
use Rattle.refusals.specs.Outcomes.{Outcome, gave}
use Rattle.refusals.specs.Refusals.{refusal}
use Rattle.refusals.specs.declared.Refusal.{Refusal}
use Rattle.refusals.specs.declared.Cause.TheVariants.{TextTooLong}
use Rattle.refusals.proofs.Outcomes.{not_gave, same_refusal, same_given}
use Rattle.meaning.specs.Constraints.{Object}
use Rattle.meaning.specs.Data.{Datum}
use Rattle.meaning.specs.Verdicts.{Verdict}
use Rattle.meaning.specs.Judging.{judge}
use Rattle.dadl.specs.Placed.{Block, spelled_block}
use Rattle.dadl.specs.Data.{data_text, block_of, datum_of}
use Rattle.judge.specs.Judge.{judge_text}
use Rattle.rules_grammar.specs.DataGrammar.{DerivesData}
use Rattle.rules_grammar.proofs.Derived
use Rattle.rules_faults.specs.Faults.{Least, Alike}
use Rattle.rules_faults.specs.DataFaults
use Rattle.rules_faults.proofs.Scanned

module _ (o : Object) (form : List ℕ) where
  derived_answer : (b : Block) → DerivesData level_limit form b → judge_text o form ≡ gave (judge o (spelled_block b form))
  derived_answer b d = rw (Derived.says_derived level_limit form b d)

  refused_answer : (x : Refusal) → block_of level_limit form ≡ Reading.refused x → judge_text o form ≡ Outcomes.refused x
  unfolding datum_of
  refused_answer x e = rw e

  -- the text is refused, or its datum judged
  data Judging : Type 0 where
    unread : (x : Refusal) → block_of level_limit form ≡ Reading.refused x → judge_text o form ≡ Outcomes.refused x
        → Judging
    read : (b : Block) → DerivesData level_limit form b → judge_text o form ≡ gave (judge o (spelled_block b form))
        → Judging

  judging : Judging
  judging = by (block_of level_limit form) refl
    where
      by : (r : Reading Block) → block_of level_limit form ≡ r → Judging
      by (Reading.refused x) e = unread x e (refused_answer x e)
      by (got b p) e =
          let w : p ≡ length form = Derived.read_whole level_limit form b p e in
          let d = (Derived.read_derives level_limit form b).0 (subst (λ (q : ℕ). block_of level_limit form ≡ got b q) w e) in
          read b d (derived_answer b d)

  -- a verdict is told exactly where a datum is derived that has it
  pub text_verdict : (v : Verdict) (P : Datum → Type 0)
      → ((d : Datum) → (judge o d ≡ v) ↔ P d)
      → (judge_text o form ≡ gave v) ↔ ((b : Block) × DerivesData level_limit form b × P (spelled_block b form))
  text_verdict v P f = (λ e. by e judging, λ x. let k = derived_answer x.0 x.1 in let m = (f (spelled_block x.0 form)).1 x.2 in rw (k, m))
    where
      by : judge_text o form ≡ gave v → Judging → (b : Block) × DerivesData level_limit form b × P (spelled_block b form)
      by e (unread x g k) = absurd (not_gave (subst (λ (a : Outcome Refusal Verdict). a ≡ gave v) k e))
      by e (read b d k) = (b, d, (f (spelled_block b form)).0 (same_given (subst (λ (a : Outcome Refusal Verdict). a ≡ gave v) k e)))

  pub text_unread : (r : Refusal) → judge_text o form ≡ Outcomes.refused r → Least r (DataFaults.faults level_limit form)
  text_unread r e = by judging
    where
      by : Judging → Least r (DataFaults.faults level_limit form)
      by (unread x g k) = subst (λ (w : Refusal). Least w (DataFaults.faults level_limit form)) (same_refusal (subst (λ (a : Outcome Refusal Verdict). a ≡ Outcomes.refused r) k e)) (Scanned.refused_least level_limit form x g)
      by (read b d k) = absurd (not_gave (sym (subst (λ (a : Outcome Refusal Verdict). a ≡ Outcomes.refused r) k e)))

  pub text_least : (x : Refusal) → Least x (DataFaults.faults level_limit form)
      → (r : Refusal) × (judge_text o form ≡ Outcomes.refused r) × Alike x r
  text_least x l = let y = Scanned.least_refused level_limit form x l in (y.0, refused_answer y.0 y.1, y.2)

  -- a text that is too long
  pub text_long : text_limit < length form → judge_text o form ≡ Outcomes.refused (refusal TextTooLong text_limit)
  unfolding datum_of block_of data_text
  text_long l = rw (lt-ltb text_limit (length form) l)
