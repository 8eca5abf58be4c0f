-- The laws of outcomes: what a refusal and what a job gave leave in the output buffer, and what is known where a job of several tests gave something. Assumes nothing.
use mathlib.Core.Path.{◌≡◌, refl, sym, ap}
use mathlib.Core.Bool.{Bool, true, false}
use mathlib.Core.Logic.{◌⊎◌, inl, inr}
use Rattle.std.specs.Prelude.{Option, None, Some}
use mathlib.Core.List.{List, ◌++◌}
use Prim.Native.Nat.{ℕ, ◌+◌, ◌≤◌, ◌<◌}
use native.Mathlib.Omega.{arith}
use lib.Dec.{ltb}
use lib.ListN.{length, take, drop}
use lib.Seq.{sets, sets-eq, take-append_seam}
use borrow.Author.Tests.{ltb-true, ltb-false}
use Rattle.lexis.proofs.Cases.{by_cond}
use Rattle.refusals.specs.declared.Cause.{Cause}
use Rattle.refusals.specs.declared.Cause.TheVariants.{OutputTooShort}
use Rattle.refusals.specs.declared.Refusal.{Refusal}
use Rattle.refusals.specs.Reading.{Reading, got}
use Rattle.refusals.specs.Outcomes.{Outcome, refused, gave, or_fault, unless, after_reading, Written, fitting, write}

-- the cases of an outcome differ, and each holds one value
module _ {E A : Type 0} where
  pub not_gave : {e : E} {a : A} → refused e ≡ gave a → ⊥
  not_gave h = let z : ◌≡◌ {A = ℕ} 0 1 = cc in omega arith

  pub same_refusal : {e f : E} → ◌≡◌ {A = Outcome E A} (refused e) (refused f) → e ≡ f
  same_refusal h = cc

  pub same_given : {a b : A} → ◌≡◌ {A = Outcome E A} (gave a) (gave b) → a ≡ b
  same_given h = cc

-- what a job reports, and the buffer as it leaves it: the bytes in front, and the rest as it was
pub record Gives {E A : Type 0} (o : Outcome E (Written A)) (out : List ℕ) (report : A) : Type 0 where
  pub written : Written A
  pub is : o ≡ gave written
  pub report_is : written.report ≡ report
  pub out_is : (write o out).out ≡ written.bytes ++ drop (length written.bytes) out

module _ {E A : Type 0} where
  -- a refusal leaves every byte of the buffer as it was
  pub refusal_keeps : (o : Outcome E (Written A)) (out : List ℕ) (e : E) → (write o out).answer ≡ refused e
      → (write o out).out ≡ out
  refusal_keeps (refused f) out e h = refl
  refusal_keeps (gave w) out e h = absurd (not_gave (sym h))

  pub refusal_is : (o : Outcome E (Written A)) (out : List ℕ) (e : E) → (write o out).answer ≡ refused e → o ≡ refused e
  refusal_is (refused f) out e h = ap refused (same_refusal h)
  refusal_is (gave w) out e h = absurd (not_gave (sym h))

  pub gives : (o : Outcome E (Written A)) (out : List ℕ) (report : A) → (write o out).answer ≡ gave report
      → Gives o out report
  gives (refused f) out report h = absurd (not_gave h)
  gives (gave w) out report h = record { written = w; is = refl; report_is = same_given h; out_is = refl }

  -- what was given stands in front
  pub front_is : {o : Outcome E (Written A)} {out : List ℕ} {report : A} (g : Gives o out report) (w : Written A)
      → w ≡ g.written → take (length w.bytes) (write o out).out ≡ w.bytes
  front_is {out = out} g w e = rw (g.out_is, ← e) (take-append_seam w.bytes (drop (length w.bytes) out))

-- bytes stored from the start of a buffer stand in front
pub front_stored : (bs out : List ℕ) → length bs ≤ length out → sets out 0 bs ≡ bs ++ drop (length bs) out
front_stored bs out h = let e : 0 + length bs ≡ length bs = omega arith in rw e at (sets-eq bs out 0 (omega arith))

-- where something was given, no test before found a fault
module _ {E A : Type 0} (a : A) where
  pub no_fault_lem : (f : Option E) (more : Outcome E A) → or_fault f more ≡ gave a → (f ≡ None) × (more ≡ gave a)
  no_fault_lem None more h = (refl, h)
  no_fault_lem (Some e) more h = absurd (not_gave h)

  pub not_found : (fault : Bool) (e : E) (more : Outcome E A) → unless fault e more ≡ gave a
      → (fault ≡ false) × (more ≡ gave a)
  not_found true e more h = absurd (not_gave h)
  not_found false e more h = (refl, h)

-- what fits is given, and the output has room for it; what does not fit is refused
module _ {E A : Type 0} (refuse : Cause → ℕ → E) (place room : ℕ) (w : Written A) where
  pub fits : (v : Written A) → fitting refuse place room w ≡ gave v → (length w.bytes ≤ room) × (w ≡ v)
  fits v h =
      let x = not_found v (ltb room (length w.bytes)) (refuse OutputTooShort place) (gave w) h in
      (ltb-false room (length w.bytes) x.0, same_given x.1)

  pub too_short : (e : E) → fitting refuse place room w ≡ refused e
      → (room < length w.bytes) × (refuse OutputTooShort place ≡ e)
  too_short e =
      by_cond (λ o. o ≡ refused e → (room < length w.bytes) × (refuse OutputTooShort place ≡ e)) (ltb room (length w.bytes))
      (λ f h. (ltb-true room (length w.bytes) f, same_refusal h))
      (λ f h. absurd (not_gave (sym h)))

-- what follows from a text that was read
pub record Read {A B : Type 0} (r : Reading A) (more : A → Outcome Refusal B) (o : Outcome Refusal B) : Type 0 where
  pub value : A
  pub place : ℕ
  pub is : r ≡ got value place
  pub follows : more value ≡ o

module _ {A B : Type 0} where
  pub was_read : (r : Reading A) (more : A → Outcome Refusal B) (b : B) → after_reading r more ≡ gave b
      → Read r more (gave b)
  was_read (Reading.refused y) more b h = absurd (not_gave h)
  was_read (got a p) more b h = record { value = a; place = p; is = refl; follows = h }

  pub refused_or_read : (r : Reading A) (more : A → Outcome Refusal B) (e : Refusal) → after_reading r more ≡ refused e
      → (r ≡ Reading.refused e) ⊎ Read r more (refused e)
  refused_or_read (Reading.refused y) more e h = inl (ap Reading.refused (same_refusal h))
  refused_or_read (got a p) more e h = inr (record { value = a; place = p; is = refl; follows = h })
