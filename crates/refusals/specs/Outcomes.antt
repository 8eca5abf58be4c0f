-- What a job answers, and the output buffer behind it. Document 01, 'Numbers of refusal', 11: "output too short"; "On refusal no byte of output changes; on success only bytes past the
-- table's end stay". Assumes nothing.
use Rattle.std.specs.Prelude.{Bool, cond, List, ◌++◌, ℕ, ltb, length, drop}
use Rattle.std.specs.Prelude.{Option, None, Some}
use Rattle.refusals.specs.declared.Cause.{Cause}
use Rattle.refusals.specs.declared.Cause.TheVariants.{OutputTooShort}
use Rattle.refusals.specs.declared.Refusal.{Refusal}
use Rattle.refusals.specs.Reading.{Reading, got}

-- an answer: why a job refuses, or what it gives
pub data Outcome (E A : Type 0) : Type 0 where
  refused : E → Outcome E A
  gave : A → Outcome E A

-- a fault, if there is one, or else what follows
abbrev pub or_fault : {E A : Type 0} → Option E → Outcome E A → Outcome E A
or_fault None more = more
or_fault (Some e) more = refused e

-- a fault, where the test finds one, or else what follows
abbrev pub unless : {E A : Type 0} → Bool → E → Outcome E A → Outcome E A
unless fault e more = cond fault (refused e) more

-- the refusal of a text that is read, or else what follows from the value
abbrev pub after_reading : {A B : Type 0} → Reading A → (A → Outcome Refusal B) → Outcome Refusal B
after_reading (Reading.refused r) more = refused r
after_reading (got a place) more = more a

-- the bytes that a job writes, and what it reports
pub record Written (A : Type 0) : Type 0 where
  pub bytes : List ℕ
  pub report : A

abbrev pub writes : {A : Type 0} → List ℕ → A → Written A
writes bytes report = record { bytes = bytes; report = report }

-- 11 where the bytes are more than the output has room for; each job has its own place for it
abbrev pub fitting : {E A : Type 0} → (Cause → ℕ → E) → (place room : ℕ) → Written A → Outcome E (Written A)
fitting refuse place room w = unless (ltb room (length w.bytes)) (refuse OutputTooShort place) (gave w)

-- an answer and the output buffer as it is left
pub record Answered (E A : Type 0) : Type 0 where
  pub answer : Outcome E A
  pub out : List ℕ

abbrev pub answered : {E A : Type 0} → Outcome E A → List ℕ → Answered E A
answered answer out = record { answer = answer; out = out }

-- a refusal leaves the buffer as it was; else the bytes stand at its front, and the rest stays
abbrev pub write : {E A : Type 0} → Outcome E (Written A) → List ℕ → Answered E A
write (refused e) out = answered (refused e) out
write (gave w) out = answered (gave w.report) (w.bytes ++ drop (length w.bytes) out)
