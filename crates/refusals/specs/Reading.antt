-- What reading a part of a text gives: its refusal, or a value and the place behind it. Assumes nothing.
use Rattle.std.specs.Prelude.{Bool, cond, ℕ}
use Rattle.refusals.specs.declared.Cause.{Cause}
use Rattle.refusals.specs.declared.Refusal.{Refusal}
use Rattle.refusals.specs.Refusals.{refusal}

pub data Reading (A : Type 0) : Type 0 where
  refused : Refusal → Reading A
  got : (value : A) (place : ℕ) → Reading A

abbrev pub refuse : {A : Type 0} → Cause → ℕ → Reading A
refuse cause place = refused (refusal cause place)

-- one reading after another: the first refusal is told
abbrev pub read_then : {A B : Type 0} → Reading A → (A → ℕ → Reading B) → Reading B
read_then (refused r) go = refused r
read_then (got a p) go = go a p

-- a fault, where the test finds one, or else what follows
abbrev pub read_unless : {A : Type 0} → Bool → Cause → ℕ → Reading A → Reading A
read_unless fault cause place more = cond fault (refuse cause place) more
