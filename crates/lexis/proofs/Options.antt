-- A number of which 0 means none, as an option. Assumes nothing.
use mathlib.Core.Path.{◌≡◌, refl, sym}
use mathlib.Core.Bool.{Bool, true, false, cond}
use Prim.Native.Nat.{ℕ}
use lib.Dec.{eqb}
use borrow.Author.Tests.{eqb-true, ne_eqb, eqb-false}
use Rattle.std.specs.Prelude.{Some, None}
use Rattle.std.proofs.lemmas.Option.{none-some, same_Some}
use Rattle.lexis.specs.Clauses.Answers.{unless_zero}

pub above_some : (n : ℕ) → (n ≡ 0 → ⊥) → Some n ≡ unless_zero n
above_some n e = rw (ne_eqb n 0 e) refl

pub none_zero : (n : ℕ) → None ≡ unless_zero n → n ≡ 0
none_zero n h = by (eqb n 0) refl h
  where
    by : (b : Bool) → eqb n 0 ≡ b → None ≡ cond b None (Some n) → n ≡ 0
    by true e k = eqb-true n 0 e
    by false e k = absurd (none-some n k)

-- what is there is the number, and not 0
pub some_above : (n x : ℕ) → Some x ≡ unless_zero n → (x ≡ n) × (n ≡ 0 → ⊥)
some_above n x h = by (eqb n 0) refl h
  where
    by : (b : Bool) → eqb n 0 ≡ b → Some x ≡ cond b None (Some n) → (x ≡ n) × (n ≡ 0 → ⊥)
    by true e k = absurd (none-some x (sym k))
    by false e k = (same_Some x n k, eqb-false n 0 e)
