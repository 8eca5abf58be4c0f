-- Tests joined by `&&`, as code takes them: one that fails is the answer, and where one passes the rest is. Assumes nothing.
use mathlib.Core.Path.{◌≡◌}
use mathlib.Core.Bool.{Bool, true, false, ◌&&◌, and-true}
use Prim.Native.Nat.{ℕ, ◌≤◌, ◌<◌}
use lib.Dec.{eqb, leb, ltb}
use borrow.Author.Tests.{eq-eqb, ne_eqb, le-leb, lt-leb, le-ltb, lt-ltb}

-- a test f whose outcome is a flag
module _ (f t rest : Bool) (e : f ≡ t) where
  pub fails : f ≡ false → f ≡ (t && rest)
  fails h = rw (← e, h)

  pub passes : (x : Bool) → f ≡ true → x ≡ rest → x ≡ (t && rest)
  passes x h q = rw (← e, h) q

-- a test of two numbers
module _ (a b : ℕ) (rest : Bool) where
  pub fails_eq : (a ≡ b → ⊥) → eqb a b ≡ (eqb a b && rest)
  fails_eq h = rw (ne_eqb a b h)

  pub passes_eq : (x : Bool) → a ≡ b → x ≡ rest → x ≡ (eqb a b && rest)
  passes_eq x h q = rw (eq-eqb a b h) q

  pub fails_le : b < a → leb a b ≡ (leb a b && rest)
  fails_le h = rw (lt-leb a b h)

  pub passes_le : (x : Bool) → a ≤ b → x ≡ rest → x ≡ (leb a b && rest)
  passes_le x h q = rw (le-leb a b h) q

  pub fails_lt : b ≤ a → ltb a b ≡ (ltb a b && rest)
  fails_lt h = rw (le-ltb a b h)

  pub passes_lt : (x : Bool) → a < b → x ≡ rest → x ≡ (ltb a b && rest)
  passes_lt x h q = rw (lt-ltb a b h) q

-- the last test
pub ends : (f t : Bool) → f ≡ t → f ≡ (t && true)
ends f t e = rw and-true e

pub ruleset chain_steps = (ends, fails_eq, passes_eq, fails_le, passes_le, fails_lt, passes_lt, fails, passes)
