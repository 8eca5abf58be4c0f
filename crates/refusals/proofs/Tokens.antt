-- Tokens with a byte, and the number of a syntax fault. Assumes nothing.
use mathlib.Core.Path.{◌≡◌, refl}
use mathlib.Core.List.{List}
use Prim.Native.Nat.{ℕ, ◌≤◌, ◌<◌}
use native.Mathlib.Omega.{arith}
use lib.Dec.{eqb}
use lib.ListN.{length}
use Rattle.lexis.specs.Tokens.{text_end, unreadable}
use Rattle.lexis.specs.declared.Token.{Token}
use Rattle.lexis.proofs.Cases.{by_cond}
use Rattle.lexis.proofs.Places.{Found}
use Rattle.refusals.specs.Refusals.{number_of}
use Rattle.refusals.specs.Expecting.{syntax_cause}

-- the token t with a byte, taken from a place on, and the place p behind it
pub record Passed (s : List ℕ) (from : ℕ) (t : Token) (p : ℕ) : Type 0 where
  pub start : from ≤ t.start
  pub order : t.start < p
  pub behind : p ≡ t.end
  pub inside : p ≤ length s

-- sorts from 2 on have a byte
pub strict_of : (sort : ℕ) → 1 < sort → (t : Token) (s : List ℕ) (from : ℕ) → Found s from t → t.sort ≡ sort
    → t.start < t.end
strict_of sort h t s from f e = f.strict (λ z. absurd (omega arith)) (λ z. absurd (omega arith))

-- a syntax fault's number is 2
pub syntax_two : (t : Token) → number_of (syntax_cause t) ≡ 2
unfolding number_of
syntax_two t = by_cond (λ c. number_of c ≡ 2) (eqb t.sort text_end) (λ e. refl) (λ e. by_cond (λ c. number_of c ≡ 2) (eqb t.sort unreadable) (λ f. refl) (λ f. refl))
