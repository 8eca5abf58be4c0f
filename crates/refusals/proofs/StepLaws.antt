-- What the functions on tokens show, a law for each way out; and what an answer says of the reading that it is. Assumes nothing.
use mathlib.Core.Path.{◌≡◌, refl, sym, ap, ◌∙◌}
use mathlib.Core.Bool.{Bool, true, false, cond}
use mathlib.Core.List.{List}
use Prim.Native.Nat.{ℕ}
use native.Mathlib.Omega.{arith}
use lib.Dec.{eqb}
use borrow.Author.Tests.{eq-eqb, ne_eqb, eqb-true}
use Rattle.lexis.specs.Tokens.{token_at}
use Rattle.lexis.specs.Clauses.Answers.{TokenIs}
use Rattle.lexis.specs.declared.Token.{Token}
use Rattle.refusals.specs.Reading.{Reading, refused, got}
use Rattle.refusals.specs.Refusals.{refusal}
use Rattle.refusals.specs.Expecting.{syntax_cause, taken, expect}
use Rattle.refusals.specs.Clauses.Answers.{cause_of, token_reading, expected_of, TokenPast, ExpectIs}
use Rattle.refusals.specs.declared.Cause.{Cause}
use Rattle.refusals.specs.declared.Cause.TheVariants.{Unreadable, CannotFollow, EndsEarly}
use Rattle.refusals.specs.declared.Refusal.{Refusal}
use Rattle.std.specs.declared.result.Result.{Result}
use Rattle.std.specs.declared.result.Result.TheVariants.{Ok, Err}

-- the cause of a fault, by the token's sort
module _ (sort : ℕ) where
  pub cause_end : sort ≡ 0 → EndsEarly ≡ cause_of sort
  cause_end e = rw (eq-eqb sort 0 e)

  pub cause_unreadable : (sort ≡ 0 → ⊥) → sort ≡ 1 → Unreadable ≡ cause_of sort
  cause_unreadable n e = rw (ne_eqb sort 0 n, eq-eqb sort 1 e)

  pub cause_follow : (sort ≡ 0 → ⊥) → (sort ≡ 1 → ⊥) → CannotFollow ≡ cause_of sort
  cause_follow n m = rw (ne_eqb sort 0 n, ne_eqb sort 1 m)

-- the refusal of a token with that cause
pub fault_is : (t : Token) (k : Cause) → k ≡ cause_of t.sort
    → refusal k t.start ≡ refusal (syntax_cause t) t.start
fault_is t k e = ap (λ x. refusal x t.start) e

-- a token of the sort asked for, and another
module _ (t : Token) (sort : ℕ) where
  pub taken_there : t.sort ≡ sort → Ok t ≡ expected_of t sort
  taken_there e = rw (eq-eqb t.sort sort e)

  pub taken_not : (t.sort ≡ sort → ⊥) → (x : Refusal) → x ≡ refusal (syntax_cause t) t.start
      → Err x ≡ expected_of t sort
  taken_not n x e = rw (ne_eqb t.sort sort n, e)

-- the answer is the reading of the token u that stands from a place on
pub taken_is : (s : List ℕ) (sort from : ℕ) (u t : Token) → TokenIs s from u t → (r : Result Token Refusal) → r ≡ expected_of t sort
    → ExpectIs s sort from (taken u sort) r
taken_is s sort from u t tok r e = rw e (by (eqb t.sort sort) refl)
  where
    by : (b : Bool) → eqb t.sort sort ≡ b
        → ExpectIs s sort from (taken u sort) (cond b (Ok t) (Err (refusal (syntax_cause t) t.start)))
    by true h = record {
      is = rw (← tok.is, h);
      past = (tok.start, tok.order, tok.inside, λ k. let q = eqb-true t.sort sort h in tok.strict (omega arith));
    }
    by false h = record { is = rw (← tok.is, h); past = tt }

pub expect_is : (s : List ℕ) (sort from : ℕ) (t : Token) → TokenIs s from (token_at s from) t → (r : Result Token Refusal)
    → r ≡ expected_of t sort
    → ExpectIs s sort from (expect s sort from) r
unfolding expect
expect_is s sort from t tok r e = taken_is s sort from (token_at s from) t tok r e

-- what an answer says of the reading that it is
module _ {s : List ℕ} {sort from : ℕ} {reading : Reading Token} {r : Result Token Refusal}
    (e : ExpectIs s sort from reading r) where
  pub expected_fault : (x : Refusal) → r ≡ Err x → reading ≡ refused x
  expected_fault x g = sym e.is ∙ ap token_reading g

  pub expected_token : (t : Token) → r ≡ Ok t → reading ≡ got t t.end
  expected_token t g = sym e.is ∙ ap token_reading g

  pub expected_past : (t : Token) → r ≡ Ok t → TokenPast s sort from (Ok t)
  expected_past t g = rw g at e.past
