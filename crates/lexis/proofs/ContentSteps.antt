-- The steps of reading a token where a value may stand, and where it lies. Assumes nothing.
use mathlib.Core.Path.{◌≡◌, refl, ◌∙◌}
use mathlib.Core.Bool.{Bool, true, false, cond, ◌&&◌}
use mathlib.Core.List.{List}
use Prim.Native.Nat.{ℕ, ◌-◌, ◌≤◌, ◌<◌}
use native.Mathlib.Omega.{arith}
use native.Mathlib.Nat.{add-zero}
use lib.Dec.{eqb, leb}
use lib.ListN.{length, drop}
use lib.Seq.{get_or-take, get_or-drop}
use borrow.Author.Tests.{eqb-true, eq-eqb, ne_eqb, leb-true}
use Rattle.lexis.specs.Text.{byte}
use Rattle.lexis.specs.Runs.{byte_at, part}
use Rattle.lexis.specs.Spelling.{close_brace}
use Rattle.lexis.specs.Durations.{slots_of, pattern_slots}
use Rattle.lexis.specs.Tokens.{token, type_name, spelling, token_at, duration_flag, pattern_or, content_token_at}
use Rattle.lexis.specs.Clauses.Answers.{TokenIs, TypeThere}
use Rattle.lexis.specs.declared.Token.{Token}
use Rattle.lexis.proofs.Cases.{by_cond, and_left}
use Rattle.lexis.proofs.Places.{Found, token-found}
use Rattle.lexis.proofs.TokenSteps.{promised}

-- the first byte of a part that has one
first_of_part : (s : List ℕ) (start end : ℕ) → start < end → byte_at (part s start end) 0 ≡ byte_at s start
first_of_part s start end l =
    let e = get_or-take (end - start) (drop start s) 0 0 (omega arith) in
    let f = get_or-drop start s 0 0 in
    e ∙ rw add-zero at f

-- a TYPE where a value may stand
module _ (s : List ℕ) (t : Token) (d : TypeThere s t) where
  pub type_other : (byte_at s t.start ≡ byte "P" → ⊥) → t ≡ pattern_or s t (pattern_slots (spelling s t))
  unfolding pattern_slots slots_of
  type_other n = rw (first_of_part s t.start t.end d.order, ne_eqb (byte_at s t.start) (byte "P") n) refl

-- a TYPE that was read
pub type_there : (s : List ℕ) (from : ℕ) (t : Token) → TokenIs s from (token_at s from) t → t.sort ≡ type_name
    → TypeThere s t
type_there s from t p e = record { is = e; order = p.strict (omega (arith, e)); inside = p.inside }

-- a token where a value may stand lies where the next token lies
found_as : (s : List ℕ) (from : ℕ) (t : Token) (sort : ℕ) → Found s from t → t.sort ≡ type_name
    → Found s from (token sort t.start t.end)
found_as s from t sort f e = record {
  start = f.start;
  order = f.order;
  inside = f.inside;
  strict = λ m n. f.strict (λ z. omega (arith, e, z)) (λ z. omega (arith, e, z));
}

pub flag_type : (s : List ℕ) (t : Token) → leb 1 (duration_flag s t) ≡ true → t.sort ≡ type_name
flag_type s t h = by (eqb t.sort type_name) refl h
  where
    by : (b : Bool) → eqb t.sort type_name ≡ b → leb 1 (cond b (pattern_slots (spelling s t)) 0) ≡ true → t.sort ≡ type_name
    by true e k = eqb-true t.sort type_name e
    by false e k = absurd (omega (arith, leb-true 1 0 k))

pub content_found : (s : List ℕ) (from : ℕ) → from ≤ length s → Found s from (content_token_at s from)
unfolding content_token_at
content_found s from h =
    let t = token_at s from in
    let f = token-found s from h in
    by_cond (Found s from) (leb 1 (duration_flag s t) && eqb (token_at s t.end).sort close_brace)
    (λ e. found_as s from t _ f (flag_type s t (and_left (leb 1 (duration_flag s t)) (eqb (token_at s t.end).sort close_brace) e)))
    (λ e. f)

-- the next token where a value may stand
module _ (s : List ℕ) (from : ℕ) (h : from ≤ length s) (t : Token) (p : TokenIs s from (token_at s from) t) where
  pub content_type : t.sort ≡ 2 → TokenIs s from (content_token_at s from) (pattern_or s t (pattern_slots (spelling s t)))
  unfolding content_token_at
  content_type e = promised s from (content_token_at s from) _ (as_content t p.is e) (content_found s from h)
    where
      as_content : (u : Token) → u ≡ token_at s from → u.sort ≡ type_name → pattern_or s u (pattern_slots (spelling s u)) ≡ content_token_at s from
      as_content u i k = rw (← i, eq-eqb u.sort type_name k) refl

  pub content_other : (t.sort ≡ 2 → ⊥) → TokenIs s from (content_token_at s from) t
  unfolding content_token_at
  content_other n = promised s from (content_token_at s from) t (as_content t p.is n) (content_found s from h)
    where
      as_content : (u : Token) → u ≡ token_at s from → (u.sort ≡ type_name → ⊥) → u ≡ content_token_at s from
      as_content u i k = rw (← i, ne_eqb u.sort type_name k) refl

pub ruleset of_content = (type_there, content_type, content_other)
