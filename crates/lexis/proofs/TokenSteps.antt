-- The steps of reading a token of constraint text: a lemma for each way out. Assumes nothing.
use mathlib.Core.Path.{◌≡◌, sym, ap, ◌∙◌}
use mathlib.Core.Bool.{Bool, true, false, ◌&&◌, ◌||◌}
use mathlib.Core.List.{List, ◌∷◌}
use Prim.Native.Nat.{ℕ, ◌+◌, ◌≤◌, ◌<◌}
use native.Mathlib.Omega.{arith}
use lib.Dec.{eqb}
use lib.ListN.{length, drop, length-drop, drop_of_length-le}
use borrow.Author.Tests.{eqb-true, ne_eqb, le-leb}
use Rattle.lexis.specs.Text.{byte}
use Rattle.lexis.specs.Bytes.{is, sort_of, digit}
use Rattle.lexis.specs.Runs.{byte_at, starts_with}
use Rattle.lexis.specs.Spelling.{keywords, booleans, date_pattern_spellings, time_pattern_spellings, code_start}
use Rattle.lexis.specs.Tokens.{token, spelled, word, number, sign, code_end, special, token_on, token_at, text_end, type_name, name}
use Rattle.lexis.specs.Clauses.Answers.{unless_zero, TokenIs}
use Rattle.lexis.specs.declared.Token.{Token}
use Rattle.std.specs.Prelude.{Some, None}
use Rattle.lexis.proofs.Cases.{and_left}
use Rattle.lexis.proofs.Options.{above_some}
use Rattle.lexis.proofs.Places.{Found, drop_in, starts_long, token-found}
use Rattle.lexis.proofs.ReadBack.{on_sort, starting}

-- in a code: what is left of it ends where the code does
pub record InCode (s : List ℕ) (from at : ℕ) (some : Bool) : Type 0 where
  pub high : at ≤ length s
  pub is : code_end some at (drop at s) ≡ code_end false from (drop from s)

module _ (s : List ℕ) (from at : ℕ) (some : Bool) (inv : InCode s from at some) where
  pub code_none : length s ≤ at → None ≡ unless_zero (code_end false from (drop from s))
  unfolding code_end
  code_none h = ap unless_zero (rw (drop_of_length-le s h) at inv.is)

  module _ (h : at < length s) where
    pub code_close : (eqb (byte_at s at) (byte "]") && some) ≡ true
        → Some (at + 1) ≡ unless_zero (code_end false from (drop from s))
    unfolding code_end sort_of
    code_close f =
        let b = eqb-true (byte_at s at) (byte "]") (and_left (eqb (byte_at s at) (byte "]")) some f) in
        let is = ended (byte_at s at) (drop (at + 1) s) b f ∙ (rw (drop_in s at h) at inv.is) in
        above_some (at + 1) (λ z. omega arith) ∙ ap unless_zero is
      where
        ended : (b : ℕ) (bs : List ℕ)
            → b ≡ byte "]" → (eqb b (byte "]") && some) ≡ true → at + 1 ≡ code_end some at (b ∷ bs)
        ended b bs e f = rw (f, e)

    pub code_stop : (eqb (byte_at s at) (byte "]") && some) ≡ false
        → (is digit (byte_at s at) || eqb (byte_at s at) (byte ".") && some) ≡ false
        → None ≡ unless_zero (code_end false from (drop from s))
    unfolding code_end
    code_stop e n = ap unless_zero (rw (drop_in s at h, n, e) at inv.is)

    pub code_on : (is digit (byte_at s at) || eqb (byte_at s at) (byte ".") && some) ≡ true
        → InCode s from (at + 1) (is digit (byte_at s at))
    unfolding code_end
    code_on n = record { high = omega arith; is = rw (drop_in s at h, n) at inv.is }

-- a code
pub code_room : (s : List ℕ) (at : ℕ) → at ≤ length s → starts_with code_start (drop at s) ≡ true → at + 3 ≤ length s
code_room s at h e =
    let n = starts_long code_start (drop at s) e in
    let m = length-drop at s in
    omega arith

-- the token that starts at a place
pub on_end : (s : List ℕ) (at : ℕ) → length s ≤ at → token text_end at at ≡ token_on s at
unfolding token_on
on_end s at h = rw (le-leb (length s) at h)

module _ (s : List ℕ) (at k : ℕ) (t : Token) (h : at < length s) (q : k ≡ sort_of (byte_at s at)) where
  on : token_on s at ≡ starting k s at
  on = on_sort s at (byte_at s at) (drop (at + 1) s) (drop_in s at h) k (sym q)

  pub on_capital : k ≡ 3 → t ≡ spelled time_pattern_spellings at (drop at s) (word s booleans type_name at)
      → t ≡ token_on s at
  on_capital e p = rw (on, e) p

  pub on_small : k ≡ 2 → t ≡ spelled date_pattern_spellings at (drop at s) (word s keywords name at) → t ≡ token_on s at
  on_small e p = rw (on, e) p

  pub on_digit : k ≡ 1 → t ≡ number s at → t ≡ token_on s at
  on_digit e p = rw (on, e) p

  pub on_mark : k ≡ 4 → t ≡ sign s at → t ≡ token_on s at
  on_mark e p = rw (on, e) p

  pub on_other : (k ≡ 3 → ⊥) → (k ≡ 2 → ⊥) → (k ≡ 1 → ⊥) → (k ≡ 4 → ⊥) → t ≡ special s at → t ≡ token_on s at
  on_other a b c d p = rw (on, ne_eqb k 3 a, ne_eqb k 2 b, ne_eqb k 1 c, ne_eqb k 4 d) p

-- a token that was found, as a promise
pub promised : (s : List ℕ) (from : ℕ) (t r : Token) → r ≡ t → Found s from t → TokenIs s from t r
promised s from t r e f = record {
  is = e;
  start = rw e f.start;
  order = rw e f.order;
  inside = rw e f.inside;
  strict = λ l. rw e (f.strict (λ z. above 0 l (ap (λ u. u.sort) e ∙ z) (omega arith)) (λ z. above 1 l (ap (λ u. u.sort) e ∙ z) (omega arith)));
}
  where
    above : (n : ℕ) → 1 < r.sort → r.sort ≡ n → n ≤ 1 → ⊥
    above n l z h = omega arith

-- the next token
pub token_told : (s : List ℕ) (from : ℕ) (r : Token) → from ≤ length s → r ≡ token_at s from
    → TokenIs s from (token_at s from) r
token_told s from r h q = promised s from (token_at s from) r q (token-found s from h)

pub ruleset of_codes = (code_on, code_close, code_stop, code_none)

pub ruleset of_sorts = (on_end, on_capital, on_small, on_digit, on_mark, on_other)
