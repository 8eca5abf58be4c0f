-- What the readers of types, codes and names rest on. Assumes nothing.
use mathlib.Core.Path.{◌≡◌, refl}
use mathlib.Core.Bool.{Bool, true, false, cond, or-true}
use mathlib.Core.List.{List}
use Prim.Native.Nat.{ℕ, ◌+◌, ◌-◌, ◌≤◌}
use native.Mathlib.Omega.{arith}
use lib.Dec.{eqb, ltb, lit<}
use lib.ListN.{length}
use borrow.Author.Tests.{eq-eqb, ne_eqb, eqb-false}
use Rattle.std.specs.declared.result.Result.{Result}
use Rattle.std.specs.declared.result.Result.TheVariants.{Ok, Err}
use Rattle.lexis.specs.Tokens.{token_at, type_name, name, string, code, spelling, inner}
use Rattle.lexis.specs.Clauses.Answers.{TokenIs}
use Rattle.lexis.specs.declared.Token.{Token}
use Rattle.lexis.proofs.Enclosed.{token_two}
use Rattle.lexis.proofs.Parts.{part_length}
use Rattle.refusals.specs.Limits.{record_limit, name_limit}
use Rattle.refusals.specs.Refusals.{refusal}
use Rattle.refusals.specs.Expecting.{expect}
use Rattle.refusals.specs.Clauses.Answers.{ExpectIs}
use Rattle.refusals.specs.declared.Cause.TheVariants.{TooLong, TooManyRecords}
use Rattle.refusals.specs.declared.Refusal.{Refusal}
use Rattle.cadl_objects.specs.Clauses.Told.{object_type, attribute_name}
use Rattle.cadl_objects.specs.Clauses.Answers.{Counted, fitting_of, WordIs}
use Rattle.cadl_objects.proofs.TreeParts.{type_is, name_is_lem}

-- a token that was taken has so many bytes
token_size : {s : List ℕ} {sort from : ℕ} {t : Token} → ExpectIs s sort from (expect s sort from) (Ok t)
    → length (spelling s t) ≡ t.end - t.start
token_size {s} {sort} {from} {t} e = part_length s t.start t.end e.past.2

-- a TYPE and a NAME that stand in their place
module _ (s : List ℕ) (next from : ℕ) (room : Counted s next from) (t : Token) where
  abbrev answer : Bool → Bool → Result Token Refusal
  answer long full = cond long (Err (refusal TooLong t.start)) (cond full (Err (refusal TooManyRecords t.start)) (Ok t))

  pub type_fits : (levels : ℕ) (r : Result Token Refusal) → r ≡ fitting_of t next
      → ExpectIs s type_name from (expect s type_name from) (Ok t) → (levels ≡ 0 → ⊥)
      → WordIs s next from (object_type s levels next from) r
  type_fits levels r q e n = rw q (by (ltb name_limit (t.end - t.start)) (eqb next record_limit) refl refl)
    where
      by : (long full : Bool) → ltb name_limit (t.end - t.start) ≡ long → eqb next record_limit ≡ full
          → WordIs s next from (object_type s levels next from) (answer long full)
      by true full l f = record { is = rw (type_is s levels next from, ← e.is, ne_eqb levels 0 n, token_size e, l); past = tt }
      by false true l f = record { is = rw (type_is s levels next from, ← e.is, ne_eqb levels 0 n, token_size e, l, f); past = tt }
      by false false l f =
          let p = e.past in
          let k = eqb-false next record_limit f in
          let c = room.records in
          record {
            is = rw (type_is s levels next from, ← e.is, ne_eqb levels 0 n, token_size e, l, f);
            past = record { start = p.0; order = p.3 (lit< tt); inside = p.2; records = omega arith };
          }

  pub name_unfit : (seen : List (List ℕ)) (x : Refusal) → Err x ≡ fitting_of t next
      → ExpectIs s name from (expect s name from) (Ok t)
      → WordIs s next from (attribute_name s seen next from) (Err x)
  name_unfit seen x q e = by (ltb name_limit (t.end - t.start)) (eqb next record_limit) refl refl q
    where
      by : (long full : Bool) → ltb name_limit (t.end - t.start) ≡ long → eqb next record_limit ≡ full
          → Err x ≡ answer long full → WordIs s next from (attribute_name s seen next from) (Err x)
      by true full l f d = let k : x ≡ refusal TooLong t.start = cc in record { is = rw (name_is_lem s seen next from, ← e.is, token_size e, l, k); past = tt }
      by false true l f d = let k : x ≡ refusal TooManyRecords t.start = cc in record { is = rw (name_is_lem s seen next from, ← e.is, token_size e, l, f, k); past = tt }
      by false false l f d = cc

-- a code has its two brackets, and its bytes between them
pub code_order : (s : List ℕ) (from : ℕ) (t : Token) → TokenIs s from (token_at s from) t → t.sort ≡ code → t.start + 2 ≤ t.end
code_order s from t tok k = rw (← tok.is) at (token_two s from (rw (← tok.is, eq-eqb t.sort code k) (or-true (eqb t.sort string))))

pub inner_size : (s : List ℕ) (from : ℕ) (t : Token) → TokenIs s from (token_at s from) t → t.sort ≡ code
    → length (inner s t) ≡ t.end - t.start - 2
inner_size s from t tok k =
    let a = tok.inside in
    let b = code_order s from t tok k in
    rw (part_length s (t.start + 1) (t.end - 1) (omega arith)) (omega arith)
