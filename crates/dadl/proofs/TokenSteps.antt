-- What a step of the readers of tokens, types and openings shows: a law for each way out. Assumes nothing.
use mathlib.Core.Path.{◌≡◌, sym, ap, ◌∙◌}
use Rattle.std.specs.Prelude.{None, Some}
use mathlib.Core.List.{List}
use Prim.Native.Nat.{ℕ, ◌-◌, ◌≤◌, ◌<◌}
use native.Mathlib.Omega.{arith}
use lib.ListN.{length}
use borrow.Author.Tests.{eq-eqb, ne_eqb, lt-ltb, le-ltb}
use Rattle.lexis.specs.Spelling.{less}
use Rattle.lexis.specs.Tokens.{type_name}
use Rattle.lexis.specs.DataTokens.{data_token_at, type_token_at, open_round, close_round}
use Rattle.lexis.specs.declared.Token.{Token}
use Rattle.refusals.specs.Limits.{name_limit}
use Rattle.refusals.specs.Reading.{refused, got}
use Rattle.refusals.specs.Reading
use Rattle.refusals.specs.Parsing.{and_then, first_in}
use Rattle.refusals.specs.Refusals.{refusal}
use Rattle.refusals.specs.Expecting.{syntax_cause, taken}
use Rattle.refusals.specs.declared.Cause.TheVariants.{TooLong}
use Rattle.refusals.specs.declared.Refusal.{Refusal}
use Rattle.std.specs.Result.{IsErrAnd}
use Rattle.std.specs.declared.result.Result.{Result}
use Rattle.std.specs.declared.result.Result.TheVariants.{Ok, Err}
use Rattle.dadl.specs.Data.{expect_data, type_from, Down, typed, span_of, block_from, outermost}
use Rattle.lexis.specs.Clauses.Answers.{TokenIs}
use Rattle.lexis.proofs.Parts.{part_length}
use Rattle.refusals.proofs.StepLaws.{taken_is, expected_fault, expected_token, expected_past}
use Rattle.refusals.proofs.Parses.{told_read, first_then, then_refused, then_got}
use Rattle.refusals.specs.Clauses.Answers.{expected_of, ExpectIs}
use Rattle.dadl.specs.Clauses.Answers.{part_of, part_span, type_reading, TypePast, TypeIs, OpenPast, OpeningIs, OutermostIs, typed_from}
use Rattle.dadl.specs.declared.tokens.Part.{Part}
use Rattle.dadl.specs.declared.tokens.TypeName.{TypeName}
use Rattle.dadl.specs.declared.tokens.Opening.{Opening}

-- a refusal that is passed on
pub passed_on : {T : Type 0} (q : Result T Refusal) (x : Refusal) → IsErrAnd q (λ z. z ≡ x) → q ≡ Err x
passed_on (Ok a) x h = absurd h
passed_on (Err y) x h = ap Err h

pub expect_is : (s : List ℕ) (sort from : ℕ) (t : Token) → TokenIs s from (data_token_at s from) t
    → (r : Result Token Refusal) → r ≡ expected_of t sort
    → ExpectIs s sort from (first_in (expect_data s sort from)) r
unfolding expect_data
expect_is s sort from t tok r e =
    rw (told_read (taken (data_token_at s from) sort)) (taken_is s sort from (data_token_at s from) t tok r e)

-- a type
module _ (s : List ℕ) (from : ℕ) (t : Token) (tok : TokenIs s from (type_token_at s from) t) where
  pub type_fault : (t.sort ≡ type_name → ⊥) → (x : Refusal) → x ≡ refusal (syntax_cause t) t.start
      → TypeIs s from (first_in (type_from s from)) (Err x)
  unfolding type_from
  type_fault n x e = record { is = rw (← tok.is, ne_eqb t.sort type_name n, e); past = tt }

  module _ (k : t.sort ≡ type_name) where
    pub type_long : name_limit < t.end - t.start → (x : Refusal) → x ≡ refusal TooLong t.start
        → TypeIs s from (first_in (type_from s from)) (Err x)
    unfolding type_from
    type_long l x e =
        let n = part_length s t.start t.end tok.inside in
        record { is = rw (← tok.is, eq-eqb t.sort type_name k, n, lt-ltb name_limit (t.end - t.start) l, e); past = tt }

    module _ (l : t.end - t.start ≤ name_limit) (r : Result Token Refusal)
        (e : ExpectIs s close_round t.end (first_in (expect_data s close_round t.end)) r) where
      short : Reading.read_then (first_in (expect_data s close_round t.end))
          (λ u p. got (span_of t) p) ≡ first_in (type_from s from)
      unfolding type_from
      short =
          let n = part_length s t.start t.end tok.inside in
          rw (← tok.is, eq-eqb t.sort type_name k, n, le-ltb name_limit (t.end - t.start) l) (sym (first_then (expect_data s close_round t.end) _))

      pub type_unclosed : (x : Refusal) → r ≡ Err x → (q : Result TypeName Refusal) → IsErrAnd q (λ z. z ≡ x)
          → TypeIs s from (first_in (type_from s from)) q
      type_unclosed x g q h = rw (passed_on q x h) (record { is = rw (expected_fault e x g) at short; past = tt })

      pub type_closed : (u : Token) → r ≡ Ok u → (p : Part) → p ≡ part_of t
          → TypeIs s from (first_in (type_from s from)) (Ok (record { part = p; next = u.end }))
      type_closed u g p h =
          let a = expected_past e u g in
          let b : t.start < t.end = tok.strict (omega arith) in
          let d : u.start < u.end = a.3 (omega arith) in
          let i = tok.start in
          rw h (record { is = rw (expected_token e u g) at short; past = (omega arith, omega arith, omega arith, omega arith) })

-- a type and the `<` behind it
module _ (s : List ℕ) (from : ℕ) (r : Result TypeName Refusal) (e : TypeIs s from (first_in (type_from s from)) r) where
  pub typed_bad : (x : Refusal) → r ≡ Err x → (q : Result Opening Refusal) → IsErrAnd q (λ z. z ≡ x)
      → OpeningIs s from (typed_from s from) q
  unfolding typed_from typed
  typed_bad x g q i =
      let h : first_in (type_from s from) ≡ refused x = sym e.is ∙ ap type_reading g in
      rw (passed_on q x i) (record { is = λ down. sym (then_refused (type_from s from) _ x h); past = tt })

  module _ (w : TypeName) (g : r ≡ Ok w) where
    past : TypePast s from (Ok w)
    past = rw g at e.past

    pub typed_next : w.next ≤ length s
    typed_next = let p = past in omega arith

    on : (down : Down) → first_in (typed s down from)
        ≡ first_in (and_then (expect_data s less w.next) (λ t q. down t.start (Some (part_span w.part)) q))
    unfolding typed
    on down =
        let h : first_in (type_from s from) ≡ got (part_span w.part) w.next = sym e.is ∙ ap type_reading g in
        then_got (type_from s from) _ (part_span w.part) w.next h

    module _ (v : Result Token Refusal) (d : ExpectIs s less w.next (first_in (expect_data s less w.next)) v) where
      pub less_missing : (x : Refusal) → v ≡ Err x → (q : Result Opening Refusal) → IsErrAnd q (λ z. z ≡ x)
          → OpeningIs s from (typed_from s from) q
      unfolding typed_from
      less_missing x i q j = rw (passed_on q x j) (record { is = λ down. sym (on down ∙ then_refused (expect_data s less w.next) _ x (expected_fault d x i)); past = tt })

      pub less_there : (u : Token) → v ≡ Ok u
          → OpeningIs s from (typed_from s from) (Ok (record { place = u.start; type_name = Some w.part; next = u.end }))
      unfolding typed_from
      less_there u i =
          let p = past in
          let a = expected_past d u i in
          let b : u.start < u.end = a.3 (omega arith) in
          record {
            is = λ down. sym (on down ∙ then_got (expect_data s less w.next) _ u u.end (expected_token d u i));
            past = record { low = omega arith; order = b; high = omega arith; type_inside = (omega arith, omega arith) };
          }

-- the outermost block's opening
module _ (s : List ℕ) (t : Token) (tok : TokenIs s 0 (data_token_at s 0) t) where
  pub outermost_typed : t.sort ≡ open_round → (o : Result Opening Refusal) → OpeningIs s t.end (typed_from s t.end) o
      → OutermostIs s o
  unfolding outermost typed_from
  outermost_typed k o d = record { is = λ levels. rw (← tok.is, eq-eqb t.sort open_round k) (d.is (block_from s levels)); past = lower o d.past }
    where
      lower : (o : Result Opening Refusal) → OpenPast s t.end o → OpenPast s 0 o
      lower (Err x) h = tt
      lower (Ok o) h = record { low = omega arith; order = h.order; high = h.high; type_inside = h.type_inside }

  pub outermost_opens : t.sort ≡ less → OutermostIs s (Ok (record { place = t.start; type_name = None; next = t.end }))
  unfolding outermost expect_data
  outermost_opens k =
      let b : t.start < t.end = tok.strict (omega arith) in
      record {
        is = λ levels. rw (← tok.is, k);
        past = record { low = omega arith; order = b; high = tok.inside; type_inside = tt };
      }

  pub outermost_shut : (t.sort ≡ open_round → ⊥) → (t.sort ≡ less → ⊥) → (x : Refusal)
      → x ≡ refusal (syntax_cause t) t.start
      → OutermostIs s (Err x)
  unfolding outermost expect_data
  outermost_shut n k x e = record { is = λ levels. rw (← tok.is, ne_eqb t.sort open_round n, ne_eqb t.sort less k, e); past = tt }
