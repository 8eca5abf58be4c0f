-- What objects and attributes begin with: the faults come in order and lie in the text; a type or a name without a fault is proper, and there is room for its record. Assumes nothing.
use mathlib.Core.Path.{◌≡◌, refl}
use mathlib.Core.Bool.{Bool, true, false}
use mathlib.Core.List.{List, []}
use Prim.Native.Nat.{ℕ, ◌-◌, ◌≤◌, ◌<◌}
use native.Mathlib.Omega.{arith}
use lib.Dec.{eqb, ltb, lit<, lit≤}
use lib.ListN.{length, length-take, length-drop}
use borrow.Author.Tests.{eqb-true, eqb-false, ltb-false}
use mathlib.Core.Logic.{◌≢◌}
use Rattle.lexis.specs.Runs.{part, listed}
use Rattle.lexis.specs.Clauses.Subsequence.{Sub}
use Rattle.lexis.specs.Spelling.{matches, existence, open_brace, close_brace, dots}
use Rattle.lexis.specs.Tokens.{token_at, type_name, name, code, spelling, inner}
use Rattle.lexis.specs.declared.Token.{Token}
use Rattle.lexis.proofs.Cases.{by_cond}
use Rattle.lexis.proofs.Places.{token-found}
use Rattle.lexis.proofs.Parts.{sub_none, part_sub}
use Rattle.refusals.specs.Limits.{record_limit, name_limit, code_limit}
use Rattle.refusals.specs.Reading.{got}
use Rattle.refusals.specs.Expecting.{syntax_fault}
use Rattle.refusals.specs.declared.Cause.TheVariants.{TooDeep, TooLong, TooManyRecords, RepeatedName}
use Rattle.refusals.specs.Refusals.{number_of}
use Rattle.refusals.proofs.Readings.{Holds, got_holds, cond_holds, then_holds, holds_map}
use Rattle.refusals.proofs.Tokens.{Passed, strict_of}
use Rattle.refusals.proofs.Parses.{rank, FaultFrom, Ordered, ordered_parsed, ordered-noting, ordered-wanted, syntax_holds, expect_passes}
use Rattle.meaning.specs.Clauses.Proper.{ProperName}
use Rattle.cadl_items.proofs.LeafReading.{inner_sub}
use Rattle.cadl_objects.specs.Existence.{opening, is_zero, is_one, from_nought, from_one, bounds, existence_from}
use Rattle.cadl_objects.specs.Objects.{object_type, object_code, attribute_name}

-- an existence that was read, and the place behind it
pub record Exists (low high : ℕ) (e : ℕ) (p : ℕ) : Type 0 where
  pub least : low ≤ p
  pub most : p ≤ high
  pub flag : e ≤ 2

-- a TYPE or NAME that was read without a fault
pub record Named (s : List ℕ) (next from : ℕ) (t : Token) (p : ℕ) : Type 0 where
  pub passed : Passed s from t p
  pub proper : ProperName (spelling s t)
  pub room : next ≢ record_limit

-- a TYPE or NAME
pub record Word (s : List ℕ) (next from : ℕ) (sound : Bool) (l : ℕ) (t : Token) (p : ℕ) : Type 0 where
  pub bound : l ≤ rank p 0
  pub passed : Passed s from t p
  pub named : sound ≡ true → Named s next from t p

module _ (s : List ℕ) where
  -- a token's bytes are as many as its places say
  length-spelling : (from p : ℕ) (t : Token) → Passed s from t p → length (spelling s t) ≡ t.end - t.start
  length-spelling from p t h = rw (length-take, length-drop) (omega arith)

  -- `matches {`
  pub opening_holds : (low from : ℕ) → low ≤ rank from 0 → from ≤ length s
      → Holds (FaultFrom s low) (Passed s from) (opening s from)
  unfolding opening
  opening_holds low from l h =
      let F = FaultFrom s low in
      then_holds F (Passed s from) (Passed s from) _ _ (expect_passes s low from l matches (lit< tt) h) (λ t p q.
      holds_map F (Passed s p) (Passed s from) _ (λ u r x. record { start = omega arith; order = x.order; behind = x.behind; inside = x.inside })
      (expect_passes s low p (omega (arith, q.start, q.order)) open_brace (lit< tt) q.inside))

  -- existence may be nothing: the place is at or behind the one before
  module _ (low first : ℕ) (l : low ≤ rank first 0) where
    reached : (p : ℕ) (e : ℕ) → e ≤ 2 → first ≤ p → p ≤ length s
        → Holds (FaultFrom s low) (Exists first (length s)) (got e p)
    reached p e f h k = got_holds (FaultFrom s low) (Exists first (length s)) e p (record { least = h; most = k; flag = f })

    next_found : (from : ℕ) → first ≤ from → from ≤ length s
        → (first ≤ (token_at s from).end) × ((token_at s from).end ≤ length s)
    next_found from g h = let f = token-found s from h in (omega (arith, f.start, f.order), f.inside)

    fault_holds : (from : ℕ) → first ≤ from → from ≤ length s
        → Holds (FaultFrom s low) (Exists first (length s)) (syntax_fault (token_at s from))
    fault_holds from g h = syntax_holds s low from (omega arith) (token_at s from) (Exists first (length s)) (token-found s from h)

    nought_holds : (from : ℕ) → first ≤ from → from ≤ length s
        → Holds (FaultFrom s low) (Exists first (length s)) (from_nought s from)
    unfolding from_nought
    nought_holds from i h =
        let F = FaultFrom s low in
        let P = Exists first (length s) in
        let t = token_at s from in
        let u = token_at s t.end in
        let f = next_found from i h in
        let g = next_found t.end f.0 f.1 in
        cond_holds F P (eqb t.sort dots) _ _
        (λ e. cond_holds F P (is_zero s u) _ _ (λ x. reached u.end _ (omega arith) g.0 g.1)
        (λ x. cond_holds F P (is_one s u) _ _ (λ y. reached u.end _ (omega arith) g.0 g.1) (λ y. fault_holds t.end f.0 f.1)))
        (λ e. reached from _ (omega arith) i h)

    one_holds : (from : ℕ) → first ≤ from → from ≤ length s
        → Holds (FaultFrom s low) (Exists first (length s)) (from_one s from)
    unfolding from_one
    one_holds from i h =
        let F = FaultFrom s low in
        let P = Exists first (length s) in
        let t = token_at s from in
        let u = token_at s t.end in
        let f = next_found from i h in
        let g = next_found t.end f.0 f.1 in
        cond_holds F P (eqb t.sort dots) _ _
        (λ e. cond_holds F P (is_one s u) _ _ (λ y. reached u.end _ (omega arith) g.0 g.1) (λ y. fault_holds t.end f.0 f.1))
        (λ e. reached from _ (omega arith) i h)

    bounds_holds : (from : ℕ) → first ≤ from → from ≤ length s
        → Holds (FaultFrom s low) (Exists first (length s)) (bounds s from)
    unfolding bounds
    bounds_holds from i h =
        let F = FaultFrom s low in
        let P = Exists first (length s) in
        let t = token_at s from in
        let f = next_found from i h in
        cond_holds F P (is_zero s t) _ _ (λ e. nought_holds t.end f.0 f.1)
        (λ e. cond_holds F P (is_one s t) _ _ (λ g. one_holds t.end f.0 f.1) (λ g. fault_holds from i h))

    pub existence_holds : first ≤ length s → Holds (FaultFrom s low) (Exists first (length s)) (existence_from s first)
    unfolding existence_from
    existence_holds h =
        let F = FaultFrom s low in
        let P = Exists first (length s) in
        let t = token_at s first in
        let f = next_found first (omega arith) h in
        cond_holds F P (eqb t.sort existence) _ _
        (λ e. then_holds F P (Passed s t.end) _ _ (opening_holds low t.end (omega (arith, f.0)) f.1) (λ u p q.
        then_holds F P (Exists first (length s)) (bounds s p) _ (bounds_holds p (omega (arith, f.0, q.start, q.order)) q.inside) (λ x r y.
        then_holds F P (Passed s r) _ _ (expect_passes s low r (omega (arith, y.least)) close_brace (lit< tt) y.most) (λ v z w.
        reached z x y.flag (omega (arith, y.least, w.start, w.order)) w.inside))))
        (λ e. reached first _ (omega arith) (omega arith) h)

  -- a word at a token, and the tests on it
  named : (next from : ℕ) (t : Token) → Passed s from t t.end → ltb name_limit (length (spelling s t)) ≡ false
      → eqb next record_limit ≡ false → Named s next from t t.end
  named next from t q b d =
      let e = length-spelling from t.end t q in
      let f : length (spelling s t) ≤ name_limit = ltb-false name_limit (length (spelling s t)) b in
      record { passed = q; proper = (omega arith, f); room = eqb-false next record_limit d }

  pub passed_at : (sort from : ℕ) → 1 < sort → from ≤ length s → eqb (token_at s from).sort sort ≡ true
      → Passed s from (token_at s from) (token_at s from).end
  passed_at sort from k h e =
      let f = token-found s from h in
      record { start = f.start; order = strict_of sort k (token_at s from) s from f (eqb-true _ _ e); behind = refl; inside = f.inside }

  -- the TYPE of an object, and its code
  pub type_ordered : (levels next from : ℕ) (sound : Bool) (low : ℕ) → low ≤ rank from 0 → from ≤ length s
      → Ordered s (Word s next from) sound low (object_type s levels next from)
  unfolding object_type number_of
  type_ordered levels next from sound low l h =
      let P = Word s next from in
      let t = token_at s from in
      ordered-wanted s P sound low type_name from _ l h (λ e.
      let q = passed_at type_name from (lit< tt) h e in
      ordered-noting s P sound low (eqb levels 0) TooDeep t.start _ 3 refl (lit≤ tt) (lit< tt) (omega (arith, q.start)) (omega (arith, q.order, q.inside)) (λ o i a b.
      ordered-noting s P o i (ltb name_limit (length (spelling s t))) TooLong t.start _ 4 refl (lit≤ tt) (lit< tt) (omega arith) (omega (arith, q.order, q.inside)) (λ u j c d.
      ordered-noting s P u j (eqb next record_limit) TooManyRecords t.start _ 8 refl (lit≤ tt) (lit< tt) (omega arith) (omega (arith, q.order, q.inside)) (λ v k f g.
      ordered_parsed s P v k t t.end (record { bound = omega (arith, q.order); passed = q; named = λ z. named next from t q (d (g z).1).0 (g z).0 })))))

  pub record CodeRead (from : ℕ) (k : List ℕ) (p : ℕ) : Type 0 where
    pub short : length k ≤ 31
    pub pool : Sub k (part s from p)

  pub record Coded (from : ℕ) (sound : Bool) (l : ℕ) (k : List ℕ) (p : ℕ) : Type 0 where
    pub bound : l ≤ rank p 0
    pub least : from ≤ p
    pub most : p ≤ length s
    pub read : sound ≡ true → CodeRead from k p

  pub code-ordered : (from : ℕ) (sound : Bool) (low : ℕ) → low ≤ rank from 0 → from ≤ length s
      → Ordered s (Coded from) sound low (object_code s from)
  unfolding object_code number_of
  code-ordered from sound low l h =
      let P = Coded from in
      let t = token_at s from in
      by_cond (Ordered s P sound low) (eqb t.sort code)
      (λ e. let q = passed_at code from (lit< tt) h e in
      ordered-noting s P sound low (ltb code_limit (length (inner s t))) TooLong t.start _ 4 refl (lit≤ tt) (lit< tt) (omega (arith, q.start)) (omega (arith, q.order, q.inside)) (λ o j a c.
      ordered_parsed s P o j (inner s t) t.end (record {
        bound = omega (arith, q.order);
        least = omega (arith, q.start, q.order);
        most = q.inside;
        read = λ z. record { short = ltb-false code_limit (length (inner s t)) (c z).0; pool = inner_sub s from t.end t q };
      })))
      (λ e. ordered_parsed s P sound low [] from (record { bound = l; least = omega arith; most = h; read = λ z. record { short = omega arith; pool = sub_none _ } }))

  pub name-ordered : (seen : List (List ℕ)) (next from : ℕ) (sound : Bool) (low : ℕ) → low ≤ rank from 0
      → from ≤ length s
      → Ordered s (Word s next from) sound low (attribute_name s seen next from)
  unfolding attribute_name number_of
  name-ordered seen next from sound low l h =
      let P = Word s next from in
      let t = token_at s from in
      ordered-wanted s P sound low name from _ l h (λ e.
      let q = passed_at name from (lit< tt) h e in
      ordered-noting s P sound low (ltb name_limit (length (spelling s t))) TooLong t.start _ 4 refl (lit≤ tt) (lit< tt) (omega (arith, q.start)) (omega (arith, q.order, q.inside)) (λ o i a b.
      ordered-noting s P o i (eqb next record_limit) TooManyRecords t.start _ 8 refl (lit≤ tt) (lit< tt) (omega arith) (omega (arith, q.order, q.inside)) (λ u j c d.
      ordered-noting s P u j (listed (spelling s t) seen) RepeatedName t.start _ 9 refl (lit≤ tt) (lit< tt) (omega arith) (omega (arith, q.order, q.inside)) (λ v k f g.
      ordered_parsed s P v k t t.end (record { bound = omega (arith, q.order); passed = q; named = λ z. named next from t q (b (d (g z).1).1).0 (d (g z).1).0 })))))

  pub spelling_sub : (from p : ℕ) (t : Token) → Passed s from t p → Sub (spelling s t) (part s from p)
  spelling_sub from p t h = part_sub s from t.start t.end p h.start (omega arith)
