-- What a step of the readers of literals and intervals shows: a law for each way out. Assumes nothing.
use mathlib.Core.Path.{◌≡◌, refl, sym, ap, ◌∙◌}
use mathlib.Core.Bool.{Bool, true, false, cond, ◌||◌}
use Rattle.std.specs.Prelude.{None, Some}
use Rattle.std.specs.declared.result.Result.{Result}
use Rattle.std.specs.declared.result.Result.TheVariants.{Ok, Err}
use mathlib.Core.List.{List}
use Prim.Native.Nat.{ℕ, ◌+◌, ◌≤◌}
use native.Mathlib.Omega.{arith}
use lib.Dec.{eqb}
use lib.ListN.{length}
use borrow.Author.Tests.{eq-eqb, ne_eqb, eqb-true}
use Rattle.lexis.specs.Runs.{part}
use Rattle.lexis.specs.Spelling.{bar, dots, less, greater, at_most, at_least, plus_minus}
use Rattle.lexis.specs.Tokens.{token_at, integer, date}
use Rattle.lexis.specs.Clauses.Answers.{TokenIs}
use Rattle.lexis.specs.declared.Token.{Token}
use Rattle.values.specs.Integers.{pair, inside, around}
use Rattle.values.proofs.CalendarLaws.{real_first, real_last}
use Rattle.refusals.specs.Reading.{Reading, refused, got}
use Rattle.refusals.specs.Refusals.{refusal}
use Rattle.refusals.specs.Expecting.{expect, syntax_cause}
use Rattle.refusals.specs.Clauses.Answers.{ExpectIs}
use Rattle.refusals.specs.declared.Cause.TheVariants.{Impossible, OutOfRange, EmptyInterval}
use Rattle.refusals.specs.declared.Refusal.{Refusal}
use Rattle.refusals.proofs.Readings.{Holds}
use Rattle.refusals.proofs.StepLaws.{expected_fault, expected_token, expected_past}
use Rattle.refusals.proofs.Parses.{ordered_holds}
use Rattle.cadl_intervals.specs.Intervals.{kind_by, least, most, after, literal_value, ends, empty, closed}
use Rattle.cadl_intervals.specs.Intervals as text
use Rattle.cadl_intervals.specs.Clauses.Told.{literal, up_to, above, spread, from, with_literal, between, interval}
use Rattle.cadl_intervals.specs.Clauses.Answers.{LiteralIs, value_of, ends_of, ends_reading, ends_by, opens_ends, At, shut, interval_reading, IntervalPast, IntervalIs, NotEmpty}
use Rattle.cadl_intervals.specs.declared.literals.Literal.{Literal}
use Rattle.cadl_intervals.specs.declared.ends.Ends.{Ends}
use Rattle.cadl_intervals.specs.declared.ends.Interval.{Interval}
use Rattle.cadl_intervals.proofs.Pairs.{value_read}
use Rattle.cadl_intervals.proofs.IntervalParts.{literal_is, up_is, above_is, spread_is, from_is, between_is, interval_is}
use Rattle.cadl_intervals.proofs.IntervalReading.{Open, Shut, between-ordered, interval-ordered}

-- a literal
module _ (s : List ℕ) (kind at : ℕ) where
  pub literal_missing : (x : Refusal) → ExpectIs s kind at (expect s kind at) (Err x) → LiteralIs s kind at (Err x)
  literal_missing x e = record { is = rw (literal_is s kind at, expected_fault e x refl); past = tt }

  module _ (t : Token) (e : ExpectIs s kind at (expect s kind at) (Ok t)) where
    pub literal_none : None ≡ literal_value kind (part s t.start t.end) → LiteralIs s kind at (Err (refusal Impossible t.start))
    literal_none o = record { is = rw (literal_is s kind at, expected_token e t refl, ← o); past = tt }

    pub literal_there : (l : Literal) → l.next ≡ t.end → Some l.value ≡ literal_value kind (part s t.start t.end) → LiteralIs s kind at (Ok l)
    literal_there l n o =
        let m : t.end ≤ length s = let p = expected_past e t refl in omega arith in
        record {
          is = rw (literal_is s kind at, expected_token e t refl, ← o, n);
          past = (λ k. real_last l.value ((value_read kind (part s t.start t.end) l.value (sym o)).day k), rw n m);
        }

-- what a literal's answer says of the definition
module _ {s : List ℕ} {kind at : ℕ} where
  pub literal_refused : (x : Refusal) → LiteralIs s kind at (Err x) → literal s kind at ≡ refused x
  literal_refused x e = sym e.is

  pub literal_got : (l : Literal) → LiteralIs s kind at (Ok l) → literal s kind at ≡ got l.value l.next
  literal_got l e = sym e.is

-- the high end behind `..`
module _ (s : List ℕ) (kind low at : ℕ) (t : Token) (tok : TokenIs s at (token_at s at) t) where
  module _ (k : t.sort ≡ less) where
    pub below_faulty : (x : Refusal) → LiteralIs s kind t.end (Err x) → refused x ≡ up_to s kind low at
    below_faulty x e = rw (up_is s kind low at, ← tok.is, eq-eqb t.sort less k, literal_refused x e)

    pub below_there : (l : Literal) → LiteralIs s kind t.end (Ok l) → got (ends kind low l.value true) l.next ≡ up_to s kind low at
    below_there l e = rw (up_is s kind low at, ← tok.is, eq-eqb t.sort less k, literal_got l e)

  module _ (n : t.sort ≡ less → ⊥) where
    pub up_faulty : (x : Refusal) → LiteralIs s kind at (Err x) → refused x ≡ up_to s kind low at
    up_faulty x e = rw (up_is s kind low at, ← tok.is, ne_eqb t.sort less n, literal_refused x e)

    pub up_there : (l : Literal) → LiteralIs s kind at (Ok l) → got (ends kind low l.value false) l.next ≡ up_to s kind low at
    up_there l e = rw (up_is s kind low at, ← tok.is, ne_eqb t.sort less n, literal_got l e)

-- behind `|>a`
module _ (s : List ℕ) (kind a low at : ℕ) (m : low ≡ after kind a) (t : Token)
    (tok : TokenIs s at (token_at s at) t) where
  pub above_up : t.sort ≡ dots → (r : Result Ends Refusal) → ends_reading r ≡ up_to s kind low t.end
      → ends_reading r ≡ above s kind a at
  above_up k r e = rw (above_is s kind a at, ← tok.is, eq-eqb t.sort dots k, ← m) e

  pub above_open : (t.sort ≡ dots → ⊥) → (high : ℕ) → high ≡ most kind
      → got (ends kind low high false) at ≡ above s kind a at
  above_open n high h = rw (above_is s kind a at, ← tok.is, ne_eqb t.sort dots n, ← m, h)

-- the d of `+/-`
module _ (s : List ℕ) (a at : ℕ) (t : Token) (tok : TokenIs s at (token_at s at) t) where
  pub spread_faulty : (x : Refusal) → LiteralIs s integer at (Err x) → refused x ≡ spread s a at
  spread_faulty x e = rw (spread_is s a at, literal_refused x e)

  module _ (d : Literal) (e : LiteralIs s integer at (Ok d)) where
    pub spread_outside : false ≡ inside a d.value → refused (refusal OutOfRange t.start) ≡ spread s a at
    spread_outside k = rw (spread_is s a at, literal_got d e, ← k, ← tok.is)

    pub spread_ends : true ≡ inside a d.value → (l m low : ℕ) → pair l m ≡ around a d.value → low ≡ l
        → got (ends integer low m false) d.next ≡ spread s a at
    spread_ends k l m low o q = rw (spread_is s a at, literal_got d e, ← k, ← o, q)

-- behind `|a`
module _ (s : List ℕ) (kind a at : ℕ) (t : Token) (tok : TokenIs s at (token_at s at) t) where
  pub behind_date : t.sort ≡ plus_minus → kind ≡ date → (x : Refusal) → x ≡ refusal (syntax_cause t) t.start
      → refused x ≡ from s kind a at
  behind_date k d x e = rw (from_is s kind a at, ← tok.is, ne_eqb t.sort dots (λ z. omega arith), eq-eqb t.sort plus_minus k, eq-eqb kind date d, e)

  pub behind_spread : t.sort ≡ plus_minus → (kind ≡ date → ⊥) → (r : Result Ends Refusal) → ends_reading r ≡ spread s a t.end
      → ends_reading r ≡ from s kind a at
  behind_spread k d r e = rw (from_is s kind a at, ← tok.is, ne_eqb t.sort dots (λ z. omega arith), eq-eqb t.sort plus_minus k, ne_eqb kind date d) e

  module _ (n : t.sort ≡ plus_minus → ⊥) (low : ℕ) (m : low ≡ a) where
    pub behind_up : t.sort ≡ dots → (r : Result Ends Refusal) → ends_reading r ≡ up_to s kind low t.end
        → ends_reading r ≡ from s kind a at
    behind_up k r e = rw (from_is s kind a at, ← tok.is, eq-eqb t.sort dots k, ← m) e

    pub behind_only : (t.sort ≡ dots → ⊥) → got (ends kind low a false) at ≡ from s kind a at
    behind_only k = rw (from_is s kind a at, ← tok.is, ne_eqb t.sort dots k, ne_eqb t.sort plus_minus n, m)

-- a literal behind a mark
module _ (s : List ℕ) (mark kind a at : ℕ) where
  pub by_greater : mark ≡ greater → (r : Result Ends Refusal) → ends_reading r ≡ above s kind a at
      → ends_reading r ≡ ends_by s mark kind a at
  unfolding ends_by
  by_greater k r e = rw k e

  pub by_less : mark ≡ less → (l low : ℕ) → l ≡ least kind → low ≡ l → got (ends kind low a true) at ≡ ends_by s mark kind a at
  unfolding ends_by
  by_less k l low e f = rw (k, f, e)

  pub by_most : mark ≡ at_most → (l low : ℕ) → l ≡ least kind → low ≡ l → got (ends kind low a false) at ≡ ends_by s mark kind a at
  unfolding ends_by
  by_most k l low e f = rw (k, f, e)

  pub by_least : mark ≡ at_least → (low high : ℕ) → low ≡ a → high ≡ most kind
      → got (ends kind low high false) at ≡ ends_by s mark kind a at
  unfolding ends_by
  by_least k low high e f = rw (k, e, f)

  pub by_none : (mark ≡ greater → ⊥) → (mark ≡ less → ⊥) → (mark ≡ at_most → ⊥) → (mark ≡ at_least → ⊥) → (r : Result Ends Refusal)
      → ends_reading r ≡ from s kind a at → ends_reading r ≡ ends_by s mark kind a at
  unfolding ends_by
  by_none g l m n r e = rw (ne_eqb mark greater g, ne_eqb mark less l, ne_eqb mark at_most m, ne_eqb mark at_least n) e

-- the literal, and what it makes
module _ (s : List ℕ) (kind mark at : ℕ) (t : Token) (tok : TokenIs s at (token_at s at) t) (k : ℕ) (f : k ≡ kind_by kind t) where
  kind_is : k ≡ kind_by kind (token_at s at)
  kind_is = f ∙ ap (kind_by kind) tok.is

  pub with_faulty : (x : Refusal) → LiteralIs s k at (Err x) → refused x ≡ with_literal s kind at (ends_by s mark)
  with_faulty x e = rw (← kind_is, literal_refused x e)

  pub with_ends : (l : Literal) → LiteralIs s k at (Ok l) → (o : Result Ends Refusal) → ends_reading o ≡ ends_by s mark k l.value l.next
      → ends_reading o ≡ with_literal s kind at (ends_by s mark)
  with_ends l e o d = rw (← kind_is, literal_got l e) d

-- between the bars, by the sort of the first token
abbrev chosen : List ℕ → ℕ → ℕ → ℕ → ℕ → Reading text.Ends
chosen s kind mark end at =
    cond (eqb mark greater) (with_literal s kind end (above s))
    (cond (eqb mark less) (with_literal s kind end (λ k a p. got (ends k (least k) a true) p))
    (cond (eqb mark at_most) (with_literal s kind end (λ k a p. got (ends k (least k) a false) p))
    (cond (eqb mark at_least) (with_literal s kind end (λ k a p. got (ends k a (most k) false) p))
    (with_literal s kind at (from s)))))

or_case : (a b : Bool) (P : Type 0) → (a ≡ true → P) → (b ≡ true → P) → (a || b) ≡ true → P
or_case true b P f g h = f refl
or_case false b P f g h = g h

or_neither : (a b : Bool) (P : Type 0) → (a ≡ false → b ≡ false → P) → (a || b) ≡ false → P
or_neither true b P f h = let z : ◌≡◌ {A = ℕ} 0 1 = cc in absurd (omega arith)
or_neither false b P f h = f refl h

module _ (s : List ℕ) (kind mark end at : ℕ) where
  marked_by : (m : ℕ) → mark ≡ m → chosen s kind m end at ≡ with_literal s kind end (ends_by s m)
      → chosen s kind mark end at ≡ with_literal s kind end (ends_by s mark)
  marked_by m k e = rw k e

  marked : opens_ends mark ≡ true → chosen s kind mark end at ≡ with_literal s kind end (ends_by s mark)
  unfolding ends_by
  marked =
      let P = chosen s kind mark end at ≡ with_literal s kind end (ends_by s mark) in
      or_case _ (eqb mark at_least) P
      (or_case _ (eqb mark at_most) P
      (or_case (eqb mark greater) (eqb mark less) P (λ k. marked_by greater (eqb-true mark greater k) refl) (λ k. marked_by less (eqb-true mark less k) refl))
      (λ k. marked_by at_most (eqb-true mark at_most k) refl))
      (λ k. marked_by at_least (eqb-true mark at_least k) refl)

  unmarked : opens_ends mark ≡ false → chosen s kind mark end at ≡ with_literal s kind at (ends_by s mark)
  unfolding ends_by
  unmarked =
      let P = chosen s kind mark end at ≡ with_literal s kind at (ends_by s mark) in
      or_neither _ (eqb mark at_least) P (λ x n. or_neither _ (eqb mark at_most) P (λ y m. or_neither (eqb mark greater) (eqb mark less) P (λ g l. simp (g, l, m, n)) y) x)

module _ (s : List ℕ) (kind at : ℕ) (t : Token) (tok : TokenIs s at (token_at s at) t) (b : Bool)
    (h : b ≡ opens_ends t.sort) (r : Result Ends Refusal) where
  chosen_is : chosen s kind t.sort t.end at ≡ between s kind at
  chosen_is = ap (λ u. chosen s kind u.sort u.end at) tok.is ∙ sym (between_is s kind at)

  pub between_marked : b ≡ true → ends_reading r ≡ with_literal s kind t.end (ends_by s t.sort)
      → ends_reading r ≡ between s kind at
  between_marked k e = e ∙ sym (marked s kind t.sort t.end at (sym h ∙ k)) ∙ chosen_is

  pub between_plain : b ≡ false → ends_reading r ≡ with_literal s kind at (ends_by s t.sort)
      → ends_reading r ≡ between s kind at
  between_plain k e = e ∙ sym (unmarked s kind t.sort t.end at (sym h ∙ k)) ∙ chosen_is

-- an interval that was read lies in the text, and has one of the two kinds
interval_past : (s : List ℕ) (kind at : ℕ) → At s kind at → (r : Result Interval Refusal) → interval_reading r ≡ interval s kind at
    → IntervalPast s r
unfolding interval Holds
interval_past s kind at h (Err x) e = tt
interval_past s kind at h (Ok i) e =
    let o : Shut s kind (at + 1) true 0 (shut i.kind (pair i.low i.high)) i.next = rw (sym e) at (ordered_holds s _ true 0 _ (interval-ordered s kind h.asked true 0 at (omega arith) h.inside)) in
    (o.most, λ m. o.kind)

-- an interval
module _ (s : List ℕ) (kind at : ℕ) where
  pub interval_faulty : (x : Refusal) → refused x ≡ between s kind at → IntervalIs s (interval s kind at) (Err x)
  interval_faulty x e = record { is = rw (interval_is s kind at, ← e); past = tt }

  module _ (a : Ends) (e : got (ends_of a) a.next ≡ between s kind at) (d : At s kind at) where
    ends_open : Open s kind (at + 1) true 0 (ends_of a) a.next
    unfolding between Holds
    ends_open = rw (sym e) at (ordered_holds s _ true 0 _ (between-ordered s kind d.asked true 0 at (omega arith) d.inside))

    pub ends_inside : a.next ≤ length s
    ends_inside = ends_open.most

    pub ends_some : false ≡ empty (ends_of a) → NotEmpty a
    ends_some h = record {
      some = sym h;
      day = λ z l. let g = ends_open.good refl in let m = real_last (value_of a.high) (g.high.day z) in let q = real_first a.low (g.low z (omega arith)) in omega arith;
    }

    pub bar_missing : (x : Refusal) → ExpectIs s bar a.next (expect s bar a.next) (Err x) → IntervalIs s (interval s kind at) (Err x)
    bar_missing x f = record { is = rw (interval_is s kind at, ← e, expected_fault f x refl); past = tt }

    module _ (t : Token) (f : ExpectIs s bar a.next (expect s bar a.next) (Ok t)) where
      pub bar_empty : true ≡ empty (ends_of a) → IntervalIs s (interval s kind at) (Err (refusal EmptyInterval t.start))
      bar_empty k = record { is = rw (interval_is s kind at, ← e, expected_token f t refl, ← k); past = tt }

      pub bar_closed : false ≡ empty (ends_of a) → (i : Interval) → interval_reading (Ok i) ≡ got (shut a.kind (closed (ends_of a))) t.end
          → IntervalIs s (interval s kind at) (Ok i)
      bar_closed k i m =
          let z : interval_reading (Ok i) ≡ interval s kind at = rw (interval_is s kind at, ← e, expected_token f t refl, ← k) m in
          record { is = z; past = interval_past s kind at d (Ok i) z }
