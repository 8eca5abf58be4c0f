-- What reading tells of an interval, by its parts. Assumes nothing.
use mathlib.Core.Path.{◌≡◌, refl}
use mathlib.Core.Bool.{true, false, cond}
use mathlib.Core.List.{List}
use Prim.Native.Nat.{ℕ}
use lib.Dec.{eqb}
use Rattle.lexis.specs.Spelling.{bar, dots, less, greater, at_most, at_least, plus_minus}
use Rattle.lexis.specs.Tokens.{token_at, integer, date, spelling}
use Rattle.values.specs.Integers.{inside, around}
use Rattle.refusals.specs.declared.Cause.TheVariants.{OutOfRange, EmptyInterval}
use Rattle.refusals.specs.Reading.{got, read_then, read_unless}
use Rattle.refusals.specs.Expecting.{expect, syntax_fault}
use Rattle.refusals.specs.Parsing.{first_in, wanted}
use Rattle.refusals.proofs.Parses.{first_then, first_soundly, told_cond, told_noting, told_read, told_then, told_soundly}
use Rattle.cadl_intervals.specs.Intervals.{kind_by, ends, least, most, after, literal_value, possible, empty, closed}
use Rattle.cadl_intervals.specs.Intervals
use Rattle.cadl_intervals.specs.Clauses.Told.{literal, up_to, above, spread, from, with_literal, between, interval}

module _ (s : List ℕ) where
  pub literal_is : (kind at : ℕ)
      → literal s kind at ≡ read_then (expect s kind at) (λ t p. first_in (possible t (literal_value kind (spelling s t))))
  unfolding literal Intervals.literal
  literal_is kind at = told_then (wanted s kind at) _ _ _ (told_read (expect s kind at)) (λ t p. refl)

  pub up_is : (kind low at : ℕ) → up_to s kind low at
      ≡ cond (eqb (token_at s at).sort less)
      (read_then (literal s kind (token_at s at).end) (λ b p. got (ends kind low b true) p))
      (read_then (literal s kind at) (λ b p. got (ends kind low b false) p))
  unfolding up_to literal Intervals.up_to
  up_is kind low at = told_cond (eqb (token_at s at).sort less) _ _ _ _ (first_then (Intervals.literal s kind (token_at s at).end) _) (first_then (Intervals.literal s kind at) _)

  pub above_is : (kind a at : ℕ) → above s kind a at
      ≡ cond (eqb (token_at s at).sort dots) (up_to s kind (after kind a) (token_at s at).end)
      (got (ends kind (after kind a) (most kind) false) at)
  unfolding above up_to Intervals.above
  above_is kind a at = told_cond (eqb (token_at s at).sort dots) _ _ _ _ refl refl

  pub spread_is : (a at : ℕ) → spread s a at
      ≡ read_then (literal s integer at) (λ d p.
      read_unless (cond (inside a d) false true) OutOfRange (token_at s at).start
      (got (ends integer (around a d).low (around a d).high false) p))
  unfolding spread literal Intervals.spread
  spread_is a at = told_soundly (Intervals.literal s integer at) _ _ _ refl (λ d p. told_noting (cond (inside a d) false true) OutOfRange (token_at s at).start _ _ refl)

  pub from_is : (kind a at : ℕ) → from s kind a at
      ≡ cond (eqb (token_at s at).sort dots) (up_to s kind a (token_at s at).end)
      (cond (eqb (token_at s at).sort plus_minus)
      (cond (eqb kind date) (syntax_fault (token_at s at)) (spread s a (token_at s at).end))
      (got (ends kind a a false) at))
  unfolding from up_to spread Intervals.from
  from_is kind a at =
      told_cond (eqb (token_at s at).sort dots) _ _ _ _ refl
      (told_cond (eqb (token_at s at).sort plus_minus) _ _ _ _ (told_cond (eqb kind date) _ _ _ _ refl refl) refl)

  pub between_is : (kind at : ℕ) → between s kind at
      ≡ cond (eqb (token_at s at).sort greater) (with_literal s kind (token_at s at).end (above s))
      (cond (eqb (token_at s at).sort less)
      (with_literal s kind (token_at s at).end (λ k a p. got (ends k (least k) a true) p))
      (cond (eqb (token_at s at).sort at_most)
      (with_literal s kind (token_at s at).end (λ k a p. got (ends k (least k) a false) p))
      (cond (eqb (token_at s at).sort at_least)
      (with_literal s kind (token_at s at).end (λ k a p. got (ends k a (most k) false) p))
      (with_literal s kind at (from s)))))
  unfolding between literal above from Intervals.between
  between_is kind at =
      let t = token_at s at in
      let x = Intervals.literal s (kind_by kind (token_at s t.end)) t.end in
      told_cond (eqb t.sort greater) _ _ _ _ (first_soundly x _) (told_cond (eqb t.sort less) _ _ _ _ (first_soundly x _)
      (told_cond (eqb t.sort at_most) _ _ _ _ (first_soundly x _) (told_cond (eqb t.sort at_least) _ _ _ _ (first_soundly x _)
      (first_soundly (Intervals.literal s (kind_by kind t) at) _))))

  pub interval_is : (kind at : ℕ) → interval s kind at
      ≡ read_then (between s kind at) (λ e p.
      read_then (expect s bar p)
      (λ t q. read_unless (empty e) EmptyInterval t.start (got (record { kind = e.kind; pair = closed e }) q)))
  unfolding interval between Intervals.interval
  interval_is kind at =
      told_soundly (Intervals.between s kind at) _ _ _ refl (λ e p.
      told_then (wanted s bar p) _ _ _ (told_read (expect s bar p)) (λ t q. told_noting (empty e) EmptyInterval t.start _ _ refl))
