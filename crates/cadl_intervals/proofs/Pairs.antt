-- Values, ends and closed pairs of a kind: integers as distances up to the greatest, days of the calendar. Assumes nothing.
use mathlib.Core.Path.{◌≡◌, refl, ap}
use mathlib.Core.Bool.{Bool, true, false, cond}
use Rattle.std.specs.Prelude.{Option, None, Some, option_map as map, unwrap_or}
use Rattle.std.proofs.lemmas.Option.{none-some}
use mathlib.Core.Logic.{◌≢◌}
use mathlib.Core.List.{List}
use Prim.Native.Nat.{ℕ, ◌-◌, ◌≤◌, ◌<◌}
use native.Mathlib.Omega.{arith}
use lib.Dec.{eqb, leb, ltb}
use native.Mathlib.Decide.{dec_lt}
use borrow.Author.Tests.{eqb-true, eqb-false, ne_eqb, eq-eqb, leb-false, ltb-false}
use Rattle.lexis.specs.Tokens.{integer, date}
use Rattle.lexis.proofs.Cases.{by_cond}
use Rattle.values.specs.Integers.{Pair, pair, inside, around, greatest}
use Rattle.values.specs.Calendar.{real, day_after, day_before, last_day, month_days, leap}
use Rattle.values.specs.declared.dates.Date.{Date}
use Rattle.values.specs.Dates.{date_of}
use Rattle.values.proofs.IntegerLaws.{integer_in_range, around-ends}
use Rattle.values.proofs.CalendarLaws.{real_first, real_last, after_follows, before_follows, nearest_before, after_last}
use Rattle.values.proofs.DateLaws.{date-good}
use Rattle.cadl_intervals.specs.Intervals.{Ends, ends, literal_value, least, most, after, before, empty, closed}

-- the kinds of literals: dates, and else integers
abbrev pub Kind : ℕ → Type 0
Kind kind = kind ≢ date → kind ≡ integer

pub kind_strict : (kind : ℕ) → Kind kind → 1 < kind
kind_strict kind k = by_date (eqb kind date) refl
  where
    by_date : (b : Bool) → eqb kind date ≡ b → 1 < kind
    by_date true e = let d = eqb-true kind date e in omega arith
    by_date false e = let d = k (eqb-false kind date e) in omega arith

-- a value of a kind
pub record Value (kind v : ℕ) : Type 0 where
  pub day : kind ≡ date → real v ≡ true
  pub number : kind ≢ date → v ≤ greatest

-- ends of a kind: the high end is a value; the low end is one too, unless it lies behind the last day
pub record EndsGood (e : Ends) : Type 0 where
  pub low : e.kind ≡ date → e.low ≤ last_day → real e.low ≡ true
  pub high : Value e.kind e.high

-- a closed pair of a kind
pub record ProperPair (kind : ℕ) (p : Pair) : Type 0 where
  pub order : p.low ≤ p.high
  pub low : kind ≡ date → real p.low ≡ true
  pub high : Value kind p.high

-- what a literal spells is a value of its kind
pub value_read : (kind : ℕ) (w : List ℕ) (v : ℕ) → literal_value kind w ≡ Some v → Value kind v
value_read kind w = by_cond (λ (o : Option ℕ). (v : ℕ) → o ≡ Some v → Value kind v) (eqb kind date)
    (λ d v e. record { day = λ k. day_read (date_of w) refl v e; number = λ k. absurd (k (eqb-true kind date d)) })
    (λ d v e. record { day = λ k. absurd (eqb-false kind date d k); number = λ k. integer_in_range w v e })
  where
    day_read : (o : Option Date) → date_of w ≡ o → (v : ℕ) → map (λ (d : Date). d.day) o ≡ Some v → real v ≡ true
    day_read None h v e = absurd (none-some v e)
    day_read (Some d) h v e = let k : d.day ≡ v = ap (λ o. unwrap_or o 0) e in rw k at (date-good w d h).is_real

pub least-good : (kind : ℕ) → kind ≡ date → least kind ≤ last_day → real (least kind) ≡ true
unfolding real month_days leap
least-good kind k h = rw (eq-eqb kind date k)

pub most-good : (kind : ℕ) → Value kind (most kind)
unfolding real month_days leap
most-good kind = record { day = λ k. rw (eq-eqb kind date k); number = λ k. rw (ne_eqb kind date k) (omega arith) }

-- an open low end
next_real : (b : ℕ) → real b ≡ true → day_after b ≤ last_day → real (day_after b) ≡ true
next_real b r h = by_last (dec_lt b last_day)
  where
    by_last : Dec (b < last_day) → real (day_after b) ≡ true
    by_last (yes l) = (after_follows b r l).real_next
    by_last (no l) =
        let last : b ≤ last_day = real_last b r in
        let e : b ≡ last_day = omega arith in
        let g : day_after last_day ≤ last_day = rw e at h in
        absurd (omega (arith, after_last))

pub after-good : (kind a : ℕ) → Value kind a → kind ≡ date → after kind a ≤ last_day → real (after kind a) ≡ true
after-good kind a v k = rw (eq-eqb kind date k) (next_real a (v.day k))

-- the ends of `+/-`
pub spread-good : (a c : ℕ) → a ≤ greatest → inside a c ≡ true
    → EndsGood (ends integer (around a c).low (around a c).high false)
spread-good a c h i =
    let never : integer ≢ date = eqb-false integer date refl in
    record { low = λ k. absurd (never k); high = record { day = λ k. absurd (never k); number = λ k. (around-ends a c h i).high } }

-- the day before a high end that a low end stays below
pub below_good : (low b : ℕ) → real low ≡ true → real b ≡ true → low < b
    → (low ≤ day_before b) × (real (day_before b) ≡ true)
below_good low b r q h =
    let f = before_follows b q (omega (arith, real_first low r)) in
    (nearest_before (day_before b) b low f r h, f.real_here)

-- an interval that is not empty is a closed pair
module _ (kind low high : ℕ) where
  shut-pair : EndsGood (ends kind low high false) → ltb high low ≡ false → ProperPair kind (pair low high)
  shut-pair g h =
      let l : low ≤ high = ltb-false high low h in
      record { order = l; low = λ k. g.low k (omega (arith, real_last high (g.high.day k))); high = g.high }

  below_pair : EndsGood (ends kind low high true) → leb high low ≡ false → ProperPair kind (pair low (before kind high))
  below_pair g h =
      let l : low < high = leb-false high low h in
      by_kind (eqb kind date) refl l
    where
      by_kind : (b : Bool) → eqb kind date ≡ b → low < high
          → ProperPair kind (pair low (cond b (day_before high) (high - 1)))
      by_kind true e l =
          let k = eqb-true kind date e in
          let r = g.low k (omega (arith, real_last high (g.high.day k))) in
          let z = below_good low high r (g.high.day k) l in
          record { order = z.0; low = λ q. r; high = record { day = λ q. z.1; number = λ q. absurd (q k) } }
      by_kind false e l =
          let k : kind ≢ date = eqb-false kind date e in
          let m : high ≤ greatest = g.high.number k in
          record { order = omega arith; low = λ q. absurd (k q); high = record { day = λ q. absurd (k q); number = λ q. omega arith } }

pub closed_proper : (kind low high : ℕ) (below : Bool) → EndsGood (ends kind low high below)
    → empty (ends kind low high below) ≡ false → ProperPair kind (closed (ends kind low high below))
closed_proper kind low high true g h = below_pair kind low high g h
closed_proper kind low high false g h = shut-pair kind low high g h
