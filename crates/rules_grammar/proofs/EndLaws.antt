-- The ends of an interval by the rules are those that reading computes: the next value, the least and the greatest, and the ends of `+/-`. Assumes nothing.
use mathlib.Core.Path.{◌≡◌, refl, subst, subst₂}
use mathlib.Core.Bool.{true, false}
use Prim.Native.Nat.{ℕ, ◌+◌, ◌-◌, ◌≤◌, ◌<◌}
use native.Mathlib.Omega.{arith}
use lib.Dec.{leb, ltb}
use borrow.Author.Tests.{leb-false, ltb-true, ltb-false, le-leb, le-ltb, lt-ltb}
use Rattle.lexis.specs.Tokens.{integer, date}
use Rattle.lexis.proofs.Cases.{by_cond}
use Rattle.values.specs.Integers.{pair, nought, greatest, magnitude, inside, around}
use Rattle.values.specs.Calendar.{month_days, year_of, month_of, day_of, packed, real, last_day, day_after, day_before}
use Rattle.values.specs.Days.{MonthHas, january, IsDay, is_day, packed_day}
use Rattle.values.proofs.Common.{by_order, le_left, le_right}
use Rattle.values.proofs.CalendarLaws.{month_long, year_packed, month_packed, day_packed, real_is_lem, real-packed, real_first, real_last, after_follows, before_follows, before-after, after-before, after_last}
use Rattle.values.proofs.IntegerLaws.{around-ends}
use Rattle.values.proofs.DayLaws.{day_real, packed_day_lem, has_month}
use Rattle.cadl_intervals.specs.Intervals.{ends, least, most, after, before, empty}
use Rattle.cadl_intervals.proofs.Pairs.{Value, EndsGood, closed_proper}
use Rattle.rules_grammar.specs.LeafGrammar.{Bounds, of_integers, of_dates, StepsTo, next_integer, next_day, next_month, next_year}

-- the kinds of lists
pub data Kind : ℕ → Type 0 where
  is_integer : Kind integer
  is_date : Kind date

-- the last day of a month, computed, is the rule's
last_day_lem : {y m d : ℕ} → IsDay y m d → month_days y m ≤ d → MonthHas y m d
last_day_lem {y} {m} {d} (is_day {days = n} h s k l) g = let q = has_month s in let e : n ≡ d = omega arith in subst (MonthHas y m) e s

-- parts that the calendar has are a day of the rule
day_of_lem : (y m d : ℕ) → y ≤ 9999 → 1 ≤ m → m ≤ 12 → 1 ≤ d → d ≤ month_days y m → IsDay y m d
day_of_lem y m d hy l h k i = let b = month_long y m l h in (day_real y m d (omega arith) (omega arith)).0 (real-packed y m d hy l h k i)

-- the same of equal days
moved : {a b p q : ℕ} → StepsTo date a b → a ≡ p → b ≡ q → StepsTo date p q
moved f e g = subst₂ (StepsTo date) e g f

-- the day after, computed, is the next by the rules
day_steps : (p : ℕ) → real p ≡ true → p < last_day → StepsTo date p (day_after p)
unfolding day_after month_days
day_steps p e l =
    let f = real_is_lem p e in
    let y = year_of p in let m = month_of p in let d = day_of p in
    let here = day_of_lem y m d (omega arith) f.month f.december f.day f.in_month in
    by_cond (StepsTo date p) (ltb d (month_days y m))
    (λ t. let i = ltb-true d (month_days y m) t in
    moved (next_day here (day_of_lem y m (d + 1) (omega arith) f.month f.december (omega arith) (omega arith))) (omega arith) (omega arith))
    (λ t. let i = ltb-false d (month_days y m) t in
    by_cond (StepsTo date p) (ltb m 12)
    (λ u. let h = ltb-true m 12 u in
    let c = month_long y (m + 1) (omega arith) (omega arith) in
    moved (next_month (last_day_lem here i) (day_of_lem y (m + 1) 1 (omega arith) (omega arith) (omega arith) (omega arith) (omega arith))) (omega arith) refl)
    (λ u. let h = ltb-false m 12 u in
    let n : month_days y m ≡ month_days y 12 = let q : m ≡ 12 = omega arith in rw q in
    moved (next_year y (is_day (omega arith) january (omega arith) (omega arith))) (omega arith) refl))

-- the next by the rules is the day after, computed
record DayAfter (a b : ℕ) : Type 0 where
  real_here : real a ≡ true
  before_last : a < last_day
  next : day_after a ≡ b

steps_days : {a b : ℕ} → StepsTo date a b → DayAfter a b
unfolding day_after month_days
steps_days (next_day {y = y} {m = m} {d = d} h k) =
    let p = packed y m d in
    let r = (packed_day_lem p).1 (packed_day h) in
    let q = (packed_day_lem (packed y m (d + 1))).1 (packed_day k) in
    let l = real_last (packed y m (d + 1)) q in
    let f = after_follows p r (omega arith) in
    let a = f.above in
    let b = f.nearest (packed y m (d + 1)) q (omega arith) in
    record { real_here = r; before_last = omega arith; next = omega arith }
steps_days (next_month {y = y} {m = m} {d = d} h (is_day i s j k)) =
    let a = has_month h in
    let b = has_month s in
    let c = month_long y m a.0 a.1 in
    record {
      real_here = real-packed y m d i a.0 a.1 (omega arith) (omega arith);
      before_last = omega arith;
      next = rw (year_packed y m d (omega arith) (omega arith), month_packed y m d (omega arith) (omega arith), day_packed y m d (omega arith) (omega arith), a.2, le-ltb d d (omega arith), lt-ltb m 12 (omega arith));
    }
steps_days (next_year y (is_day i s j k)) = record {
  real_here = real-packed y 12 31 (omega arith) (omega arith) (omega arith) (omega arith) (omega arith);
  before_last = omega arith;
  next = rw (year_packed y 12 31 (omega arith) (omega arith), month_packed y 12 31 (omega arith) (omega arith), day_packed y 12 31 (omega arith) (omega arith));
}

-- a value of a kind lies between the least and the greatest, which are the rule's
pub value-least : {k v : ℕ} → Kind k → Value k v → least k ≤ v
value-least is_integer w = omega arith
value-least {v = v} is_date w = real_first v (w.day refl)

pub value-most : {k v : ℕ} → Kind k → Value k v → v ≤ most k
value-most is_integer w = w.number (λ e. omega arith)
value-most {v = v} is_date w = real_last v (w.day refl)

pub bounds_of : {k : ℕ} → Kind k → Bounds k (least k) (most k)
bounds_of is_integer = of_integers
bounds_of is_date = of_dates

pub bounds_are : {k low high : ℕ} → Bounds k low high → (least k ≡ low) × (most k ≡ high)
bounds_are of_integers = (refl, refl)
bounds_are of_dates = (refl, refl)

-- the value behind a value and the one before it are the neighbours by the rules
pub step_after : {k a b : ℕ} → Kind k → Value k a → Value k b → after k a ≤ b → StepsTo k a (after k a)
step_after is_integer v w h = next_integer
step_after {a = a} {b = b} is_date v w h =
    let r = v.day refl in
    let l = real_last a r in
    let g = real_last b (w.day refl) in
    by_order last_day a
    (λ i. let e : a ≡ last_day = omega arith in let j : day_after last_day ≤ b = rw e at h in absurd (omega (arith, after_last)))
    (λ i. day_steps a r i)

pub step_before : {k b : ℕ} → Kind k → Value k b → least k < b → StepsTo k (before k b) b
step_before {b = b} is_integer w h = let e : b - 1 + 1 ≡ b = omega arith in subst (StepsTo integer (b - 1)) e next_integer
step_before {b = b} is_date w h =
    let r = w.day refl in
    let f = before_follows b r h in
    let a = f.above in
    let l = real_last b r in
    subst (StepsTo date (day_before b)) (after-before b r h) (day_steps (day_before b) f.real_here (omega arith))

-- a value that has a next is not below the least
pub step_least : {k low high a b : ℕ} → Bounds k low high → StepsTo k a b → low ≤ a
step_least of_integers s = omega arith
step_least {a = a} of_dates s = real_first a (steps_days s).real_here

-- the next by the rules is the value behind a value, and the other way round
pub record Stepped (k a b : ℕ) : Type 0 where
  pub above : a < b
  pub next : after k a ≡ b
  pub last : before k b ≡ a

pub stepped : {k a b : ℕ} → Kind k → StepsTo k a b → Stepped k a b
stepped is_integer (next_integer {a = a}) = record { above = omega arith; next = refl; last = omega arith }
stepped {a = a} {b = b} is_date s =
    let d = steps_days s in
    let f = after_follows a d.real_here d.before_last in
    record { above = rw d.next at f.above; next = d.next; last = rw d.next at (before-after a d.real_here d.before_last) }

-- the high end of an interval that stays below b, where some value lies in it
pub step_below : {k low b : ℕ} → Kind k → EndsGood (ends k low b true) → empty (ends k low b true) ≡ false
    → StepsTo k (before k b) b × (low ≤ before k b)
step_below {k} {low} {b} q g h =
    let l : low < b = leb-false b low h in
    (step_before q g.high (omega (arith, first q g l)), (closed_proper k low b true g h).order)
  where
    first : {j : ℕ} → Kind j → EndsGood (ends j low b true) → low < b → least j ≤ low
    first is_integer f l = omega arith
    first is_date f l = real_first low (f.low refl (omega (arith, real_last b (f.high.day refl))))

-- the ends of `+/-`, where some value lies between them
pub record Spread (a d : ℕ) : Type 0 where
  pub size : ℕ
  pub low : ℕ
  pub value : d ≡ 2_147_483_648 + size
  pub least : low + size ≡ a
  pub most : a + size ≤ 4_294_967_295
  pub ends : around a d ≡ pair low (a + size)

pub spread_of : (a d : ℕ) → inside a d ≡ true → ltb (around a d).high (around a d).low ≡ false → Spread a d
unfolding inside around
spread_of a d e h =
    let i = le_left (magnitude d) a (leb (a + magnitude d) greatest) e in
    let j = le_right (leb (magnitude d) a) (a + magnitude d) greatest e in
    by_order nought d
    (λ l.
    let n = le-leb nought d l in
    let m : magnitude d ≡ d - nought = rw n in
    record { size = d - nought; low = a - (d - nought); value = omega arith; least = omega arith; most = omega arith; ends = rw n })
    (λ l. let k = (around-ends a d (omega arith) e).empty l in absurd (omega (arith, ltb-false (around a d).high (around a d).low h)))

pub spread_got : (a low m : ℕ) → low + m ≡ a → a + m ≤ greatest
    → (inside a (nought + m) ≡ true) × (around a (nought + m) ≡ pair low (a + m))
unfolding inside around
spread_got a low m e h =
    let n = le-leb nought (nought + m) (omega arith) in
    let k : nought + m - nought ≡ m = omega arith in
    let l : a - m ≡ low = omega arith in
    (rw (n, k, le-leb m a (omega arith), le-leb (a + m) greatest h), rw (n, k, l))
