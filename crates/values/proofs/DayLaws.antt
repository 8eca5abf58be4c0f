-- The days that the calendar computes are those of its rules. Assumes nothing.
use mathlib.Core.Path.{◌≡◌, refl, subst}
use mathlib.Core.Logic.{◌↔◌}
use mathlib.Core.Bool.{Bool, true, false, cond, not, ◌&&◌, ◌||◌, false≢true}
use Prim.Native.Nat.{ℕ, zero, suc, ◌+◌, ◌%◌, ◌≤◌, ◌<◌}
use native.Mathlib.Omega.{arith}
use lib.Dec.{eqb}
use borrow.Author.Tests.{eqb-true, eqb-false, eq-eqb, ne_eqb}
use Rattle.lexis.proofs.Cases.{by_cond}
use Rattle.values.specs.Calendar.{leap, month_days, year_of, month_of, day_of, packed, real}
use Rattle.values.specs.Days.{Leap, by_four, by_four_hundred, MonthHas, january, february, leap_february, march, april, may, june, july, august, september, october, november, december, IsDay, is_day, PackedDay, packed_day}
use Rattle.values.proofs.Common.{by_order}
use Rattle.values.proofs.CalendarLaws.{year_packed, month_packed, day_packed, real_is_lem, real-packed}

-- leap years by the three tests
leap_by : (y : ℕ) → leap y ≡ true → Leap y
unfolding leap
leap_by y = go (eqb (y % 4) 0) (eqb (y % 100) 0) (eqb (y % 400) 0) refl refl refl
  where
    go : (a b c : Bool) → eqb (y % 4) 0 ≡ a → eqb (y % 100) 0 ≡ b → eqb (y % 400) 0 ≡ c → (a && (not b || c)) ≡ true
        → Leap y
    go true false c p q r e = by_four (eqb-true (y % 4) 0 p) (eqb-false (y % 100) 0 q)
    go true true true p q r e = by_four_hundred (eqb-true (y % 400) 0 r)
    go true true false p q r e = absurd (false≢true e)
    go false b c p q r e = absurd (false≢true e)

leap_of : {y : ℕ} → Leap y → leap y ≡ true
unfolding leap
leap_of {y} (by_four h k) = rw (eq-eqb (y % 4) 0 h, ne_eqb (y % 100) 0 k)
leap_of {y} (by_four_hundred h) = rw (eq-eqb (y % 4) 0 (omega arith), eq-eqb (y % 100) 0 (omega arith), eq-eqb (y % 400) 0 h)

pub leap_rule : (y : ℕ) → (leap y ≡ true) ↔ Leap y
leap_rule y = (leap_by y, leap_of)

-- it holds of n numbers from one on, and so of each of them
abbrev Rows : (ℕ → Type 0) → ℕ → ℕ → Type 0
Rows P low zero = Unit
Rows P low (suc n) = P low × Rows P (suc low) n

row : (P : ℕ → Type 0) (low n : ℕ) → Rows P low n → (i : ℕ) → low ≤ i → i < low + n → P i
row P low zero r i l h = absurd (omega arith)
row P low (suc n) r i l h =
    by_order i low (λ k. let e : low ≡ i = omega arith in subst P e r.0) (λ k. row P (suc low) n r.1 i (omega arith) (omega arith))

-- the days of a month are those of the rule
february_has : (y : ℕ) → MonthHas y 2 (cond (leap y) 29 28)
february_has y = by_cond (MonthHas y 2) (leap y) (λ e. leap_february (leap_by y e)) (λ e. february (λ l. false≢true (rw e at (leap_of l))))

month_has : (y m : ℕ) → 1 ≤ m → m ≤ 12 → MonthHas y m (month_days y m)
unfolding month_days
month_has y m l h =
    row (λ i. MonthHas y i (month_days y i)) 1 12
    (january, (february_has y, (march, (april, (may, (june, (july, (august, (september, (october, (november, (december, tt)))))))))))) m l (omega arith)

pub has_month : {y m n : ℕ} → MonthHas y m n → (1 ≤ m) × (m ≤ 12) × (month_days y m ≡ n)
unfolding month_days
has_month january = omega arith
has_month {y} (february h) = (omega arith, omega arith, by_cond (λ n. n ≡ 28) (leap y) (λ e. absurd (h (leap_by y e))) (λ e. refl))
has_month (leap_february h) = (omega arith, omega arith, rw (leap_of h))
has_month march = omega arith
has_month april = omega arith
has_month may = omega arith
has_month june = omega arith
has_month july = omega arith
has_month august = omega arith
has_month september = omega arith
has_month october = omega arith
has_month november = omega arith
has_month december = omega arith

-- parts that are a day of the rule are packed into a real day
day_is : {y m d : ℕ} → IsDay y m d → real (packed y m d) ≡ true
day_is {y} {m} {d} (is_day {days = n} h s k l) = let a = has_month s in real-packed y m d h a.0 a.1 k (omega arith)

-- the parts of a real day are a day of the rule
real_day : (p : ℕ) → real p ≡ true → IsDay (year_of p) (month_of p) (day_of p)
real_day p e =
    let r = real_is_lem p e in
    is_day (omega arith) (month_has (year_of p) (month_of p) r.month r.december) r.day r.in_month

pub day_real : (y m d : ℕ) → m ≤ 99 → d ≤ 99 → (real (packed y m d) ≡ true) ↔ IsDay y m d
day_real y m d h k =
    let a : m < 100 = omega arith in let b : d < 100 = omega arith in
    (λ e. rw (year_packed y m d a b, month_packed y m d a b, day_packed y m d a b) at (real_day (packed y m d) e), day_is)

pub packed_day_lem : (p : ℕ) → (real p ≡ true) ↔ PackedDay p
packed_day_lem p = (λ e. subst PackedDay (omega arith) (packed_day (real_day p e)), λ h. is_real h)
  where
    is_real : {q : ℕ} → PackedDay q → real q ≡ true
    is_real (packed_day h) = day_is h
