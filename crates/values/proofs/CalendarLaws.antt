-- The calendar: the parts of a packed date, what a real day is, and that the day after and the day before are the neighbours. Assumes nothing.
use mathlib.Core.Path.{◌≡◌, refl, subst₂}
use mathlib.Core.Bool.{true, ◌&&◌}
use Prim.Native.Nat.{ℕ, zero, suc, ◌+◌, ◌-◌, ◌≤◌, ◌<◌}
use native.Mathlib.Omega.{arith}
use lib.Dec.{eqb, leb, ltb}
use lib.ListN.{get_or, get_or-eq_default}
use borrow.Author.Tests.{ltb-true, ltb-false, le-leb, ne_eqb}
use Rattle.lexis.proofs.Cases.{by_cond, and_left}
use Rattle.values.specs.Calendar.{leap, months, month_days, year_of, month_of, day_of, packed, real, first_day, last_day, day_after, day_before}
use Rattle.values.proofs.Common.{le_left, le_right, by_order, below}

-- the parts of a packed date read back
module _ (y m d : ℕ) (hm : m < 100) (hd : d < 100) where
  pub year_packed : year_of (packed y m d) ≡ y
  year_packed = omega arith

  pub month_packed : month_of (packed y m d) ≡ m
  month_packed = omega arith

  pub day_packed : day_of (packed y m d) ≡ d
  day_packed = omega arith

-- every month has 28 days to 31
pub month_long : (y m : ℕ) → 1 ≤ m → m ≤ 12 → (28 ≤ month_days y m) × (month_days y m ≤ 31)
unfolding month_days
month_long y zero l h = absurd (omega arith)
month_long y (suc i) l h =
    by_cond (λ n. (28 ≤ n) × (n ≤ 31)) (eqb (suc i) 2 && leap y) (λ e. omega arith)
    (λ e.
    let n = get_or months i 0 in
    let b = below 12 (λ j. leb 28 (get_or months j 0) && leb (get_or months j 0) 31) refl i (omega arith) in
    (le_left 28 n (leb n 31) b, le_right (leb 28 n) n 31 b))

-- a month that has a day is one of twelve
pub month_one_of : (y m : ℕ) → 1 ≤ month_days y m → (1 ≤ m) × (m ≤ 12)
unfolding month_days
month_one_of y zero h = absurd (omega arith)
month_one_of y (suc i) h =
    by_order (suc i) 12 (λ l. omega arith)
    (λ g. let e : month_days y (suc i) ≡ 0 = rw (ne_eqb (suc i) 2 (omega arith)) (get_or-eq_default months 0 {n = i} (omega arith)) in absurd (omega arith))

-- what holds of a real day
pub record Real (p : ℕ) : Type 0 where
  pub last : p ≤ last_day
  pub month : 1 ≤ month_of p
  pub december : month_of p ≤ 12
  pub fewest : 28 ≤ month_days (year_of p) (month_of p)
  pub most : month_days (year_of p) (month_of p) ≤ 31
  pub day : 1 ≤ day_of p
  pub in_month : day_of p ≤ month_days (year_of p) (month_of p)

pub real_is_lem : (p : ℕ) → real p ≡ true → Real p
unfolding real
real_is_lem p e =
    let n = month_days (year_of p) (month_of p) in
    let h = and_left (leb p last_day && leb 1 (day_of p)) (leb (day_of p) n) e in
    let i = le_right (leb p last_day && leb 1 (day_of p)) (day_of p) n e in
    let l = le_left p last_day (leb 1 (day_of p)) h in
    let d = le_right (leb p last_day) 1 (day_of p) h in
    let m = month_one_of (year_of p) (month_of p) (omega arith) in
    let b = month_long (year_of p) (month_of p) m.0 m.1 in
    omega arith

-- parts that the calendar has make a real day
pub real-packed : (y m d : ℕ) → y ≤ 9999 → 1 ≤ m → m ≤ 12 → 1 ≤ d → d ≤ month_days y m → real (packed y m d) ≡ true
unfolding real
real-packed y m d hy l h k i =
    let b = month_long y m l h in
    rw (
      year_packed y m d (omega arith) (omega arith),
      month_packed y m d (omega arith) (omega arith),
      day_packed y m d (omega arith) (omega arith),
      le-leb 1 d k,
      le-leb d (month_days y m) i,
      le-leb (packed y m d) 99_991_231 (omega arith),
    )

-- q is the next real day after p
pub record Follows (p q : ℕ) : Type 0 where
  pub real_here : real p ≡ true
  pub real_next : real q ≡ true
  pub above : p < q
  pub nearest : (r : ℕ) → real r ≡ true → p < r → q ≤ r

-- the next after a day within its month, after a month's last, after a year's last
day_step : (y m d : ℕ) → y ≤ 9999 → 1 ≤ m → m ≤ 12 → 1 ≤ d → d < month_days y m
    → Follows (packed y m d) (packed y m (d + 1))
day_step y m d hy l h k i = record {
  real_here = real-packed y m d hy l h k (omega arith);
  real_next = real-packed y m (d + 1) hy l h (omega arith) (omega arith);
  above = omega arith;
  nearest = λ r e g. omega arith;
}

month_step : (y m : ℕ) → y ≤ 9999 → 1 ≤ m → m < 12 → Follows (packed y m (month_days y m)) (packed y (m + 1) 1)
month_step y m hy l h =
    let b = month_long y m l (omega arith) in
    let c = month_long y (m + 1) (omega arith) (omega arith) in
    record {
      real_here = real-packed y m (month_days y m) hy l (omega arith) (omega arith) (omega arith);
      real_next = real-packed y (m + 1) 1 hy (omega arith) (omega arith) (omega arith) (omega arith);
      above = omega arith;
      nearest = λ r e g. by_order (packed y (m + 1) 1) r (λ k. k) (λ k.
          let f = real_is_lem r e in
          let yr : year_of r ≡ y = omega arith in
          let mr : month_of r ≡ m = omega arith in
          let n : month_days (year_of r) (month_of r) ≡ month_days y m = rw (yr, mr) in
          absurd (omega arith));
    }

year_step : (y : ℕ) → y < 9999 → Follows (packed y 12 31) (packed (y + 1) 1 1)
unfolding month_days
year_step y h = record {
  real_here = real-packed y 12 31 (omega arith) (omega arith) (omega arith) (omega arith) (omega arith);
  real_next = real-packed (y + 1) 1 1 (omega arith) (omega arith) (omega arith) (omega arith) (omega arith);
  above = omega arith;
  nearest = λ r e g. let f = real_is_lem r e in omega arith;
}

-- the same of equal days
moved : {a b p q : ℕ} → Follows a b → a ≡ p → b ≡ q → Follows p q
moved f e g = subst₂ Follows e g f

-- a day has one next day, and is the next of one day
same_next : (p q r : ℕ) → Follows p q → Follows p r → q ≡ r
same_next p q r f g = let a = f.nearest r g.real_next g.above in let b = g.nearest q f.real_next f.above in omega arith

same_before : (p q r : ℕ) → Follows p r → Follows q r → p ≡ q
same_before p q r f g =
    by_order p q
    (λ l. by_order q p (λ m. omega arith) (λ m. let a = f.nearest q g.real_here m in let b = g.above in absurd (omega arith)))
    (λ l. let a = g.nearest p f.real_here l in let b = f.above in absurd (omega arith))

module _ (p : ℕ) (e : real p ≡ true) where
  -- a real day lies between the first and the last
  pub real_first : first_day ≤ p
  real_first = let f = real_is_lem p e in omega arith

  pub real_last : p ≤ last_day
  real_last = (real_is_lem p e).last

  -- the day after is the next real day
  pub after_follows : p < last_day → Follows p (day_after p)
  unfolding day_after month_days
  after_follows l =
      let f = real_is_lem p e in
      let y = year_of p in let m = month_of p in let d = day_of p in
      by_cond (Follows p) (ltb d (month_days y m))
      (λ t. moved (day_step y m d (omega arith) f.month f.december f.day (ltb-true d (month_days y m) t)) (omega arith) (omega arith))
      (λ t. let i = ltb-false d (month_days y m) t in
      by_cond (Follows p) (ltb m 12)
      (λ u. moved (month_step y m (omega arith) f.month (ltb-true m 12 u)) (omega arith) refl)
      (λ u.
      let h = ltb-false m 12 u in
      let n : month_days y m ≡ month_days y 12 = let q : m ≡ 12 = omega arith in rw q in
      moved (year_step y (omega arith)) (omega arith) refl))

  -- a real day is the next after the day before it
  pub before_follows : first_day < p → Follows (day_before p) p
  unfolding day_before
  before_follows l =
      let f = real_is_lem p e in
      let y = year_of p in let m = month_of p in let d = day_of p in
      by_cond (λ q. Follows q p) (ltb 1 d)
      (λ t. let i = ltb-true 1 d t in
      moved (day_step y m (d - 1) (omega arith) f.month f.december (omega arith) (omega arith)) (omega arith) (omega arith))
      (λ t. let i = ltb-false 1 d t in
      by_cond (λ q. Follows q p) (ltb 1 m)
      (λ u. let h = ltb-true 1 m u in moved (month_step y (m - 1) (omega arith) (omega arith) (omega arith)) refl (omega arith))
      (λ u. let h = ltb-false 1 m u in moved (year_step (y - 1) (omega arith)) refl (omega arith)))

-- a real day before q is not after the day that q follows
pub nearest_before : (p q r : ℕ) → Follows p q → real r ≡ true → r < q → r ≤ p
nearest_before p q r f e l = by_order r p (λ h. h) (λ h. let a = f.nearest r e h in absurd (omega arith))

-- the day before the day after, and the day after the day before, is the day itself
pub before-after : (p : ℕ) → real p ≡ true → p < last_day → day_before (day_after p) ≡ p
before-after p e l =
    let f = after_follows p e l in
    let a = f.above in
    let b = real_first p e in
    same_before (day_before (day_after p)) p (day_after p) (before_follows (day_after p) f.real_next (omega arith)) f

pub after-before : (p : ℕ) → real p ≡ true → first_day < p → day_after (day_before p) ≡ p
after-before p e l =
    let f = before_follows p e l in
    let a = f.above in
    let b = real_last p e in
    same_next (day_before p) (day_after (day_before p)) p (after_follows (day_before p) f.real_here (omega arith)) f

-- the day after the last day is above it
pub after_last : last_day < day_after last_day
unfolding day_after month_days
after_last = omega arith
