-- A word is read as a date exactly where it is one of the rule. Assumes nothing.
use mathlib.Core.Path.{◌≡◌}
use mathlib.Core.Logic.{◌↔◌}
use Rattle.std.specs.Prelude.{Some}
use mathlib.Core.List.{List, ◌∷◌, ◌++◌}
use Prim.Native.Nat.{ℕ, ◌≤◌}
use native.Mathlib.Omega.{arith}
use Rattle.lexis.specs.Text.{byte, bytes}
use Rattle.lexis.specs.Runs.{shaped}
use Rattle.lexis.proofs.Cases.{by_cond}
use Rattle.values.specs.Calendar.{real, packed}
use Rattle.values.specs.Integers.{value_of}
use Rattle.values.specs.Dates.{exactly, digits_at, real_date, date_of}
use Rattle.values.specs.declared.dates.Date.{Date}
use Rattle.values.specs.Days.{IsDay, packed_day}
use Rattle.values.proofs.Common.{Each, none_each, some_each}
use Rattle.values.proofs.DayLaws.{day_real, packed_day_lem}
use Rattle.values.specs.WordRules.{IsDate}
use Rattle.values.specs.WordRules
use Rattle.values.proofs.DigitLaws.{no_more_lem, Row, done, more, fixed_row, by_exactly, two, two_most, four}

-- what is read is a date of the rule
real_by : (w : List ℕ) (parts y m d : ℕ) → m ≤ 99 → d ≤ 99
    → (IsDay y m d → IsDate w (record { parts = parts; day = packed y m d }))
    → Each (IsDate w) (real_date parts (packed y m d))
real_by w parts y m d h k f =
    by_cond (Each (IsDate w)) (real (packed y m d)) (λ e. some_each (IsDate w) _ (f ((day_real y m d h k).0 e))) (λ e. none_each (IsDate w))

date_by : (w : List ℕ) → Each (IsDate w) (date_of w)
unfolding date_of
date_by w =
    by_cond (Each (IsDate w)) (exactly (bytes "dddd") w)
    (by_exactly (λ v. Each (IsDate v) (real_date 1 (packed (digits_at 0 4 v) 1 1))) (bytes "dddd") w
    (λ a ha b hb c hc d hd z l. rw (no_more_lem z (omega arith)) (real_by _ 1 _ 1 1 (omega arith) (omega arith) (WordRules.year (four a b c d ha hb hc hd)))))
    (λ n. by_cond (Each (IsDate w)) (exactly (bytes "dddd-dd") w)
    (by_exactly (λ v. Each (IsDate v) (real_date 2 (packed (digits_at 0 4 v) (digits_at 5 2 v) 1))) (bytes "dddd-dd") w
    (λ a ha b hb c hc d hd e he f hf z l. rw (no_more_lem z (omega arith))
    (real_by _ 2 _ _ 1 (two_most e f he hf) (omega arith) (WordRules.month (four a b c d ha hb hc hd) (two e f he hf)))))
    (λ m. by_cond (Each (IsDate w)) (exactly (bytes "dddd-dd-dd") w)
    (by_exactly (λ v. Each (IsDate v) (real_date 3 (packed (digits_at 0 4 v) (digits_at 5 2 v) (digits_at 8 2 v)))) (bytes "dddd-dd-dd") w
    (λ a ha b hb c hc d hd e he f hf g hg h hh z l. rw (no_more_lem z (omega arith))
    (real_by _ 3 _ _ _ (two_most e f he hf) (two_most g h hg hh) (WordRules.day (four a b c d ha hb hc hd) (two e f he hf) (two g h hg hh)))))
    (λ k. none_each (IsDate w))))

-- a date of the rule is read
year_of_lem : {y : List ℕ} {year : ℕ} → Row 4 0 y year → IsDay year 1 1
    → date_of y ≡ Some (record { parts = 1; day = packed year 1 1 })
unfolding date_of shaped value_of
year_of_lem (more p (more q (more r (more s done)))) i = rw (p, q, r, s, (packed_day_lem _).1 (packed_day i))

month_of_lem : {y m : List ℕ} {year month : ℕ} → Row 4 0 y year → Row 2 0 m month → IsDay year month 1
    → date_of (y ++ (byte "-" ∷ m)) ≡ Some (record { parts = 2; day = packed year month 1 })
unfolding date_of shaped value_of
month_of_lem (more a (more b (more c (more d done)))) (more e (more f done)) i = rw (a, b, c, d, e, f, (packed_day_lem _).1 (packed_day i))

day_of_lem : {y m d : List ℕ} {year month day : ℕ} → Row 4 0 y year → Row 2 0 m month → Row 2 0 d day → IsDay year month day
    → date_of (y ++ (byte "-" ∷ (m ++ (byte "-" ∷ d)))) ≡ Some (record { parts = 3; day = packed year month day })
unfolding date_of shaped value_of
day_of_lem (more a (more b (more c (more d done)))) (more e (more f done)) (more g (more h done)) i = rw (a, b, c, d, e, f, g, h, (packed_day_lem _).1 (packed_day i))

date_of_lem : {w : List ℕ} {d : Date} → IsDate w d → date_of w ≡ Some d
date_of_lem (WordRules.year y i) = year_of_lem (fixed_row y) i
date_of_lem (WordRules.month y m i) = month_of_lem (fixed_row y) (fixed_row m) i
date_of_lem (WordRules.day y m d i) = day_of_lem (fixed_row y) (fixed_row m) (fixed_row d) i

pub date-word : (w : List ℕ) (d : Date) → (date_of w ≡ Some d) ↔ IsDate w d
date-word w d = (date_by w d, date_of_lem)
