-- No month has more than 31 days. Assumes nothing.
use mathlib.Core.Path.{◌≡◌, refl}
use mathlib.Core.List.{◌∷◌}
use Prim.Native.Nat.{ℕ, zero, suc, ◌≤◌, ◌<◌}
use native.Mathlib.Omega.{arith}
use lib.ListN.{get_or-eq_default}
use borrow.Author.Tests.{ne_eqb}
use Rattle.values.specs.Calendar.{months, month_days}
use Rattle.values.proofs.Common.{by_order}
use Rattle.values.proofs.CalendarLaws.{month_long}

month_none : (y m : ℕ) → 12 < m → 0 ≡ month_days y m
unfolding month_days
month_none y m h = rw (ne_eqb m 2 (omega arith), get_or-eq_default (0 ∷ months) 0 {n = m} (omega arith))

month_zero : (y : ℕ) → month_days y 0 ≡ 0
unfolding month_days
month_zero y = refl

pub month_most : (y m : ℕ) → month_days y m ≤ 31
month_most y zero = let e = month_zero y in omega arith
month_most y (suc i) = by_order (suc i) 12 (λ l. (month_long y (suc i) (omega arith) l).1) (λ l. let e = month_none y (suc i) l in omega arith)
