-- What the code of durations stands on. Assumes nothing.
use mathlib.Core.Path.{◌≡◌, refl}
use mathlib.Core.List.{List, [], ◌∷◌}
use Prim.Native.Nat.{ℕ, ◌-◌, ◌<◌}
use native.Mathlib.Omega.{arith}
use lib.ListN.{length, get_or, take, drop}
use borrow.Author.Tests.{eq-eqb, ne_eqb}
use Rattle.lexis.specs.Text.{byte}
use Rattle.lexis.specs.Durations.{digit_slot, slots_of}
use Rattle.values.specs.Durations.{slots_if, duration_of}
use Rattle.values.proofs.Common.{rest_is}

module _ (w : List ℕ) where
  pub duration_signed : get_or w 0 0 ≡ byte "-" → duration_of w ≡ slots_if (slots_of digit_slot (take (length w - 1) (drop 1 w)))
  unfolding duration_of
  duration_signed e = rw (eq-eqb (get_or w 0 0) (byte "-") e, rest_is w 1)

  pub duration_unsigned : (get_or w 0 0 ≡ byte "-" → ⊥) → duration_of w ≡ slots_if (slots_of digit_slot w)
  unfolding duration_of
  duration_unsigned n = rw (ne_eqb (get_or w 0 0) (byte "-") n)

pub duration_empty : (w : List ℕ) → length w < 1 → duration_of w ≡ slots_if (slots_of digit_slot w)
unfolding duration_of
duration_empty [] l = refl
duration_empty (b ∷ bs) l = absurd (omega arith)

pub ruleset steps = (duration_signed, duration_unsigned, duration_empty)
