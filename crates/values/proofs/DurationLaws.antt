-- A duration fits a pattern exactly where each slot that it fills is in the pattern. Assumes nothing.
use mathlib.Core.Path.{◌≡◌, refl, subst}
use mathlib.Core.Logic.{◌↔◌}
use mathlib.Core.Bool.{true}
use Prim.Native.Nat.{ℕ, zero, suc, ◌+◌, ◌*◌, ◌/◌, ◌%◌, ◌<◌}
use native.Mathlib.Omega.{arith}
use lib.Dec.{eqb}
use borrow.Author.Tests.{eqb-true, eqb-false, eq-eqb}
use Rattle.lexis.proofs.Cases.{and_left, and_right}
use Rattle.lexis.proofs.TestLaws.{true_or_false, or_cases, or_left, or_right, and_both}
use Rattle.values.specs.Patterns.{slot_fits, slots_fit, fits_duration}
use Rattle.values.specs.WordRules.{HasBit, lowest, of_even, of_odd, SlotsWithin}

-- the lowest bit is the remainder
odd_of : {n b : ℕ} → HasBit n b → b ≡ 0 → n % 2 ≡ 1
odd_of (lowest half) e = omega arith
odd_of (of_even h) e = absurd (omega arith)
odd_of (of_odd h) e = absurd (omega arith)

odd_by : (n : ℕ) → n % 2 ≡ 1 → HasBit n 0
odd_by n e = let q : n / 2 * 2 + 1 ≡ n = omega arith in subst (λ (m : ℕ). HasBit m 0) q (lowest (n / 2))

-- each other bit is one of the half
half_of : {n b : ℕ} → HasBit n b → (bit : ℕ) → b ≡ suc bit → HasBit (n / 2) bit
half_of (lowest half) bit e = absurd (omega arith)
half_of (of_even {half = half} {bit = b} h) bit e =
    let q : half * 2 / 2 ≡ half = omega arith in
    let r : b ≡ bit = omega arith in
    rw (q, ← r) h
half_of (of_odd {half = half} {bit = b} h) bit e =
    let q : (half * 2 + 1) / 2 ≡ half = omega arith in
    let r : b ≡ bit = omega arith in
    rw (q, ← r) h

half_by : (n bit : ℕ) → HasBit (n / 2) bit → HasBit n (suc bit)
half_by n bit h =
    true_or_false (eqb (n % 2) 0)
    (λ e.
    let z = eqb-true (n % 2) 0 e in
    let q : n / 2 * 2 ≡ n = omega arith in
    subst (λ (m : ℕ). HasBit m (suc bit)) q (of_even h))
    (λ e.
    let z = eqb-false (n % 2) 0 e in
    let q : n / 2 * 2 + 1 ≡ n = omega arith in
    subst (λ (m : ℕ). HasBit m (suc bit)) q (of_odd h))

-- one slot
slot_by_lem : (pattern filled : ℕ) → slot_fits pattern filled ≡ true → HasBit filled 0 → HasBit pattern 0
slot_by_lem pattern filled t h =
    let o = odd_of h refl in
    or_cases (eqb (filled % 2) 0) (eqb (pattern % 2) 1) t
    (λ e. let z = eqb-true (filled % 2) 0 e in absurd (omega arith))
    (λ e. odd_by pattern (eqb-true (pattern % 2) 1 e))

slot_of : (pattern filled : ℕ) → (HasBit filled 0 → HasBit pattern 0) → slot_fits pattern filled ≡ true
slot_of pattern filled f =
    true_or_false (eqb (filled % 2) 0)
    (λ e. or_left (eqb (filled % 2) 0) (eqb (pattern % 2) 1) e)
    (λ e.
    let z = eqb-false (filled % 2) 0 e in
    let o : filled % 2 ≡ 1 = omega arith in
    or_right (eqb (filled % 2) 0) (eqb (pattern % 2) 1) (eq-eqb (pattern % 2) 1 (odd_of (f (odd_by filled o)) refl)))

-- so many slots
abbrev Within : (slots pattern filled : ℕ) → Type 0
Within slots pattern filled = (bit : ℕ) → bit < slots → HasBit filled bit → HasBit pattern bit

slots_by : (slots pattern filled : ℕ) → slots_fit slots pattern filled ≡ true → Within slots pattern filled
unfolding slots_fit
slots_by zero pattern filled t bit l h = absurd (omega arith)
slots_by (suc slots) pattern filled t zero l h =
    slot_by_lem pattern filled (and_left (slot_fits pattern filled) (slots_fit slots (pattern / 2) (filled / 2)) t) h
slots_by (suc slots) pattern filled t (suc bit) l h =
    let u = and_right (slot_fits pattern filled) (slots_fit slots (pattern / 2) (filled / 2)) t in
    half_by pattern bit (slots_by slots (pattern / 2) (filled / 2) u bit (omega arith) (half_of h bit refl))

slots_of_lem : (slots pattern filled : ℕ) → Within slots pattern filled → slots_fit slots pattern filled ≡ true
unfolding slots_fit
slots_of_lem zero pattern filled f = refl
slots_of_lem (suc slots) pattern filled f =
    let g : Within slots (pattern / 2) (filled / 2) =
    λ bit l h. half_of (f (suc bit) (omega arith) (half_by filled bit h)) bit refl in
    and_both (slot_fits pattern filled) (slots_fit slots (pattern / 2) (filled / 2))
    (slot_of pattern filled (f 0 (omega arith)))
    (slots_of_lem slots (pattern / 2) (filled / 2) g)

pub fits_is : (pattern filled : ℕ) → (fits_duration pattern filled ≡ true) ↔ SlotsWithin pattern filled
unfolding fits_duration
fits_is pattern filled =
    (λ t. record { within = slots_by 7 pattern filled t }, λ s. slots_of_lem 7 pattern filled s.within)
