-- What the code of patterns stands on. Assumes nothing.
use mathlib.Core.Path.{◌≡◌, refl, sym, ◌∙◌}
use mathlib.Core.Bool.{Bool, true, false, ◌&&◌, and-false, beq}
use mathlib.Core.List.{List, [], ◌∷◌}
use Prim.Native.Nat.{ℕ, zero, suc, ◌-◌, ◌/◌, ◌≤◌, ◌<◌}
use native.Mathlib.Omega.{arith}
use lib.Dec.{eqb}
use lib.ListN.{length, get_or, get_or-eq_default}
use borrow.Author.Tests.{lt-leb, ne_eqb}
use Rattle.lexis.specs.Bytes.{within}
use Rattle.values.specs.Patterns.{Part, fits, date_patterns, time_patterns, fits_date, fits_time, slot_fits, slots_fit, fits_duration}
use Rattle.values.proofs.Common.{all_below, below, by_order}

-- more parts than the pattern has do not fit
too_many : (ps : List Part) (n : ℕ) → length ps < n → fits ps n ≡ false
unfolding fits
too_many [] n h = ne_eqb n 0 (omega arith)
too_many (p ∷ ps) n h = let m = too_many ps (n - 1) (omega arith) in rw (m, and-false)

same_truth : (a b : Bool) → beq a b ≡ true → a ≡ b
same_truth true true h = refl
same_truth true false h = sym h
same_truth false true h = h
same_truth false false h = refl

-- a test that agrees with a pattern up to three parts, and refuses more, is the pattern's
agrees : (test : ℕ → Bool) (ps : List Part) → all_below 4 (λ i. beq (test i) (fits ps i)) ≡ true
    → ((n : ℕ) → 3 < n → test n ≡ false) → length ps ≤ 3
    → (n : ℕ) → test n ≡ fits ps n
agrees test ps e more h n =
    by_order n 3
    (λ l. same_truth (test n) (fits ps n) (below 4 (λ i. beq (test i) (fits ps i)) e n (omega arith)))
    (λ l. more n l ∙ sym (too_many ps n (omega arith)))

-- one number of parts, and a range of them
module _ (ps : List Part) (h : length ps ≤ 3) where
  single : (k : ℕ) → k ≤ 3 → all_below 4 (λ i. beq (eqb i k) (fits ps i)) ≡ true → (n : ℕ) → eqb n k ≡ fits ps n
  single k l e = agrees (λ n. eqb n k) ps e (λ n g. ne_eqb n k (omega arith)) h

  range : (low high : ℕ) → high ≤ 3 → all_below 4 (λ i. beq (within low high i) (fits ps i)) ≡ true → (n : ℕ)
      → within low high n ≡ fits ps n
  range low high l e = agrees (within low high) ps e (λ n g. let f = lt-leb n high (omega arith) in rw (f, and-false)) h

module _ (flag parts : ℕ) where
  -- yyyy-mm-dd, yyyy-mm-??, yyyy-??-??, yyyy-mm-XX, yyyy-??-XX
  pub date_first : flag ≡ 1 → eqb parts 3 ≡ fits_date flag parts
  unfolding fits fits_date
  date_first q = rw q (single (get_or date_patterns 0 []) (omega arith) 3 (omega arith) refl parts)

  pub date_second : (r : Bool) → r ≡ within 2 3 parts → flag ≡ 2 → r ≡ fits_date flag parts
  unfolding fits fits_date
  date_second r e q = e ∙ rw q (range (get_or date_patterns 1 []) (omega arith) 2 3 (omega arith) refl parts)

  pub date_third : (r : Bool) → r ≡ within 1 3 parts → flag ≡ 3 → r ≡ fits_date flag parts
  unfolding fits fits_date
  date_third r e q = e ∙ rw q (range (get_or date_patterns 2 []) (omega arith) 1 3 (omega arith) refl parts)

  pub date_fourth : flag ≡ 4 → eqb parts 2 ≡ fits_date flag parts
  unfolding fits fits_date
  date_fourth q = rw q (single (get_or date_patterns 3 []) (omega arith) 2 (omega arith) refl parts)

  pub date_fifth : (r : Bool) → r ≡ within 1 2 parts → flag ≡ 5 → r ≡ fits_date flag parts
  unfolding fits fits_date
  date_fifth r e q = e ∙ rw q (range (get_or date_patterns 4 []) (omega arith) 1 2 (omega arith) refl parts)

  -- Thh:mm:ss, Thh:mm:XX, Thh:??:XX, Thh:??:??
  pub time_first : flag ≡ 1 → eqb parts 3 ≡ fits_time flag parts
  unfolding fits fits_time
  time_first q = rw q (single (get_or time_patterns 0 []) (omega arith) 3 (omega arith) refl parts)

  pub time_second : flag ≡ 2 → eqb parts 2 ≡ fits_time flag parts
  unfolding fits fits_time
  time_second q = rw q (single (get_or time_patterns 1 []) (omega arith) 2 (omega arith) refl parts)

  pub time_third : (r : Bool) → r ≡ within 1 2 parts → flag ≡ 3 → r ≡ fits_time flag parts
  unfolding fits fits_time
  time_third r e q = e ∙ rw q (range (get_or time_patterns 2 []) (omega arith) 1 2 (omega arith) refl parts)

  pub time_fourth : (r : Bool) → r ≡ within 1 3 parts → flag ≡ 4 → r ≡ fits_time flag parts
  unfolding fits fits_time
  time_fourth r e q = e ∙ rw q (range (get_or time_patterns 3 []) (omega arith) 1 3 (omega arith) refl parts)

  -- no pattern has the flag
  pub date_zero : flag ≡ 0 → eqb parts 0 ≡ fits_date flag parts
  unfolding fits fits_date
  date_zero q = rw q

  pub time_zero : flag ≡ 0 → eqb parts 0 ≡ fits_time flag parts
  unfolding fits fits_time
  time_zero q = rw q

  module _ (a : flag ≡ 0 → ⊥) (b : flag ≡ 1 → ⊥) (c : flag ≡ 2 → ⊥) (d : flag ≡ 3 → ⊥) (e : flag ≡ 4 → ⊥) where
    pub date-other : (flag ≡ 5 → ⊥) → eqb parts 0 ≡ fits_date flag parts
    unfolding fits fits_date
    date-other f = let l : 6 ≤ flag = omega arith in rw (get_or-eq_default ([] ∷ date_patterns) [] {n = flag} l)

    pub time_other : eqb parts 0 ≡ fits_time flag parts
    unfolding fits fits_time
    time_other = let l : 5 ≤ flag = omega arith in rw (get_or-eq_default ([] ∷ time_patterns) [] {n = flag} l)

-- the slots that are left, all of them at first
pub slots_all : (pattern filled : ℕ) → slots_fit 7 pattern filled ≡ fits_duration pattern filled
unfolding fits_duration
slots_all pattern filled = refl

pub slots_end : (left p f : ℕ) → left ≤ 0 → slots_fit left p f ≡ true
unfolding slots_fit
slots_end zero p f l = refl
slots_end (suc left) p f l = absurd (omega arith)

pub slots_on : (left p f : ℕ) → 0 < left → slots_fit left p f ≡ slot_fits p f && slots_fit (left - 1) (p / 2) (f / 2)
unfolding slots_fit
slots_on zero p f l = absurd (omega arith)
slots_on (suc left) p f l = let n : suc left - 1 ≡ left = omega arith in rw n

pub ruleset date_steps = (date_zero, date_first, date_second, date_third, date_fourth, date_fifth, date-other)

pub ruleset time_steps = (time_zero, time_first, time_second, time_third, time_fourth, time_other)

pub ruleset slot_steps = (slots_all, slots_end, slots_on)
