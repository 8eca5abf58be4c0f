-- Runs of stores in a buffer: runs in two parts, one below another, and which numbers they change. Assumes nothing.
use mathlib.Core.Path.{◌≡◌, refl, sym, ap, ◌∙◌}
use mathlib.Core.List.{List, [], ◌∷◌, ◌++◌}
use Prim.Native.Nat.{ℕ, zero, suc, ◌+◌, ◌≤◌, ◌<◌}
use native.Mathlib.Omega.{arith}
use native.Mathlib.Nat.{add-zero}
use lib.ListN.{length, set, get_or, length-set}
use lib.Seq.{sets, set_comm, get_or-set_same, get_or-set_other}

-- a store below a run goes after it or before it
pub sets-set : (vs l : List ℕ) (i j v : ℕ) → j < i → sets (set l j v) i vs ≡ set (sets l i vs) j v
sets-set [] l i j v h = refl
sets-set (a ∷ vs) l i j v h =
    ap (λ (m : List ℕ). sets m (suc i) vs) (set_comm l j i v a (λ e. omega arith)) ∙ sets-set vs (set l i a) (suc i) j v (omega arith)

-- two runs, the one below the other
pub sets-sets : (xs ys l : List ℕ) (i j : ℕ) → i + length xs ≤ j → sets (sets l i xs) j ys ≡ sets (sets l j ys) i xs
sets-sets [] ys l i j h = refl
sets-sets (a ∷ xs) ys l i j h =
    sets-sets xs ys (set l i a) (suc i) j (omega arith) ∙ ap (λ (m : List ℕ). sets m (suc i) xs) (sets-set ys l j i a (omega arith))

-- one run behind another
pub sets-append : (xs ys l : List ℕ) (i : ℕ) → sets l i (xs ++ ys) ≡ sets (sets l i xs) (i + length xs) ys
sets-append [] ys l i = rw add-zero
sets-append (a ∷ xs) ys l i = sets-append xs ys (set l i a) (suc i) ∙ ap (λ (k : ℕ). sets (sets (set l i a) (suc i) xs) k ys) (omega arith)

pub sets_behind : (xs ys l : List ℕ) (i j : ℕ) → i + length xs ≡ j → sets (sets l i xs) j ys ≡ sets l i (xs ++ ys)
sets_behind xs ys l i j e = rw (← e) (sym (sets-append xs ys l i))

-- what stands below a run stays
pub below_sets : (vs l : List ℕ) (i j : ℕ) → j < i → get_or (sets l i vs) j 0 ≡ get_or l j 0
below_sets [] l i j h = refl
below_sets (a ∷ vs) l i j h = below_sets vs (set l i a) (suc i) j (omega arith) ∙ get_or-set_other l i j a 0 (λ e. omega arith)

-- a number of a run stands at its place
pub in_sets : (vs l : List ℕ) (i k : ℕ) → i + length vs ≤ length l → k < length vs
    → get_or (sets l i vs) (i + k) 0 ≡ get_or vs k 0
in_sets [] l i k h b = absurd (omega arith)
in_sets (a ∷ vs) l i zero h b =
    ap (λ (j : ℕ). get_or (sets (set l i a) (suc i) vs) j 0) (add-zero i) ∙ below_sets vs (set l i a) (suc i) i (omega arith) ∙ get_or-set_same l i a 0 (omega arith)
in_sets (a ∷ vs) l i (suc k) h b =
    let e : i + suc k ≡ suc i + k = omega arith in
    rw e (in_sets vs (set l i a) (suc i) k (rw length-set (omega arith)) (omega arith))
