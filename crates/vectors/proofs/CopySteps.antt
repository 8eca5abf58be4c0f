-- The front of one buffer copied to another is what was to be copied. Assumes nothing.
use mathlib.Core.Path.{◌≡◌, refl, sym, ap, ◌∙◌}
use mathlib.Core.Bool.{Bool, true, false}
use mathlib.Core.List.{List, [], ◌∷◌, ◌++◌}
use Prim.Native.Nat.{ℕ, ◌+◌, ◌≤◌, ◌<◌, min}
use native.Mathlib.Omega.{arith}
use lib.Dec.{leb}
use lib.ListN.{length, take, drop, length-take, length-append, length-drop}
use lib.Seq.{sets, sets-eq, take_all}
use borrow.Author.Tests.{leb-true, leb-false}
use Rattle.vectors.specs.Reading.{Copied}

-- as many bytes as both have are those of the first as far as the second goes
same_front : (from : List ℕ) (m : ℕ) → take (min (length from) m) from ≡ take m from
same_front from m = by (leb (length from) m) refl
  where
    by : (b : Bool) → leb (length from) m ≡ b → take (min (length from) m) from ≡ take m from
    by true h =
        let k = leb-true (length from) m h in
        let e : min (length from) m ≡ length from = omega arith in
        rw e (take_all (length from) from (omega arith) ∙ sym (take_all m from k))
    by false h =
        let k = leb-false (length from) m h in
        let e : min (length from) m ≡ m = omega arith in
        rw e

pub front_copied : (from before : List ℕ) (n : ℕ) → n ≡ min (length from) (length before) → (front : List ℕ)
    → front ≡ take n from → Copied from before (front ++ drop n before)
front_copied from before n e front f =
    let k : length (take n from) ≡ n = length-take n from ∙ omega arith in
    let same : take n from ≡ take (length before) from = ap (λ i. take i from) e ∙ same_front from (length before) in
    let z : 0 + n ≡ n = omega arith in
    let whole = sets-eq (take n from) before 0 (omega (arith, k)) in
    record {
      is = rw (f, ← same) (sym (rw (k, z) at whole));
      long = rw f (length-append (take n from) (drop n before) ∙ omega (arith, k, length-drop n before));
    }
