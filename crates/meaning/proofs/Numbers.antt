-- Numbers one after the other. Assumes nothing.
use mathlib.Core.Path.{◌≡◌, ap}
use mathlib.Core.List.{List, ◌∷◌, ◌++◌}
use Prim.Native.Nat.{ℕ, zero, suc, ◌+◌}
use native.Mathlib.Omega.{arith}
use Rattle.meaning.specs.Counting.{up_from}

pub up_append : (a b n : ℕ) → up_from n (a + b) ≡ up_from n a ++ up_from (n + a) b
up_append zero b n =
    let e : 0 + b ≡ b = omega arith in
    let f : n + 0 ≡ n = omega arith in
    rw (e, f)
up_append (suc a) b n =
    let e : suc a + b ≡ suc (a + b) = omega arith in
    let f : n + suc a ≡ n + 1 + a = omega arith in
    let h = up_append a b (n + 1) in
    rw (e, f) (ap (λ (l : List ℕ). n ∷ l) h)
