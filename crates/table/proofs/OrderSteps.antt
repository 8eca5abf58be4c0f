-- Steps of the functions that read and write numbers: bytes one by one, and in order. Assumes nothing.
use mathlib.Core.Path.{◌≡◌, ap}
use mathlib.Core.Bool.{Bool, true, false}
use mathlib.Core.List.{List, [], ◌∷◌}
use Prim.Native.Nat.{ℕ, suc, ◌+◌, ◌/◌, ◌%◌, ◌≤◌, ◌<◌}
use native.Mathlib.Numerals.{add-one, add-two, add-three}
use native.Mathlib.Omega.{arith}
use lib.ListN.{length, get_or, take, drop}
use lib.Seq.{drop-cons}
use Rattle.table.specs.Order.{get, put}
use Rattle.table.specs.Clauses.Answers.{ordered}
use Rattle.table.proofs.OrderLaws.{lowest_value}

-- a number's lowest byte is one
mod_lt : (n : ℕ) → n % 256 < 256
mod_lt n = omega arith

-- the bytes at a place, one by one
pub two_bytes : (s : List ℕ) (at : ℕ) → at + 2 ≤ length s → take 2 (drop at s) ≡ get_or s at 0 ∷ get_or s (at + 1) 0 ∷ []
two_bytes s at h = rw (add-one, drop-cons s at 0 (omega arith), drop-cons s (suc at) 0 (omega arith))

pub four_bytes : (s : List ℕ) (at : ℕ) → at + 4 ≤ length s
    → take 4 (drop at s) ≡ get_or s at 0 ∷ get_or s (at + 1) 0 ∷ get_or s (at + 2) 0 ∷ get_or s (at + 3) 0 ∷ []
four_bytes s at h =
    rw (add-one, add-two, add-three, drop-cons s at 0 (omega arith), drop-cons s (suc at) 0 (omega arith), drop-cons s (suc (suc at)) 0 (omega arith), drop-cons s (suc (suc (suc at))) 0 (omega arith))

-- four bytes read lowest first, and then in an order, are read in that order
pub number-ordered : (s : List ℕ) (at : ℕ) (little : Bool) → at + 4 ≤ length s → ((i : ℕ) → get_or s i 0 < 256)
    → ordered little (get true (take 4 (drop at s))) ≡ get little (take 4 (drop at s))
number-ordered s at little h g =
    ap (get little) (rw (four_bytes s at h) (lowest_value (get_or s at 0 ∷ get_or s (at + 1) 0 ∷ get_or s (at + 2) 0 ∷ get_or s (at + 3) 0 ∷ []) (g at, (g (at + 1), (g (at + 2), (g (at + 3), tt))))))

-- a number in an order, written lowest first, is the number written in that order
pub put-ordered : (little : Bool) (n : ℕ) → put true 4 (ordered little n) ≡ put little 4 n
put-ordered true n = lowest_value (put true 4 n) (mod_lt n, (mod_lt (n / 256), (mod_lt (n / 256 / 256), (mod_lt (n / 256 / 256 / 256), tt))))
put-ordered false n = lowest_value (put false 4 n) (mod_lt (n / 256 / 256 / 256), (mod_lt (n / 256 / 256), (mod_lt (n / 256), (mod_lt n, tt))))
