-- The steps of a digest. Assumes nothing.
use mathlib.Core.Path.{◌≡◌, refl}
use mathlib.Core.List.{List}
use Prim.Native.Nat.{ℕ, ◌+◌, ◌*◌, ◌%◌, ◌≤◌, ◌<◌}
use native.Mathlib.Omega.{arith}
use lib.ListN.{length, get_or, drop, drop_of_length-le}
use Rattle.lexis.proofs.Places.{drop_in}
use Rattle.vectors.specs.Digests.{digest_from}

-- the bytes before i are summed
pub record InDigest (bytes : List ℕ) (sum i : ℕ) : Type 0 where
  pub high : i ≤ length bytes
  pub small : sum < 4_294_967_291
  pub is : digest_from sum (drop i bytes) ≡ digest_from 0 bytes

pub digest_first : (bytes : List ℕ) → InDigest bytes 0 0
digest_first bytes = record { high = omega arith; small = omega arith; is = refl }

module _ (bytes : List ℕ) (sum i : ℕ) (inv : InDigest bytes sum i) where
  pub digest_on : (b : ℕ) → i < length bytes → b ≡ get_or bytes i 0
      → InDigest bytes ((sum * 257 + b + 1) % 4_294_967_291) (i + 1)
  unfolding digest_from
  digest_on b h e = record { high = omega arith; small = omega arith; is = rw (e) (rw (drop_in bytes i h) at inv.is) }

  pub digest_end : length bytes ≤ i → sum ≡ digest_from 0 bytes
  unfolding digest_from
  digest_end h = rw (drop_of_length-le bytes h) at inv.is
