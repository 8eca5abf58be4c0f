-- Two names compared byte by byte, as the searches for a repeated name compare them. Assumes nothing.
use mathlib.Core.Path.{◌≡◌}
use mathlib.Core.Bool.{Bool, true, false}
use mathlib.Core.List.{List}
use Prim.Native.Nat.{ℕ, ◌+◌, ◌<◌}
use native.Mathlib.Omega.{arith}
use lib.ListN.{length}
use Rattle.lexis.specs.Runs.{byte_at, same}
use Rattle.lexis.proofs.RunSteps.{InBoth, both_first, both_end, both_out, both_on}

-- at byte i of two names of one length
pub record InBytes (a b : List ℕ) (i : ℕ) (again : Bool) : Type 0 where
  pub not_yet : again ≡ false
  pub both : InBoth a b i

pub bytes-start : (a b : List ℕ) (again : Bool) → again ≡ false → length a ≡ length b → InBytes a b 0 again
bytes-start a b again k e = record { not_yet = k; both = both_first a b e }

module _ (a b : List ℕ) (i : ℕ) (again : Bool) (inv : InBytes a b i again) where
  pub bytes_end : i ≡ length a → true ≡ same a b
  bytes_end e = both_end a b i inv.both (omega arith)

  module _ (k : i ≡ length a → ⊥) where
    pub bytes_in : i < length a
    bytes_in = let h = inv.both.high in omega arith

    pub bytes_there : i < length b
    bytes_there = let h = bytes_in in let l = inv.both.long in omega arith

    pub bytes_differ : (byte_at a i ≡ byte_at b i → ⊥) → false ≡ same a b
    bytes_differ d = both_out a b i inv.both bytes_in d

    pub bytes_on : byte_at a i ≡ byte_at b i → InBytes a b (i + 1) again
    bytes_on e = record { not_yet = inv.not_yet; both = both_on a b i inv.both bytes_in e }
