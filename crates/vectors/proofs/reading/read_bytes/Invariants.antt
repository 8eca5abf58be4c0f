-- The loop of `vectors::reading::read_bytes`. Assumes nothing.
use mathlib.Core.Path.{◌≡◌}
use Prim.Native.Nat.{◌-◌, ◌≤◌}
use lib.ListN.{length}
use Rattle.vectors.proofs.reading.read_bytes.Given as goal

abbrev pub invariant-loop-next : goal.invariant-loop-next
invariant-loop-next l = (l.filled ≤ length l.buf) × (length l.buf ≡ length l.initial.buf)

abbrev pub decreases-loop-next : goal.decreases-loop-next
decreases-loop-next l = length l.initial.buf - l.filled
