-- The loops of `dadl::names::repeated`. Assumes nothing.
use Prim.Native.Nat.{◌-◌}
use lib.ListN.{length}
use Rattle.lexis.proofs.Comparing.{InBytes}
use Rattle.dadl.proofs.NameSteps.{InNames}
use Rattle.dadl.proofs.names.repeated.Given as goal

abbrev pub invariant-loop-i : goal.invariant-loop-i
invariant-loop-i l = InBytes l.name l.other l.i l.again

abbrev pub decreases-loop-i : goal.decreases-loop-i
decreases-loop-i l = length l.name - l.i

abbrev pub invariant-names : goal.invariant-names
invariant-names l = InNames l.s l.tape l.first l.end l.name l.n l.again

abbrev pub decreases-names : goal.decreases-names
decreases-names l = l.end - l.n
