-- The loops of `cadl_items::spans::repeated`. Assumes nothing.
use Prim.Native.Nat.{◌-◌}
use lib.ListN.{length}
use Rattle.lexis.proofs.Comparing.{InBytes}
use Rattle.cadl_items.proofs.SpanSteps.{InNames}
use Rattle.cadl_items.proofs.spans.repeated.Given as goal

abbrev pub invariant-loop-i : goal.invariant-loop-i
invariant-loop-i l = InBytes l.name l.other l.i l.again

abbrev pub decreases-loop-i : goal.decreases-loop-i
decreases-loop-i l = length l.name - l.i

abbrev pub invariant-names : goal.invariant-names
invariant-names l = InNames l.s l.spans l.first l.end l.name l.n l.again

abbrev pub decreases-names : goal.decreases-names
decreases-names l = l.n
