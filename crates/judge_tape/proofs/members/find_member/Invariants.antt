-- The loops of `judge_tape::members::find_member`. Assumes nothing.
use Rattle.judge_tape.proofs.MemberSteps.{InRows}
use Prim.Native.Nat.{◌-◌}
use Rattle.judge_tape.proofs.members.find_member.Given as goal

abbrev pub invariant-loop-rows : goal.invariant-loop-rows
invariant-loop-rows l = InRows l.s l.tape l.rows l.first l.inside l.name l.n

abbrev pub decreases-loop-rows : goal.decreases-loop-rows
decreases-loop-rows l = l.rows - l.n
