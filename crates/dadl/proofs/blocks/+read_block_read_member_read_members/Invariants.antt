-- The measures of the functions that call each other, and the loop over members. Assumes nothing.
use Prim.Native.Nat.{◌+◌, ◌*◌, ◌-◌}
use lib.ListN.{length}
use Rattle.refusals.specs.Limits.{level_limit}
use Rattle.dadl.proofs.BlockSteps.{InMembers}
use Rattle.dadl.proofs.blocks.+read_block_read_member_read_members.Given as goal

abbrev pub decreases-read_block : goal.decreases-read_block
decreases-read_block l = 3 * l.levels

abbrev pub decreases-read_member : goal.decreases-read_member
decreases-read_member l = 3 * l.levels + 1

abbrev pub decreases-read_members : goal.decreases-read_members
decreases-read_members l = 3 * l.levels + 2

abbrev pub invariant-read_members-loop-t : goal.invariant-read_members-loop-t
invariant-read_members-loop-t l = InMembers l.s l.levels l.from l.n l.initial.tape l.end l.t l.tape

abbrev pub decreases-read_members-loop-t : goal.decreases-read_members-loop-t
decreases-read_members-loop-t l = length l.s + level_limit - l.end
