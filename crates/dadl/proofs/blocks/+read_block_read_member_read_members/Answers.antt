-- `dadl::blocks::read_block`, `read_members` and `read_member`, which call each other, meet their contracts: the levels left fall. Assumes nothing.
use Rattle.dadl.proofs.BlockSteps.{leaf_member, block_refused, block_member, members_close, members_fault, member_not}
use Rattle.dadl.proofs.blocks.+read_block_read_member_read_members.Goals as goal

pub read_member-returns-in-Leaf : goal.read_member-returns-in-Leaf
read_member-returns-in-Leaf t c = search (leaf_member, c.in_ok-leaf.was, c.in-Leaf.is)

pub read_member-returns-in_err-rows-in-Block : goal.read_member-returns-in_err-rows-in-Block
read_member-returns-in_err-rows-in-Block t c = search (block_refused, c.in_ok-leaf.was, c.in-Block.is, c.in_err-rows-in-Block.was, c.from_residual-in_err-rows-in-Block.ensures.1)

pub read_member-returns-in_ok-rows-in-Block : goal.read_member-returns-in_ok-rows-in-Block
read_member-returns-in_ok-rows-in-Block t c = search (block_member, c.in_ok-leaf.was, c.in-Block.is, c.in_ok-rows-in-Block.was)

pub read_members-returns-in_err-member : goal.read_members-returns-in_err-member
read_members-returns-in_err-member t c = search (member_not, c.in_err-member.was, c.from_residual.ensures.1)

pub read_members-returns-then-t-ne-GREATER : goal.read_members-returns-then-t-ne-GREATER
read_members-returns-then-t-ne-GREATER t c = search members_fault

pub read_members-returns : goal.read_members-returns
read_members-returns t c = search members_close
