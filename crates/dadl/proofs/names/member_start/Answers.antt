-- `dadl::names::member_start` meets its contract. Assumes nothing.
use Rattle.dadl.proofs.NameSteps.{member_bad, member_content}
use Rattle.dadl.proofs.names.member_start.Goals as goal

pub returns-in_err-next : goal.returns-in_err-next
returns-in_err-next c = search (member_bad, c.in_err-next.was, c.from_residual.ensures.1)

pub returns : goal.returns
returns c = search (member_content, c.in_ok-next.was)
