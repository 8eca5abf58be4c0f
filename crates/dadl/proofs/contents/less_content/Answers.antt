-- `dadl::contents::less_content` meets its contract. Assumes nothing.
use Rattle.dadl.proofs.ContentSteps.{less_block}
use Rattle.dadl.proofs.contents.less_content.Goals as goal

pub returns-in_default : goal.returns-in_default
returns-in_default c = search (less_block, c.in_default)
