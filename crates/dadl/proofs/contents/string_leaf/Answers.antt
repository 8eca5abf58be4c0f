-- `dadl::contents::string_leaf` meets its contract. Assumes nothing.
use Rattle.dadl.proofs.ContentSteps.{string_long, string_unclosed, string_closed}
use Rattle.dadl.proofs.contents.string_leaf.Goals as goal

pub returns-then-text : goal.returns-then-text
returns-then-text c = search string_long

pub returns-in_err-close : goal.returns-in_err-close
returns-in_err-close c = search (string_unclosed, c.in_err-close.was, c.from_residual.ensures.1)

pub returns : goal.returns
returns c = search (string_closed, c.in_ok-close.was)
