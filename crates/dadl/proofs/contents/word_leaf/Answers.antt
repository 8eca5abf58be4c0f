-- `dadl::contents::word_leaf` meets its contract. Assumes nothing.
use Rattle.dadl.proofs.ContentSteps.{word_bad, word_unclosed, word_closed}
use Rattle.dadl.proofs.contents.word_leaf.Goals as goal

pub returns-then-not-good : goal.returns-then-not-good
returns-then-not-good c = search word_bad

pub returns-in_err-close : goal.returns-in_err-close
returns-in_err-close c = search (word_unclosed, c.in_err-close.was, c.from_residual.ensures.1)

pub returns : goal.returns
returns c = search (word_closed, c.in_ok-close.was)
