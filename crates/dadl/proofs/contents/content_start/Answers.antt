-- `dadl::contents::content_start` meets its contract. Assumes nothing.
use Rattle.dadl.proofs.ContentSteps.{content_untyped, content_less}
use Rattle.dadl.proofs.contents.content_start.Goals as goal

pub returns-in_err-typed_opening-in-24 : goal.returns-in_err-typed_opening-in-24
returns-in_err-typed_opening-in-24 c = search (content_untyped, c.in_err-typed_opening-in-24.was, c.from_residual.ensures.1)

pub returns-in-18 : goal.returns-in-18
returns-in-18 c = search content_less
