-- `lexis::spellings::mark` meets its contract. Assumes nothing.
use Rattle.lexis.proofs.SpellingSteps.{mark_greater}
use Rattle.lexis.proofs.spellings.mark.Goals as goal

pub returns-in-62 : goal.returns-in-62
returns-in-62 c = search mark_greater
