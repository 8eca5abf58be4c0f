-- `judge_admission::in_some` meets its contract. Assumes nothing.
use Rattle.judge_admission.proofs.ItemSteps.{ranges_found}
use Rattle.judge_admission.proofs.in_some.Goals as goal

pub returns-then-in_range : goal.returns-then-in_range
returns-then-in_range g c = search ranges_found
