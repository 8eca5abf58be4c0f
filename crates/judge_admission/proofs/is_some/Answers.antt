-- `judge_admission::is_some` meets its contract. Assumes nothing.
use Rattle.judge_admission.proofs.ItemSteps.{texts_found}
use Rattle.judge_admission.proofs.is_some.Goals as goal

pub returns-then-same_bytes : goal.returns-then-same_bytes
returns-then-same_bytes c = search texts_found
