-- `cadl_items::spans::repeated` meets its contract. Assumes nothing.
use Rattle.cadl_items.proofs.SpanSteps.{names_end, bytes_found}
use Rattle.cadl_items.proofs.spans.repeated.Goals as goal

pub returns-after-names : goal.returns-after-names
returns-after-names c = search names_end

pub returns-then-i-name : goal.returns-then-i-name
returns-then-i-name c = search bytes_found
