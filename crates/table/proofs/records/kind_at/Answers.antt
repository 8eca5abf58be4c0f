-- `table::records::kind_at` meets its contract. Assumes nothing.
use Rattle.table.proofs.FrameLaws.{frame_steps}
use borrow.Author.Rules.{rules}
use Rattle.table.proofs.records.kind_at.Goals as goal

pub returns-then-frame-n : goal.returns-then-frame-n
returns-then-frame-n c = search (frame_steps, rules)

pub returns : goal.returns
returns c = search (frame_steps, rules)
