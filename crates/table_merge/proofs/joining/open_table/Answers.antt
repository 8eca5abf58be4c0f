-- `table_merge::joining::open_table` meets its contract. Assumes nothing.
use Rattle.table.proofs.NameSteps.{sound_open}
use Rattle.table_merge.proofs.joining.open_table.Goals as goal

pub returns : goal.returns
returns c = search sound_open
