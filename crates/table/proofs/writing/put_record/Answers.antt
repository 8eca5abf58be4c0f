-- `table::writing::put_record` meets its contract. Assumes nothing.
use Rattle.table.proofs.WriteSteps.{record_ordered}
use Rattle.table.proofs.writing.put_record.Goals as goal

pub returns : goal.returns
returns c =
    record_ordered _ _ _ _ _ _ _ _ _ _ _ c.ordered-t.ensures c.put_head.ensures c.put32.ensures c.put32-2.ensures c.put32-3.ensures
    c.put32-4.ensures c.put32-5.ensures
