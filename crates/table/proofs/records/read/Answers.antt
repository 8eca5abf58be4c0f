-- `table::records::read` meets its contract. Assumes nothing.
use Rattle.table.proofs.RecordSteps.{read_ordered}
use native.Mathlib.Omega.{arith}
use Rattle.table.proofs.records.read.Goals as goal

pub returns : goal.returns
returns c =
    read_ordered _ _ _ _ _ _ _ _ _ c.is_little-little.ensures c.get32.ensures c.get32-2.ensures c.get32-3.ensures c.get32-4.ensures
    c.get32-5.ensures c.ordered.ensures c.requires (λ i. omega (arith, c.type_inv.s i))
