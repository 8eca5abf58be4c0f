-- `table::names::name_in` meets its contract. Assumes nothing.
use Rattle.table.proofs.NameSteps.{name_steps, name-inside}
use borrow.Author.Rules.{rules}
use Rattle.table.proofs.names.name_in.Goals as goal

pub kind_at-requires : goal.kind_at-requires
kind_at-requires c = search (name_steps, rules)

pub name_part-requires : goal.name_part-requires
name_part-requires c =
    let p = name-inside _ _ _ _ _ c.kind_at.ensures c.has_name.ensures c.if-not-has_name.false c.requires c.frame_of-frame.ensures in
    record { opened = p.0; le_n = p.1 }
