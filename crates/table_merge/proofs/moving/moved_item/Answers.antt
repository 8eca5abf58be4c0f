-- `table_merge::moving::moved_item` meets its contract. Assumes nothing.
use Rattle.table_merge.proofs.moving.moved_item.Goals as goal

pub moved_link-next-requires : goal.moved_link-next-requires
moved_link-next-requires c = c.requires.fits 4
