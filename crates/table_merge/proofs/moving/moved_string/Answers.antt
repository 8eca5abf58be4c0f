-- `table_merge::moving::moved_string` meets its contract. Assumes nothing.
use Rattle.table_merge.proofs.moving.moved_string.Goals as goal

pub moved_place-text-requires : goal.moved_place-text-requires
moved_place-text-requires c = c.requires.fits 0

pub moved_link-next-requires : goal.moved_link-next-requires
moved_link-next-requires c = c.requires.fits 4
