-- `table_merge::moving::moved_attribute` meets its contract. Assumes nothing.
use Rattle.table_merge.proofs.moving.moved_attribute.Goals as goal

pub moved_place-name-requires : goal.moved_place-name-requires
moved_place-name-requires c = c.requires.fits 0

pub moved_link-value-requires : goal.moved_link-value-requires
moved_link-value-requires c = c.requires.fits 2

pub moved_link-next-requires : goal.moved_link-next-requires
moved_link-next-requires c = c.requires.fits 3
