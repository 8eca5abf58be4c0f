-- `table_merge::moving::moved_object` meets its contract. Assumes nothing.
use Rattle.table_merge.proofs.moving.moved_object.Goals as goal

pub moved_place-name-requires : goal.moved_place-name-requires
moved_place-name-requires c = c.requires.fits 0

pub moved_place-code-requires : goal.moved_place-code-requires
moved_place-code-requires c = c.requires.fits 2

pub moved_link-first-requires : goal.moved_link-first-requires
moved_link-first-requires c = c.requires.fits 4
