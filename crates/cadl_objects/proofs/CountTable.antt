-- Objects from a record's number on, at the limit of a table's records. The expectations are the second implementation's.
-- This file is written by `example_tables write` of second/. Assumes nothing.
use mathlib.Core.Path.{◌≡◌, refl}
use mathlib.Core.List.{List, [], ◌∷◌}
use Rattle.lexis.specs.Text.{bytes}
use Rattle.lexis.proofs.Tables.{wrong}
use Rattle.meaning.specs.Constraints.{no_more, any, nested, leaf, single, ranges, booleans, integers, duration_pattern}
use Rattle.meaning.proofs.Trees.{range, object_with, attribute_with, object_list}
use Rattle.cadl_objects.proofs.Computes.{constraint_computes}
use Rattle.cadl_objects.proofs.Examples.{Case, accepts_from, refuses_from, right}

pub cases : List Case
cases =
    -- record 2,048
    accepts_from (bytes "B matches {*}") 2047 (object_with 2047 (bytes "B") [] no_more)
    ∷ refuses_from (bytes "B matches {*}") 2048 8 0
    ∷ refuses_from (bytes "Abcdefghijklmnopqrstuvwxyz_0123456789_ABCDEFGHIJKLMNOPQRSTUVWXYZ matches {*}") 2048 4 0
    ∷ accepts_from (bytes "B matches {b matches {*}}") 2046 (object_with 2046 (bytes "B") [] (attribute_with 2047 2 (bytes "b") any no_more))
    ∷ refuses_from (bytes "B matches {b matches {*}}") 2047 8 11
    ∷ refuses_from (bytes "B matches {abcdefghijklmnopqrstuvwxyz_0123456789_ABCDEFGHIJKLMNOPQRSTUVWXYZ matches {*}}") 2047 4 11
    ∷ refuses_from (bytes "B matches {b matches {*} b matches {*}}") 2046 8 25
    ∷ accepts_from (bytes "B matches {b matches {*} c matches {*}}") 2045 (object_with 2045 (bytes "B") [] (attribute_with 2046 2 (bytes "b") any (attribute_with 2047 2 (bytes "c") any no_more)))
    ∷ refuses_from (bytes "B matches {b matches {*} c matches {*}}") 2046 8 25
    ∷ accepts_from (bytes "B matches {b matches {C matches {*}}}") 2045 (object_with 2045 (bytes "B") [] (attribute_with 2046 2 (bytes "b") (nested (object_with 2047 (bytes "C") [] no_more)) no_more))
    ∷ refuses_from (bytes "B matches {b matches {C matches {*}}}") 2046 8 22
    ∷ refuses_from (bytes "B matches {b matches {1, 2} c matches {True, False}}") 2043 8 39
    ∷ accepts_from (bytes "B matches {b matches {1, 2} c matches {True, False}}") 2042 (object_with 2042 (bytes "B") [] (attribute_with 2043 2 (bytes "b") (leaf (ranges integers (range 2044 2_147_483_649 2_147_483_649 ∷ range 2045 2_147_483_650 2_147_483_650 ∷ []))) (attribute_with 2046 2 (bytes "c") (leaf (single booleans 2047 3)) no_more)))
    ∷ refuses_from (bytes "B matches {b matches {C matches {c matches {*}}} d matches {\"x\"}}") 2043 8 60
    ∷ accepts_from (bytes "B matches {b matches {Pd}}") 2045 (object_with 2045 (bytes "B") [] (attribute_with 2046 2 (bytes "b") (leaf (single duration_pattern 2047 8)) no_more))
    ∷ refuses_from (bytes "B matches {b matches {Pd}}") 2046 8 22
    ∷ refuses_from (bytes "B matches {b matches {Pd x") 2046 8 22
    ∷ refuses_from (bytes "B matches {b matches {Pd matches {*}}}") 2046 8 22
    ∷ []

pub none_wrong : wrong right 0 cases ≡ []
unfolding wrong right cases object_list constraint_computes
none_wrong = refl
