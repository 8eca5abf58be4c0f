-- Tables joined up to the limits of a table and above them. The expectations are the second implementation's.
-- This file is written by `example_tables write` of second/. Assumes nothing.
use mathlib.Core.Path.{◌≡◌, refl}
use mathlib.Core.Bool.{true, false}
use mathlib.Core.List.{List, [], ◌∷◌}
use Rattle.lexis.proofs.Tables.{wrong}
use Rattle.table_merge.proofs.Computes.{merge_computes}
use Rattle.table_merge.proofs.Examples.{JoinCase, join_refuses, join_right}

pub cases : List JoinCase
cases =
    -- 8 before 10 before 11, each at its edge; an output of ten bytes is kept
    join_refuses 1024 1 1024 1 false 10 8 0
    ∷ join_refuses 1024 1 1023 1 true 10 11 49_154
    ∷ join_refuses 1023 1 1024 1 false 10 11 49_154
    ∷ join_refuses 2047 1 1 1 true 10 8 0
    ∷ join_refuses 2046 1 1 1 false 10 11 49_154
    ∷ join_refuses 1 1 2047 1 true 10 8 0
    ∷ join_refuses 1 1 2046 1 false 10 11 49_154
    ∷ join_refuses 1 16_384 1 1 true 10 10 0
    ∷ join_refuses 1 16_383 1 1 false 10 11 16_456
    ∷ join_refuses 1 1 1 16_384 true 10 10 0
    ∷ join_refuses 1 1 1 16_383 false 10 11 16_456
    ∷ join_refuses 1 8193 2 8192 true 10 10 0
    ∷ join_refuses 2 8192 1 8192 false 10 11 16_480
    ∷ join_refuses 2047 16_384 1 1 true 10 8 0
    ∷ join_refuses 2046 16_384 1 1 false 10 10 0
    ∷ join_refuses 1 1 1 1 true 10 11 74
    ∷ []

pub none_wrong : wrong join_right 0 cases ≡ []
unfolding wrong join_right cases merge_computes
none_wrong = refl
