-- Constraint trees with their records and their pool. The expectations are the second implementation's.
-- This file is written by `example_tables write` of second/. Assumes nothing.
use mathlib.Core.Path.{◌≡◌, refl}
use mathlib.Core.List.{List, [], ◌∷◌}
use Rattle.meaning.specs.Constraints.{prohibited, optional, required, Object, no_more, any, nested, leaf, single, ranges, texts, booleans, integers, date_pattern, dates, time_pattern, duration_pattern}
use Rattle.meaning.specs.Counting.{object_records, object_pool, object_numbers}
use Rattle.meaning.proofs.Trees.{range, item, object_with, attribute_with, each}

pub trees : List Object
trees =
    (object_with 1 (65 ∷ []) [] no_more)
    ∷ (object_with 1 (65 ∷ 66 ∷ []) (97 ∷ 116 ∷ 49 ∷ 46 ∷ 50 ∷ []) (attribute_with 2 2 (97 ∷ []) any (attribute_with 3 2 (98 ∷ 99 ∷ []) any no_more)))
    ∷ (object_with 1 (65 ∷ []) [] (attribute_with 2 2 (97 ∷ []) (leaf (single booleans 3 1)) (attribute_with 4 2 (98 ∷ []) (leaf (ranges integers (range 5 2_147_483_649 2_147_483_649 ∷ range 6 2_147_483_653 2_147_483_657 ∷ range 7 2_147_483_668 2_147_483_668 ∷ []))) (attribute_with 8 2 (99 ∷ []) (leaf (texts (item 9 (120 ∷ []) ∷ item 10 [] ∷ item 11 (121 ∷ 122 ∷ []) ∷ []))) no_more))))
    ∷ (object_with 1 (65 ∷ []) [] (attribute_with 2 2 (97 ∷ []) (leaf (single date_pattern 3 1)) (attribute_with 4 2 (98 ∷ []) (leaf (single time_pattern 5 3)) (attribute_with 6 2 (99 ∷ []) (leaf (ranges dates (range 7 20_040_101 20_040_101 ∷ range 8 20_050_101 99_991_231 ∷ []))) (attribute_with 9 2 (100 ∷ []) (leaf (single booleans 10 2)) no_more)))))
    ∷ (object_with 1 (65 ∷ []) (97 ∷ 116 ∷ 49 ∷ []) (attribute_with 2 2 (97 ∷ []) (nested (object_with 3 (66 ∷ []) (97 ∷ 116 ∷ 50 ∷ []) (attribute_with 4 2 (98 ∷ []) (nested (object_with 5 (67 ∷ []) [] (attribute_with 6 2 (99 ∷ []) (leaf (texts (item 7 (120 ∷ []) ∷ item 8 (121 ∷ []) ∷ []))) no_more))) (attribute_with 9 0 (100 ∷ []) any no_more)))) (attribute_with 10 1 (101 ∷ []) (leaf (ranges integers (range 11 2_147_483_655 2_147_483_655 ∷ []))) no_more)))
    ∷ (object_with 1 (80 ∷ 100 ∷ []) (97 ∷ 116 ∷ 49 ∷ []) (attribute_with 2 2 (97 ∷ []) (leaf (single duration_pattern 3 12)) (attribute_with 4 2 (98 ∷ []) (nested (object_with 5 (80 ∷ 84 ∷ 109 ∷ []) [] (attribute_with 6 2 (99 ∷ []) (leaf (single duration_pattern 7 34)) no_more))) (attribute_with 8 2 (100 ∷ []) (leaf (texts (item 9 (120 ∷ []) ∷ []))) no_more))))
    ∷ (object_with 1 (65 ∷ []) [] (attribute_with 2 2 (97 ∷ []) (nested (object_with 3 (66 ∷ []) [] no_more)) (attribute_with 4 2 (98 ∷ []) (nested (object_with 5 (67 ∷ []) [] (attribute_with 6 2 (97 ∷ []) (leaf (ranges integers (range 7 2_147_483_649 2_147_483_649 ∷ range 8 2_147_483_650 2_147_483_650 ∷ []))) (attribute_with 9 2 (98 ∷ []) any no_more)))) (attribute_with 10 2 (99 ∷ []) (leaf (texts (item 11 (122 ∷ []) ∷ []))) no_more))))
    ∷ []

-- how many records each has, its header left out
pub records_counted : each object_records trees ≡ (1 ∷ 3 ∷ 11 ∷ 10 ∷ 11 ∷ 9 ∷ 11 ∷ [])
unfolding trees object_records
records_counted = refl

-- the bytes of each pool
pub pools_filled : each object_pool trees ≡ ((65 ∷ []) ∷ (65 ∷ 66 ∷ 97 ∷ 116 ∷ 49 ∷ 46 ∷ 50 ∷ 97 ∷ 98 ∷ 99 ∷ []) ∷ (65 ∷ 97 ∷ 98 ∷ 99 ∷ 120 ∷ 121 ∷ 122 ∷ []) ∷ (65 ∷ 97 ∷ 98 ∷ 99 ∷ 100 ∷ []) ∷ (65 ∷ 97 ∷ 116 ∷ 49 ∷ 97 ∷ 66 ∷ 97 ∷ 116 ∷ 50 ∷ 98 ∷ 67 ∷ 99 ∷ 120 ∷ 121 ∷ 100 ∷ 101 ∷ []) ∷ (80 ∷ 100 ∷ 97 ∷ 116 ∷ 49 ∷ 97 ∷ 98 ∷ 80 ∷ 84 ∷ 109 ∷ 99 ∷ 100 ∷ 120 ∷ []) ∷ (65 ∷ 97 ∷ 66 ∷ 98 ∷ 67 ∷ 97 ∷ 98 ∷ 99 ∷ 122 ∷ []) ∷ [])
unfolding trees object_pool
pools_filled = refl

-- the numbers of the records, in text order
pub numbers_in_order : each object_numbers trees ≡ ((1 ∷ []) ∷ (1 ∷ 2 ∷ 3 ∷ []) ∷ (1 ∷ 2 ∷ 3 ∷ 4 ∷ 5 ∷ 6 ∷ 7 ∷ 8 ∷ 9 ∷ 10 ∷ 11 ∷ []) ∷ (1 ∷ 2 ∷ 3 ∷ 4 ∷ 5 ∷ 6 ∷ 7 ∷ 8 ∷ 9 ∷ 10 ∷ []) ∷ (1 ∷ 2 ∷ 3 ∷ 4 ∷ 5 ∷ 6 ∷ 7 ∷ 8 ∷ 9 ∷ 10 ∷ 11 ∷ []) ∷ (1 ∷ 2 ∷ 3 ∷ 4 ∷ 5 ∷ 6 ∷ 7 ∷ 8 ∷ 9 ∷ []) ∷ (1 ∷ 2 ∷ 3 ∷ 4 ∷ 5 ∷ 6 ∷ 7 ∷ 8 ∷ 9 ∷ 10 ∷ 11 ∷ []) ∷ [])
unfolding trees object_numbers
numbers_in_order = refl

-- the flags of 0..0, 0..1 and 1..1
pub existence_flags : (prohibited ∷ optional ∷ required ∷ []) ≡ (0 ∷ 1 ∷ 2 ∷ [])
existence_flags = refl
