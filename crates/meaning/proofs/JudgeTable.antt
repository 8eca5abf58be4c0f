-- Data by objects: types, existence, members, levels, and the first failure in the walk. The expectations are the second implementation's.
-- This file is written by `example_tables write` of second/. Assumes nothing.
use mathlib.Core.Path.{◌≡◌, refl}
use Rattle.std.specs.Prelude.{None, Some}
use mathlib.Core.List.{List, [], ◌∷◌}
use Rattle.lexis.specs.Text.{bytes}
use Rattle.lexis.proofs.Tables.{wrong}
use Rattle.meaning.specs.Constraints.{no_more, any, nested, leaf, single, ranges, texts, booleans, integers, date_pattern, dates, time_pattern, duration_pattern}
use Rattle.meaning.specs.Data.{datum, member, string, word, block}
use Rattle.meaning.specs.Data
use Rattle.meaning.specs.Verdicts.{valid, fails}
use Rattle.meaning.proofs.Computes.{meaning_computes}
use Rattle.meaning.proofs.Trees.{range, item, object_with, attribute_with}
use Rattle.meaning.proofs.Examples.{Case, judges, right}

pub cases : List Case
cases =
    -- `*` admits any members, its type still counts
    judges (object_with 1 (bytes "A") [] no_more) (datum 0 None Data.no_more) valid
    ∷ judges (object_with 1 (bytes "A") [] no_more) (datum 3 (Some (bytes "A")) Data.no_more) valid
    ∷ judges (object_with 1 (bytes "A") [] no_more) (datum 3 (Some (bytes "B")) Data.no_more) (fails 21 1 3)
    ∷ judges (object_with 1 (bytes "A") [] no_more) (datum 4 (Some (bytes "AB")) Data.no_more) (fails 21 1 4)
    ∷ judges (object_with 1 (bytes "A") [] no_more) (datum 0 None (member (bytes "a") (word 3 (bytes "5")) Data.no_more)) valid
    ∷ judges (object_with 1 (bytes "A") [] no_more) (datum 0 None (member (bytes "a") (block (datum 3 None (member (bytes "b") (string 6 (bytes "x")) Data.no_more))) (member (bytes "c") (block (datum 17 (Some (bytes "D")) Data.no_more)) Data.no_more))) valid
    ∷ judges (object_with 1 (bytes "A") [] no_more) (datum 3 (Some (bytes "A")) (member (bytes "a") (word 6 (bytes "5")) Data.no_more)) valid
    ∷ judges (object_with 1 (bytes "A") [] no_more) (datum 5 (Some (bytes "B")) (member (bytes "a") (word 8 (bytes "5")) Data.no_more)) (fails 21 1 5)
    ∷ judges (object_with 1 (bytes "AB") [] no_more) (datum 3 (Some (bytes "A")) Data.no_more) (fails 21 1 3)
    ∷ judges (object_with 1 (bytes "AB") [] no_more) (datum 4 (Some (bytes "AB")) Data.no_more) valid
    ∷ judges (object_with 1 (bytes "AB") [] no_more) (datum 5 (Some (bytes "ABC")) Data.no_more) (fails 21 1 5)
    ∷ judges (object_with 1 (bytes "AB") [] no_more) (datum 4 (Some (bytes "Ab")) Data.no_more) (fails 21 1 4)
    ∷ judges (object_with 1 (bytes "AB") [] no_more) (datum 0 None Data.no_more) valid
    ∷ judges (object_with 1 (bytes "A") (bytes "at1") no_more) (datum 3 (Some (bytes "A")) Data.no_more) valid
    ∷ judges (object_with 1 (bytes "A") (bytes "at1") no_more) (datum 3 (Some (bytes "B")) (member (bytes "a") (word 6 (bytes "5")) Data.no_more)) (fails 21 1 3)
    ∷ judges (object_with 1 (bytes "A") [] (attribute_with 2 2 (bytes "a") any no_more)) (datum 0 None (member (bytes "a") (word 3 (bytes "5")) Data.no_more)) valid
    ∷ judges (object_with 1 (bytes "A") [] (attribute_with 2 2 (bytes "a") any no_more)) (datum 0 None (member (bytes "a") (string 3 (bytes "x")) Data.no_more)) valid
    ∷ judges (object_with 1 (bytes "A") [] (attribute_with 2 2 (bytes "a") any no_more)) (datum 0 None (member (bytes "a") (block (datum 3 None Data.no_more)) Data.no_more)) valid
    ∷ judges (object_with 1 (bytes "A") [] (attribute_with 2 2 (bytes "a") any no_more)) (datum 0 None (member (bytes "a") (block (datum 6 (Some (bytes "B")) (member (bytes "b") (word 9 (bytes "5")) Data.no_more))) Data.no_more)) valid
    ∷ judges (object_with 1 (bytes "A") [] (attribute_with 2 2 (bytes "a") any no_more)) (datum 0 None Data.no_more) (fails 22 2 0)
    ∷ judges (object_with 1 (bytes "A") [] (attribute_with 2 2 (bytes "a") any no_more)) (datum 0 None (member (bytes "b") (word 3 (bytes "5")) Data.no_more)) (fails 22 2 0)
    ∷ judges (object_with 1 (bytes "A") [] (attribute_with 2 2 (bytes "a") (nested (object_with 3 (bytes "B") [] no_more)) no_more)) (datum 0 None (member (bytes "a") (block (datum 3 None Data.no_more)) Data.no_more)) valid
    ∷ judges (object_with 1 (bytes "A") [] (attribute_with 2 2 (bytes "a") (nested (object_with 3 (bytes "B") [] no_more)) no_more)) (datum 0 None (member (bytes "a") (block (datum 6 (Some (bytes "B")) Data.no_more)) Data.no_more)) valid
    ∷ judges (object_with 1 (bytes "A") [] (attribute_with 2 2 (bytes "a") (nested (object_with 3 (bytes "B") [] no_more)) no_more)) (datum 0 None (member (bytes "a") (block (datum 6 (Some (bytes "A")) Data.no_more)) Data.no_more)) (fails 21 3 6)
    ∷ judges (object_with 1 (bytes "A") [] (attribute_with 2 2 (bytes "a") (nested (object_with 3 (bytes "B") [] no_more)) no_more)) (datum 0 None (member (bytes "a") (block (datum 3 None (member (bytes "x") (word 6 (bytes "5")) Data.no_more))) Data.no_more)) valid
    ∷ judges (object_with 1 (bytes "A") [] (attribute_with 2 2 (bytes "a") (nested (object_with 3 (bytes "B") [] no_more)) no_more)) (datum 0 None (member (bytes "a") (word 3 (bytes "5")) Data.no_more)) (fails 20 3 3)
    ∷ judges (object_with 1 (bytes "A") [] (attribute_with 2 2 (bytes "a") (nested (object_with 3 (bytes "B") [] no_more)) no_more)) (datum 0 None (member (bytes "a") (string 3 (bytes "x")) Data.no_more)) (fails 20 3 3)
    -- existence in its three forms, with members and without
    ∷ judges (object_with 1 (bytes "A") [] (attribute_with 2 0 (bytes "a") any no_more)) (datum 0 None Data.no_more) valid
    ∷ judges (object_with 1 (bytes "A") [] (attribute_with 2 0 (bytes "a") any no_more)) (datum 0 None (member (bytes "a") (word 3 (bytes "5")) Data.no_more)) (fails 23 2 3)
    ∷ judges (object_with 1 (bytes "A") [] (attribute_with 2 0 (bytes "a") any no_more)) (datum 0 None (member (bytes "a") (block (datum 3 None Data.no_more)) Data.no_more)) (fails 23 2 3)
    ∷ judges (object_with 1 (bytes "A") [] (attribute_with 2 0 (bytes "a") any no_more)) (datum 0 None (member (bytes "a") (block (datum 6 (Some (bytes "B")) Data.no_more)) Data.no_more)) (fails 23 2 6)
    ∷ judges (object_with 1 (bytes "A") [] (attribute_with 2 0 (bytes "a") any no_more)) (datum 0 None (member (bytes "b") (word 3 (bytes "5")) Data.no_more)) valid
    ∷ judges (object_with 1 (bytes "A") [] (attribute_with 2 0 (bytes "a") any no_more)) (datum 3 (Some (bytes "A")) (member (bytes "b") (word 6 (bytes "5")) (member (bytes "a") (string 11 (bytes "x")) Data.no_more))) (fails 23 2 11)
    ∷ judges (object_with 1 (bytes "A") [] (attribute_with 2 0 (bytes "a") (leaf (ranges integers (range 3 2_147_483_653 2_147_483_653 ∷ []))) no_more)) (datum 0 None Data.no_more) valid
    ∷ judges (object_with 1 (bytes "A") [] (attribute_with 2 0 (bytes "a") (leaf (ranges integers (range 3 2_147_483_653 2_147_483_653 ∷ []))) no_more)) (datum 0 None (member (bytes "a") (word 3 (bytes "5")) Data.no_more)) (fails 23 2 3)
    ∷ judges (object_with 1 (bytes "A") [] (attribute_with 2 0 (bytes "a") (leaf (ranges integers (range 3 2_147_483_653 2_147_483_653 ∷ []))) no_more)) (datum 0 None (member (bytes "a") (word 3 (bytes "6")) Data.no_more)) (fails 23 2 3)
    ∷ judges (object_with 1 (bytes "A") [] (attribute_with 2 0 (bytes "a") (leaf (ranges integers (range 3 2_147_483_653 2_147_483_653 ∷ []))) no_more)) (datum 0 None (member (bytes "a") (word 3 (bytes "True")) Data.no_more)) (fails 23 2 3)
    ∷ judges (object_with 1 (bytes "A") [] (attribute_with 2 0 (bytes "a") (leaf (ranges integers (range 3 2_147_483_653 2_147_483_653 ∷ []))) no_more)) (datum 0 None (member (bytes "a") (block (datum 3 None (member (bytes "b") (word 6 (bytes "5")) Data.no_more))) Data.no_more)) (fails 23 2 3)
    ∷ judges (object_with 1 (bytes "A") [] (attribute_with 2 0 (bytes "a") (nested (object_with 3 (bytes "B") [] no_more)) no_more)) (datum 0 None Data.no_more) valid
    ∷ judges (object_with 1 (bytes "A") [] (attribute_with 2 0 (bytes "a") (nested (object_with 3 (bytes "B") [] no_more)) no_more)) (datum 0 None (member (bytes "a") (block (datum 3 None Data.no_more)) Data.no_more)) (fails 23 2 3)
    ∷ judges (object_with 1 (bytes "A") [] (attribute_with 2 0 (bytes "a") (nested (object_with 3 (bytes "B") [] no_more)) no_more)) (datum 0 None (member (bytes "a") (block (datum 6 (Some (bytes "B")) Data.no_more)) Data.no_more)) (fails 23 2 6)
    ∷ judges (object_with 1 (bytes "A") [] (attribute_with 2 0 (bytes "a") (nested (object_with 3 (bytes "B") [] no_more)) no_more)) (datum 0 None (member (bytes "a") (block (datum 6 (Some (bytes "C")) Data.no_more)) Data.no_more)) (fails 23 2 6)
    ∷ judges (object_with 1 (bytes "A") [] (attribute_with 2 0 (bytes "a") (nested (object_with 3 (bytes "B") [] no_more)) no_more)) (datum 0 None (member (bytes "a") (word 3 (bytes "5")) Data.no_more)) (fails 23 2 3)
    ∷ judges (object_with 1 (bytes "A") [] (attribute_with 2 1 (bytes "a") (leaf (ranges integers (range 3 2_147_483_653 2_147_483_653 ∷ []))) no_more)) (datum 0 None Data.no_more) valid
    ∷ judges (object_with 1 (bytes "A") [] (attribute_with 2 1 (bytes "a") (leaf (ranges integers (range 3 2_147_483_653 2_147_483_653 ∷ []))) no_more)) (datum 0 None (member (bytes "a") (word 3 (bytes "5")) Data.no_more)) valid
    ∷ judges (object_with 1 (bytes "A") [] (attribute_with 2 1 (bytes "a") (leaf (ranges integers (range 3 2_147_483_653 2_147_483_653 ∷ []))) no_more)) (datum 0 None (member (bytes "a") (word 3 (bytes "6")) Data.no_more)) (fails 24 3 3)
    ∷ judges (object_with 1 (bytes "A") [] (attribute_with 2 1 (bytes "a") (leaf (ranges integers (range 3 2_147_483_653 2_147_483_653 ∷ []))) no_more)) (datum 0 None (member (bytes "a") (string 3 (bytes "5")) Data.no_more)) (fails 20 3 3)
    ∷ judges (object_with 1 (bytes "A") [] (attribute_with 2 1 (bytes "a") (leaf (ranges integers (range 3 2_147_483_653 2_147_483_653 ∷ []))) no_more)) (datum 0 None (member (bytes "a") (block (datum 3 None Data.no_more)) Data.no_more)) (fails 20 3 3)
    ∷ judges (object_with 1 (bytes "A") [] (attribute_with 2 1 (bytes "a") (nested (object_with 3 (bytes "B") [] (attribute_with 4 2 (bytes "b") any no_more))) no_more)) (datum 0 None Data.no_more) valid
    ∷ judges (object_with 1 (bytes "A") [] (attribute_with 2 1 (bytes "a") (nested (object_with 3 (bytes "B") [] (attribute_with 4 2 (bytes "b") any no_more))) no_more)) (datum 0 None (member (bytes "a") (block (datum 3 None (member (bytes "b") (word 6 (bytes "5")) Data.no_more))) Data.no_more)) valid
    ∷ judges (object_with 1 (bytes "A") [] (attribute_with 2 1 (bytes "a") (nested (object_with 3 (bytes "B") [] (attribute_with 4 2 (bytes "b") any no_more))) no_more)) (datum 0 None (member (bytes "a") (block (datum 3 None Data.no_more)) Data.no_more)) (fails 22 4 3)
    ∷ judges (object_with 1 (bytes "A") [] (attribute_with 2 1 (bytes "a") (nested (object_with 3 (bytes "B") [] (attribute_with 4 2 (bytes "b") any no_more))) no_more)) (datum 0 None (member (bytes "a") (block (datum 6 (Some (bytes "C")) Data.no_more)) Data.no_more)) (fails 21 3 6)
    ∷ judges (object_with 1 (bytes "A") [] (attribute_with 2 1 (bytes "a") (nested (object_with 3 (bytes "B") [] (attribute_with 4 2 (bytes "b") any no_more))) no_more)) (datum 0 None (member (bytes "a") (word 3 (bytes "5")) Data.no_more)) (fails 20 3 3)
    ∷ judges (object_with 1 (bytes "A") [] (attribute_with 2 1 (bytes "a") any no_more)) (datum 0 None Data.no_more) valid
    ∷ judges (object_with 1 (bytes "A") [] (attribute_with 2 1 (bytes "a") any no_more)) (datum 0 None (member (bytes "a") (word 3 (bytes "5")) Data.no_more)) valid
    ∷ judges (object_with 1 (bytes "A") [] (attribute_with 2 2 (bytes "a") (leaf (ranges integers (range 3 2_147_483_653 2_147_483_653 ∷ []))) no_more)) (datum 0 None Data.no_more) (fails 22 2 0)
    ∷ judges (object_with 1 (bytes "A") [] (attribute_with 2 2 (bytes "a") (leaf (ranges integers (range 3 2_147_483_653 2_147_483_653 ∷ []))) no_more)) (datum 0 None (member (bytes "a") (word 3 (bytes "5")) Data.no_more)) valid
    ∷ judges (object_with 1 (bytes "A") [] (attribute_with 2 2 (bytes "a") (leaf (ranges integers (range 3 2_147_483_653 2_147_483_653 ∷ []))) no_more)) (datum 0 None (member (bytes "a") (word 3 (bytes "6")) Data.no_more)) (fails 24 3 3)
    ∷ judges (object_with 1 (bytes "A") [] (attribute_with 2 2 (bytes "a") (leaf (ranges integers (range 3 2_147_483_653 2_147_483_653 ∷ []))) no_more)) (datum 0 None (member (bytes "ab") (word 4 (bytes "5")) Data.no_more)) (fails 22 2 0)
    ∷ judges (object_with 1 (bytes "A") [] (attribute_with 2 2 (bytes "a") (nested (object_with 3 (bytes "B") [] no_more)) no_more)) (datum 0 None Data.no_more) (fails 22 2 0)
    ∷ judges (object_with 1 (bytes "A") [] (attribute_with 2 2 (bytes "a") (nested (object_with 3 (bytes "B") [] no_more)) no_more)) (datum 0 None (member (bytes "a") (block (datum 3 None Data.no_more)) Data.no_more)) valid
    ∷ judges (object_with 1 (bytes "A") [] (attribute_with 2 2 (bytes "a") (nested (object_with 3 (bytes "B") [] no_more)) no_more)) (datum 5 (Some (bytes "A")) (member (bytes "c") (block (datum 8 None Data.no_more)) Data.no_more)) (fails 22 2 5)
    ∷ judges (object_with 1 (bytes "A") [] (attribute_with 2 2 (bytes "a") (leaf (ranges integers (range 3 2_147_483_653 2_147_483_653 ∷ []))) (attribute_with 4 0 (bytes "b") any (attribute_with 5 1 (bytes "c") (leaf (ranges integers (range 6 2_147_483_655 2_147_483_655 ∷ []))) no_more)))) (datum 0 None (member (bytes "a") (word 3 (bytes "5")) Data.no_more)) valid
    ∷ judges (object_with 1 (bytes "A") [] (attribute_with 2 2 (bytes "a") (leaf (ranges integers (range 3 2_147_483_653 2_147_483_653 ∷ []))) (attribute_with 4 0 (bytes "b") any (attribute_with 5 1 (bytes "c") (leaf (ranges integers (range 6 2_147_483_655 2_147_483_655 ∷ []))) no_more)))) (datum 0 None (member (bytes "a") (word 3 (bytes "5")) (member (bytes "c") (word 8 (bytes "7")) Data.no_more))) valid
    ∷ judges (object_with 1 (bytes "A") [] (attribute_with 2 2 (bytes "a") (leaf (ranges integers (range 3 2_147_483_653 2_147_483_653 ∷ []))) (attribute_with 4 0 (bytes "b") any (attribute_with 5 1 (bytes "c") (leaf (ranges integers (range 6 2_147_483_655 2_147_483_655 ∷ []))) no_more)))) (datum 0 None (member (bytes "a") (word 3 (bytes "5")) (member (bytes "c") (word 8 (bytes "8")) Data.no_more))) (fails 24 6 8)
    ∷ judges (object_with 1 (bytes "A") [] (attribute_with 2 2 (bytes "a") (leaf (ranges integers (range 3 2_147_483_653 2_147_483_653 ∷ []))) (attribute_with 4 0 (bytes "b") any (attribute_with 5 1 (bytes "c") (leaf (ranges integers (range 6 2_147_483_655 2_147_483_655 ∷ []))) no_more)))) (datum 0 None (member (bytes "a") (word 3 (bytes "5")) (member (bytes "b") (word 8 (bytes "5")) Data.no_more))) (fails 23 4 8)
    ∷ judges (object_with 1 (bytes "A") [] (attribute_with 2 2 (bytes "a") (leaf (ranges integers (range 3 2_147_483_653 2_147_483_653 ∷ []))) (attribute_with 4 0 (bytes "b") any (attribute_with 5 1 (bytes "c") (leaf (ranges integers (range 6 2_147_483_655 2_147_483_655 ∷ []))) no_more)))) (datum 0 None (member (bytes "c") (word 3 (bytes "7")) (member (bytes "b") (word 8 (bytes "5")) Data.no_more))) (fails 22 2 0)
    -- a block for a leaf and a leaf for a block
    ∷ judges (object_with 1 (bytes "A") [] (attribute_with 2 2 (bytes "a") (leaf (ranges integers (range 3 2_147_483_653 2_147_483_653 ∷ []))) no_more)) (datum 0 None (member (bytes "a") (block (datum 3 None Data.no_more)) Data.no_more)) (fails 20 3 3)
    ∷ judges (object_with 1 (bytes "A") [] (attribute_with 2 2 (bytes "a") (leaf (ranges integers (range 3 2_147_483_653 2_147_483_653 ∷ []))) no_more)) (datum 0 None (member (bytes "a") (block (datum 3 None (member (bytes "b") (word 6 (bytes "5")) Data.no_more))) Data.no_more)) (fails 20 3 3)
    ∷ judges (object_with 1 (bytes "A") [] (attribute_with 2 2 (bytes "a") (leaf (ranges integers (range 3 2_147_483_653 2_147_483_653 ∷ []))) no_more)) (datum 0 None (member (bytes "a") (block (datum 6 (Some (bytes "B")) Data.no_more)) Data.no_more)) (fails 20 3 6)
    ∷ judges (object_with 1 (bytes "A") [] (attribute_with 2 2 (bytes "a") (leaf (ranges integers (range 3 2_147_483_653 2_147_483_653 ∷ []))) no_more)) (datum 0 None (member (bytes "a") (block (datum 8 (Some (bytes "B")) (member (bytes "b") (word 11 (bytes "5")) Data.no_more))) Data.no_more)) (fails 20 3 8)
    ∷ judges (object_with 1 (bytes "A") [] (attribute_with 2 2 (bytes "a") (leaf (ranges integers (range 3 2_147_483_649 2_147_483_649 ∷ range 4 2_147_483_653 2_147_483_653 ∷ range 5 2_147_483_657 2_147_483_657 ∷ []))) no_more)) (datum 0 None (member (bytes "a") (block (datum 3 None Data.no_more)) Data.no_more)) (fails 20 3 3)
    ∷ judges (object_with 1 (bytes "A") [] (attribute_with 2 2 (bytes "a") (leaf (ranges integers (range 3 2_147_483_649 2_147_483_649 ∷ range 4 2_147_483_653 2_147_483_653 ∷ range 5 2_147_483_657 2_147_483_657 ∷ []))) no_more)) (datum 0 None (member (bytes "a") (word 3 (bytes "4")) Data.no_more)) (fails 24 3 3)
    ∷ judges (object_with 1 (bytes "A") [] (attribute_with 2 2 (bytes "a") (leaf (ranges integers (range 3 2_147_483_649 2_147_483_649 ∷ range 4 2_147_483_653 2_147_483_653 ∷ range 5 2_147_483_657 2_147_483_657 ∷ []))) no_more)) (datum 0 None (member (bytes "a") (word 3 (bytes "True")) Data.no_more)) (fails 20 3 3)
    ∷ judges (object_with 1 (bytes "A") [] (attribute_with 2 2 (bytes "a") (leaf (ranges integers (range 3 2_147_483_649 2_147_483_649 ∷ range 4 2_147_483_653 2_147_483_653 ∷ range 5 2_147_483_657 2_147_483_657 ∷ []))) no_more)) (datum 0 None (member (bytes "a") (string 3 (bytes "5")) Data.no_more)) (fails 20 3 3)
    ∷ judges (object_with 1 (bytes "A") [] (attribute_with 2 2 (bytes "a") (leaf (texts (item 3 (bytes "x") ∷ item 4 (bytes "y") ∷ []))) no_more)) (datum 0 None (member (bytes "a") (block (datum 3 None Data.no_more)) Data.no_more)) (fails 20 3 3)
    ∷ judges (object_with 1 (bytes "A") [] (attribute_with 2 2 (bytes "a") (leaf (texts (item 3 (bytes "x") ∷ item 4 (bytes "y") ∷ []))) no_more)) (datum 0 None (member (bytes "a") (string 3 (bytes "z")) Data.no_more)) (fails 24 3 3)
    ∷ judges (object_with 1 (bytes "A") [] (attribute_with 2 2 (bytes "a") (leaf (texts (item 3 (bytes "x") ∷ item 4 (bytes "y") ∷ []))) no_more)) (datum 0 None (member (bytes "a") (word 3 (bytes "5")) Data.no_more)) (fails 20 3 3)
    ∷ judges (object_with 1 (bytes "A") [] (attribute_with 2 2 (bytes "a") (leaf (ranges dates (range 3 20_040_101 20_040_101 ∷ range 4 20_050_101 20_050_101 ∷ []))) no_more)) (datum 0 None (member (bytes "a") (block (datum 3 None Data.no_more)) Data.no_more)) (fails 20 3 3)
    ∷ judges (object_with 1 (bytes "A") [] (attribute_with 2 2 (bytes "a") (leaf (ranges dates (range 3 20_040_101 20_040_101 ∷ range 4 20_050_101 20_050_101 ∷ []))) no_more)) (datum 0 None (member (bytes "a") (word 3 (bytes "2006-01-01")) Data.no_more)) (fails 24 3 3)
    ∷ judges (object_with 1 (bytes "A") [] (attribute_with 2 2 (bytes "a") (leaf (ranges dates (range 3 20_040_101 20_040_101 ∷ range 4 20_050_101 20_050_101 ∷ []))) no_more)) (datum 0 None (member (bytes "a") (word 3 (bytes "10:30")) Data.no_more)) (fails 20 3 3)
    ∷ judges (object_with 1 (bytes "A") [] (attribute_with 2 2 (bytes "a") (leaf (single booleans 3 3)) no_more)) (datum 0 None (member (bytes "a") (block (datum 3 None Data.no_more)) Data.no_more)) (fails 20 3 3)
    ∷ judges (object_with 1 (bytes "A") [] (attribute_with 2 2 (bytes "a") (leaf (single booleans 3 3)) no_more)) (datum 0 None (member (bytes "a") (word 3 (bytes "1")) Data.no_more)) (fails 20 3 3)
    ∷ judges (object_with 1 (bytes "A") [] (attribute_with 2 2 (bytes "a") (leaf (single date_pattern 3 1)) no_more)) (datum 0 None (member (bytes "a") (block (datum 6 (Some (bytes "B")) Data.no_more)) Data.no_more)) (fails 20 3 6)
    ∷ judges (object_with 1 (bytes "A") [] (attribute_with 2 2 (bytes "a") (leaf (single date_pattern 3 1)) no_more)) (datum 0 None (member (bytes "a") (word 3 (bytes "2004")) Data.no_more)) (fails 24 3 3)
    ∷ judges (object_with 1 (bytes "A") [] (attribute_with 2 2 (bytes "a") (leaf (single date_pattern 3 1)) no_more)) (datum 0 None (member (bytes "a") (word 3 (bytes "5")) Data.no_more)) (fails 20 3 3)
    ∷ judges (object_with 1 (bytes "A") [] (attribute_with 2 2 (bytes "a") (leaf (single time_pattern 3 1)) no_more)) (datum 0 None (member (bytes "a") (block (datum 3 None (member (bytes "b") (block (datum 6 None Data.no_more)) Data.no_more))) Data.no_more)) (fails 20 3 3)
    ∷ judges (object_with 1 (bytes "A") [] (attribute_with 2 2 (bytes "a") (leaf (single time_pattern 3 1)) no_more)) (datum 0 None (member (bytes "a") (word 3 (bytes "08")) Data.no_more)) (fails 24 3 3)
    ∷ judges (object_with 1 (bytes "A") [] (attribute_with 2 2 (bytes "a") (leaf (single time_pattern 3 1)) no_more)) (datum 0 None (member (bytes "a") (word 3 (bytes "5")) Data.no_more)) (fails 20 3 3)
    ∷ judges (object_with 1 (bytes "A") [] (attribute_with 2 2 (bytes "a") (leaf (single duration_pattern 3 12)) no_more)) (datum 0 None (member (bytes "a") (block (datum 3 None Data.no_more)) Data.no_more)) (fails 20 3 3)
    ∷ judges (object_with 1 (bytes "A") [] (attribute_with 2 2 (bytes "a") (leaf (single duration_pattern 3 12)) no_more)) (datum 0 None (member (bytes "a") (block (datum 8 (Some (bytes "Pwd")) Data.no_more)) Data.no_more)) (fails 20 3 8)
    ∷ judges (object_with 1 (bytes "A") [] (attribute_with 2 2 (bytes "a") (leaf (single duration_pattern 3 12)) no_more)) (datum 0 None (member (bytes "a") (word 3 (bytes "P4w")) Data.no_more)) valid
    ∷ judges (object_with 1 (bytes "A") [] (attribute_with 2 2 (bytes "a") (leaf (single duration_pattern 3 12)) no_more)) (datum 0 None (member (bytes "a") (word 3 (bytes "PT5m")) Data.no_more)) (fails 24 3 3)
    ∷ judges (object_with 1 (bytes "A") [] (attribute_with 2 2 (bytes "a") (leaf (single duration_pattern 3 12)) no_more)) (datum 0 None (member (bytes "a") (word 3 (bytes "5")) Data.no_more)) (fails 20 3 3)
    ∷ judges (object_with 1 (bytes "A") [] (attribute_with 2 2 (bytes "a") (leaf (single duration_pattern 3 12)) no_more)) (datum 0 None (member (bytes "a") (string 3 (bytes "P4w")) Data.no_more)) (fails 20 3 3)
    ∷ judges (object_with 1 (bytes "Pd") [] no_more) (datum 4 (Some (bytes "Pd")) Data.no_more) valid
    ∷ judges (object_with 1 (bytes "Pd") [] no_more) (datum 4 (Some (bytes "Pw")) Data.no_more) (fails 21 1 4)
    ∷ judges (object_with 1 (bytes "Pd") [] no_more) (datum 0 None (member (bytes "a") (word 3 (bytes "P5d")) Data.no_more)) valid
    ∷ judges (object_with 1 (bytes "A") [] (attribute_with 2 2 (bytes "a") (nested (object_with 3 (bytes "Pd") [] no_more)) no_more)) (datum 0 None (member (bytes "a") (block (datum 7 (Some (bytes "Pd")) Data.no_more)) Data.no_more)) valid
    ∷ judges (object_with 1 (bytes "A") [] (attribute_with 2 2 (bytes "a") (nested (object_with 3 (bytes "Pd") [] no_more)) no_more)) (datum 0 None (member (bytes "a") (word 3 (bytes "P5d")) Data.no_more)) (fails 20 3 3)
    ∷ judges (object_with 1 (bytes "A") [] (attribute_with 2 2 (bytes "a") (nested (object_with 3 (bytes "Pd") [] no_more)) no_more)) (datum 0 None (member (bytes "a") (block (datum 3 None (member (bytes "x") (word 6 (bytes "P5d")) Data.no_more))) Data.no_more)) valid
    ∷ judges (object_with 1 (bytes "A") [] (attribute_with 2 2 (bytes "b") any (attribute_with 3 2 (bytes "a") (nested (object_with 4 (bytes "B") [] (attribute_with 5 2 (bytes "b") any no_more))) no_more))) (datum 0 None (member (bytes "b") (block (datum 3 None Data.no_more)) (member (bytes "a") (word 7 (bytes "5")) Data.no_more))) (fails 20 4 7)
    ∷ judges (object_with 1 (bytes "A") [] (attribute_with 2 2 (bytes "b") any (attribute_with 3 2 (bytes "a") (nested (object_with 4 (bytes "B") [] (attribute_with 5 2 (bytes "b") any no_more))) no_more))) (datum 0 None (member (bytes "b") (block (datum 3 None Data.no_more)) (member (bytes "a") (string 7 []) Data.no_more))) (fails 20 4 7)
    ∷ judges (object_with 1 (bytes "A") [] (attribute_with 2 2 (bytes "b") any (attribute_with 3 2 (bytes "a") (nested (object_with 4 (bytes "B") [] (attribute_with 5 2 (bytes "b") any no_more))) no_more))) (datum 0 None (member (bytes "b") (word 3 (bytes "5")) (member (bytes "a") (word 11 (bytes "5")) Data.no_more))) (fails 20 4 11)
    -- members that no attribute names, and names with the same beginning
    ∷ judges (object_with 1 (bytes "A") [] (attribute_with 2 2 (bytes "a") (leaf (ranges integers (range 3 2_147_483_653 2_147_483_653 ∷ []))) no_more)) (datum 0 None (member (bytes "b") (word 3 (bytes "6")) (member (bytes "a") (word 8 (bytes "5")) (member (bytes "c") (block (datum 13 None Data.no_more)) Data.no_more)))) valid
    ∷ judges (object_with 1 (bytes "A") [] (attribute_with 2 2 (bytes "a") (leaf (ranges integers (range 3 2_147_483_653 2_147_483_653 ∷ []))) no_more)) (datum 0 None (member (bytes "ab") (word 4 (bytes "6")) (member (bytes "a") (word 9 (bytes "5")) Data.no_more))) valid
    ∷ judges (object_with 1 (bytes "A") [] (attribute_with 2 2 (bytes "a") (leaf (ranges integers (range 3 2_147_483_653 2_147_483_653 ∷ []))) no_more)) (datum 0 None (member (bytes "a") (word 3 (bytes "5")) (member (bytes "ab") (word 9 (bytes "6")) Data.no_more))) valid
    ∷ judges (object_with 1 (bytes "A") [] (attribute_with 2 2 (bytes "a") (leaf (ranges integers (range 3 2_147_483_653 2_147_483_653 ∷ []))) no_more)) (datum 0 None (member (bytes "ab") (word 4 (bytes "5")) Data.no_more)) (fails 22 2 0)
    ∷ judges (object_with 1 (bytes "A") [] (attribute_with 2 2 (bytes "a") (leaf (ranges integers (range 3 2_147_483_653 2_147_483_653 ∷ []))) no_more)) (datum 0 None (member (bytes "a1") (word 4 (bytes "5")) (member (bytes "a_") (word 10 (bytes "5")) (member (bytes "aa") (word 16 (bytes "5")) Data.no_more)))) (fails 22 2 0)
    ∷ judges (object_with 1 (bytes "A") [] (attribute_with 2 2 (bytes "a") (leaf (ranges integers (range 3 2_147_483_653 2_147_483_653 ∷ []))) no_more)) (datum 0 None (member (bytes "aB") (word 4 (bytes "5")) (member (bytes "a") (word 9 (bytes "6")) Data.no_more))) (fails 24 3 9)
    ∷ judges (object_with 1 (bytes "A") [] (attribute_with 2 2 (bytes "ab") (leaf (ranges integers (range 3 2_147_483_653 2_147_483_653 ∷ []))) no_more)) (datum 0 None (member (bytes "a") (word 3 (bytes "5")) Data.no_more)) (fails 22 2 0)
    ∷ judges (object_with 1 (bytes "A") [] (attribute_with 2 2 (bytes "ab") (leaf (ranges integers (range 3 2_147_483_653 2_147_483_653 ∷ []))) no_more)) (datum 0 None (member (bytes "abc") (word 5 (bytes "5")) Data.no_more)) (fails 22 2 0)
    ∷ judges (object_with 1 (bytes "A") [] (attribute_with 2 2 (bytes "ab") (leaf (ranges integers (range 3 2_147_483_653 2_147_483_653 ∷ []))) no_more)) (datum 0 None (member (bytes "a") (word 3 (bytes "6")) (member (bytes "ab") (word 9 (bytes "5")) (member (bytes "abc") (word 16 (bytes "6")) Data.no_more)))) valid
    ∷ judges (object_with 1 (bytes "A") [] (attribute_with 2 2 (bytes "ab") (leaf (ranges integers (range 3 2_147_483_653 2_147_483_653 ∷ []))) no_more)) (datum 0 None (member (bytes "abc") (word 5 (bytes "5")) (member (bytes "ab") (word 11 (bytes "6")) (member (bytes "a") (word 16 (bytes "5")) Data.no_more)))) (fails 24 3 11)
    ∷ judges (object_with 1 (bytes "A") [] (attribute_with 2 2 (bytes "ab") (leaf (ranges integers (range 3 2_147_483_653 2_147_483_653 ∷ []))) no_more)) (datum 0 None (member (bytes "b") (word 3 (bytes "5")) (member (bytes "aB") (word 9 (bytes "5")) Data.no_more))) (fails 22 2 0)
    ∷ judges (object_with 1 (bytes "A") [] (attribute_with 2 2 (bytes "a") (leaf (ranges integers (range 3 2_147_483_649 2_147_483_649 ∷ []))) (attribute_with 4 2 (bytes "ab") (leaf (ranges integers (range 5 2_147_483_650 2_147_483_650 ∷ []))) (attribute_with 6 2 (bytes "abc") (leaf (ranges integers (range 7 2_147_483_651 2_147_483_651 ∷ []))) no_more)))) (datum 0 None (member (bytes "abc") (word 5 (bytes "3")) (member (bytes "ab") (word 11 (bytes "2")) (member (bytes "a") (word 16 (bytes "1")) Data.no_more)))) valid
    ∷ judges (object_with 1 (bytes "A") [] (attribute_with 2 2 (bytes "a") (leaf (ranges integers (range 3 2_147_483_649 2_147_483_649 ∷ []))) (attribute_with 4 2 (bytes "ab") (leaf (ranges integers (range 5 2_147_483_650 2_147_483_650 ∷ []))) (attribute_with 6 2 (bytes "abc") (leaf (ranges integers (range 7 2_147_483_651 2_147_483_651 ∷ []))) no_more)))) (datum 0 None (member (bytes "ab") (word 4 (bytes "2")) (member (bytes "abc") (word 11 (bytes "3")) (member (bytes "a") (word 16 (bytes "1")) Data.no_more)))) valid
    ∷ judges (object_with 1 (bytes "A") [] (attribute_with 2 2 (bytes "a") (leaf (ranges integers (range 3 2_147_483_649 2_147_483_649 ∷ []))) (attribute_with 4 2 (bytes "ab") (leaf (ranges integers (range 5 2_147_483_650 2_147_483_650 ∷ []))) (attribute_with 6 2 (bytes "abc") (leaf (ranges integers (range 7 2_147_483_651 2_147_483_651 ∷ []))) no_more)))) (datum 0 None (member (bytes "abc") (word 5 (bytes "2")) (member (bytes "ab") (word 11 (bytes "2")) (member (bytes "a") (word 16 (bytes "1")) Data.no_more)))) (fails 24 7 5)
    ∷ judges (object_with 1 (bytes "A") [] (attribute_with 2 2 (bytes "a") (leaf (ranges integers (range 3 2_147_483_649 2_147_483_649 ∷ []))) (attribute_with 4 2 (bytes "ab") (leaf (ranges integers (range 5 2_147_483_650 2_147_483_650 ∷ []))) (attribute_with 6 2 (bytes "abc") (leaf (ranges integers (range 7 2_147_483_651 2_147_483_651 ∷ []))) no_more)))) (datum 0 None (member (bytes "abc") (word 5 (bytes "3")) (member (bytes "a") (word 10 (bytes "1")) Data.no_more))) (fails 22 4 0)
    ∷ judges (object_with 1 (bytes "A") [] (attribute_with 2 2 (bytes "a") (nested (object_with 3 (bytes "B") [] (attribute_with 4 2 (bytes "b") (leaf (ranges integers (range 5 2_147_483_653 2_147_483_653 ∷ []))) no_more))) no_more)) (datum 0 None (member (bytes "b") (word 3 (bytes "6")) (member (bytes "a") (block (datum 8 None (member (bytes "b") (word 11 (bytes "5")) Data.no_more))) Data.no_more))) valid
    ∷ judges (object_with 1 (bytes "A") [] (attribute_with 2 2 (bytes "a") (nested (object_with 3 (bytes "B") [] (attribute_with 4 2 (bytes "b") (leaf (ranges integers (range 5 2_147_483_653 2_147_483_653 ∷ []))) no_more))) no_more)) (datum 0 None (member (bytes "a") (block (datum 3 None (member (bytes "a") (block (datum 6 None Data.no_more)) (member (bytes "b") (word 10 (bytes "5")) Data.no_more)))) Data.no_more)) valid
    ∷ judges (object_with 1 (bytes "A") [] (attribute_with 2 2 (bytes "a") (nested (object_with 3 (bytes "B") [] (attribute_with 4 2 (bytes "b") (leaf (ranges integers (range 5 2_147_483_653 2_147_483_653 ∷ []))) no_more))) no_more)) (datum 0 None (member (bytes "a") (block (datum 3 None (member (bytes "a") (block (datum 6 None (member (bytes "b") (word 9 (bytes "5")) Data.no_more))) Data.no_more))) (member (bytes "b") (word 16 (bytes "5")) Data.no_more))) (fails 22 4 3)
    -- the first failure: the type first, attributes in table order and not in the data's, each finished before the next
    ∷ judges (object_with 1 (bytes "A") [] (attribute_with 2 2 (bytes "a") (leaf (ranges integers (range 3 2_147_483_649 2_147_483_649 ∷ []))) (attribute_with 4 2 (bytes "b") (leaf (ranges integers (range 5 2_147_483_650 2_147_483_650 ∷ []))) (attribute_with 6 2 (bytes "c") (leaf (ranges integers (range 7 2_147_483_651 2_147_483_651 ∷ []))) no_more)))) (datum 0 None (member (bytes "a") (word 3 (bytes "1")) (member (bytes "b") (word 8 (bytes "2")) (member (bytes "c") (word 13 (bytes "3")) Data.no_more)))) valid
    ∷ judges (object_with 1 (bytes "A") [] (attribute_with 2 2 (bytes "a") (leaf (ranges integers (range 3 2_147_483_649 2_147_483_649 ∷ []))) (attribute_with 4 2 (bytes "b") (leaf (ranges integers (range 5 2_147_483_650 2_147_483_650 ∷ []))) (attribute_with 6 2 (bytes "c") (leaf (ranges integers (range 7 2_147_483_651 2_147_483_651 ∷ []))) no_more)))) (datum 0 None (member (bytes "c") (word 3 (bytes "3")) (member (bytes "b") (word 8 (bytes "2")) (member (bytes "a") (word 13 (bytes "1")) Data.no_more)))) valid
    ∷ judges (object_with 1 (bytes "A") [] (attribute_with 2 2 (bytes "a") (leaf (ranges integers (range 3 2_147_483_649 2_147_483_649 ∷ []))) (attribute_with 4 2 (bytes "b") (leaf (ranges integers (range 5 2_147_483_650 2_147_483_650 ∷ []))) (attribute_with 6 2 (bytes "c") (leaf (ranges integers (range 7 2_147_483_651 2_147_483_651 ∷ []))) no_more)))) (datum 0 None (member (bytes "c") (word 3 (bytes "9")) (member (bytes "b") (word 8 (bytes "9")) (member (bytes "a") (word 13 (bytes "9")) Data.no_more)))) (fails 24 3 13)
    ∷ judges (object_with 1 (bytes "A") [] (attribute_with 2 2 (bytes "a") (leaf (ranges integers (range 3 2_147_483_649 2_147_483_649 ∷ []))) (attribute_with 4 2 (bytes "b") (leaf (ranges integers (range 5 2_147_483_650 2_147_483_650 ∷ []))) (attribute_with 6 2 (bytes "c") (leaf (ranges integers (range 7 2_147_483_651 2_147_483_651 ∷ []))) no_more)))) (datum 0 None (member (bytes "c") (word 3 (bytes "9")) (member (bytes "b") (word 8 (bytes "9")) (member (bytes "a") (word 13 (bytes "1")) Data.no_more)))) (fails 24 5 8)
    ∷ judges (object_with 1 (bytes "A") [] (attribute_with 2 2 (bytes "a") (leaf (ranges integers (range 3 2_147_483_649 2_147_483_649 ∷ []))) (attribute_with 4 2 (bytes "b") (leaf (ranges integers (range 5 2_147_483_650 2_147_483_650 ∷ []))) (attribute_with 6 2 (bytes "c") (leaf (ranges integers (range 7 2_147_483_651 2_147_483_651 ∷ []))) no_more)))) (datum 0 None (member (bytes "c") (word 3 (bytes "9")) (member (bytes "b") (word 8 (bytes "2")) (member (bytes "a") (word 13 (bytes "1")) Data.no_more)))) (fails 24 7 3)
    ∷ judges (object_with 1 (bytes "A") [] (attribute_with 2 2 (bytes "a") (leaf (ranges integers (range 3 2_147_483_649 2_147_483_649 ∷ []))) (attribute_with 4 2 (bytes "b") (leaf (ranges integers (range 5 2_147_483_650 2_147_483_650 ∷ []))) (attribute_with 6 2 (bytes "c") (leaf (ranges integers (range 7 2_147_483_651 2_147_483_651 ∷ []))) no_more)))) (datum 0 None (member (bytes "c") (word 3 (bytes "9")) (member (bytes "b") (block (datum 8 None Data.no_more)) Data.no_more))) (fails 22 2 0)
    ∷ judges (object_with 1 (bytes "A") [] (attribute_with 2 2 (bytes "a") (leaf (ranges integers (range 3 2_147_483_649 2_147_483_649 ∷ []))) (attribute_with 4 2 (bytes "b") (leaf (ranges integers (range 5 2_147_483_650 2_147_483_650 ∷ []))) (attribute_with 6 2 (bytes "c") (leaf (ranges integers (range 7 2_147_483_651 2_147_483_651 ∷ []))) no_more)))) (datum 0 None (member (bytes "c") (string 3 (bytes "x")) (member (bytes "a") (word 10 (bytes "1")) Data.no_more))) (fails 22 4 0)
    ∷ judges (object_with 1 (bytes "A") [] (attribute_with 2 2 (bytes "a") (leaf (ranges integers (range 3 2_147_483_649 2_147_483_649 ∷ []))) (attribute_with 4 2 (bytes "b") (leaf (ranges integers (range 5 2_147_483_650 2_147_483_650 ∷ []))) (attribute_with 6 2 (bytes "c") (leaf (ranges integers (range 7 2_147_483_651 2_147_483_651 ∷ []))) no_more)))) (datum 3 (Some (bytes "B")) (member (bytes "c") (word 6 (bytes "9")) Data.no_more)) (fails 21 1 3)
    ∷ judges (object_with 1 (bytes "A") [] (attribute_with 2 2 (bytes "a") (leaf (ranges integers (range 3 2_147_483_649 2_147_483_649 ∷ []))) (attribute_with 4 2 (bytes "b") (leaf (ranges integers (range 5 2_147_483_650 2_147_483_650 ∷ []))) (attribute_with 6 2 (bytes "c") (leaf (ranges integers (range 7 2_147_483_651 2_147_483_651 ∷ []))) no_more)))) (datum 3 (Some (bytes "B")) Data.no_more) (fails 21 1 3)
    ∷ judges (object_with 1 (bytes "A") [] (attribute_with 2 2 (bytes "a") (leaf (ranges integers (range 3 2_147_483_649 2_147_483_649 ∷ []))) (attribute_with 4 2 (bytes "b") (leaf (ranges integers (range 5 2_147_483_650 2_147_483_650 ∷ []))) (attribute_with 6 2 (bytes "c") (leaf (ranges integers (range 7 2_147_483_651 2_147_483_651 ∷ []))) no_more)))) (datum 0 None Data.no_more) (fails 22 2 0)
    ∷ judges (object_with 1 (bytes "A") [] (attribute_with 2 2 (bytes "a") (leaf (ranges integers (range 3 2_147_483_649 2_147_483_649 ∷ []))) (attribute_with 4 2 (bytes "b") (leaf (ranges integers (range 5 2_147_483_650 2_147_483_650 ∷ []))) (attribute_with 6 2 (bytes "c") (leaf (ranges integers (range 7 2_147_483_651 2_147_483_651 ∷ []))) no_more)))) (datum 0 None (member (bytes "b") (word 3 (bytes "9")) Data.no_more)) (fails 22 2 0)
    ∷ judges (object_with 1 (bytes "A") [] (attribute_with 2 2 (bytes "a") (leaf (ranges integers (range 3 2_147_483_649 2_147_483_649 ∷ []))) (attribute_with 4 2 (bytes "b") (leaf (ranges integers (range 5 2_147_483_650 2_147_483_650 ∷ []))) (attribute_with 6 2 (bytes "c") (leaf (ranges integers (range 7 2_147_483_651 2_147_483_651 ∷ []))) no_more)))) (datum 0 None (member (bytes "a") (word 3 (bytes "1")) (member (bytes "b") (word 8 (bytes "9")) Data.no_more))) (fails 24 5 8)
    ∷ judges (object_with 1 (bytes "A") [] (attribute_with 2 2 (bytes "a") (nested (object_with 3 (bytes "B") [] (attribute_with 4 2 (bytes "b") (leaf (ranges integers (range 5 2_147_483_649 2_147_483_649 ∷ []))) (attribute_with 6 2 (bytes "c") (leaf (ranges integers (range 7 2_147_483_650 2_147_483_650 ∷ []))) no_more)))) (attribute_with 8 2 (bytes "d") (leaf (ranges integers (range 9 2_147_483_651 2_147_483_651 ∷ []))) no_more))) (datum 0 None (member (bytes "d") (word 3 (bytes "9")) (member (bytes "a") (block (datum 8 None (member (bytes "c") (word 11 (bytes "9")) (member (bytes "b") (word 16 (bytes "9")) Data.no_more)))) Data.no_more))) (fails 24 5 16)
    ∷ judges (object_with 1 (bytes "A") [] (attribute_with 2 2 (bytes "a") (nested (object_with 3 (bytes "B") [] (attribute_with 4 2 (bytes "b") (leaf (ranges integers (range 5 2_147_483_649 2_147_483_649 ∷ []))) (attribute_with 6 2 (bytes "c") (leaf (ranges integers (range 7 2_147_483_650 2_147_483_650 ∷ []))) no_more)))) (attribute_with 8 2 (bytes "d") (leaf (ranges integers (range 9 2_147_483_651 2_147_483_651 ∷ []))) no_more))) (datum 0 None (member (bytes "d") (word 3 (bytes "9")) (member (bytes "a") (block (datum 8 None (member (bytes "c") (word 11 (bytes "9")) (member (bytes "b") (word 16 (bytes "1")) Data.no_more)))) Data.no_more))) (fails 24 7 11)
    ∷ judges (object_with 1 (bytes "A") [] (attribute_with 2 2 (bytes "a") (nested (object_with 3 (bytes "B") [] (attribute_with 4 2 (bytes "b") (leaf (ranges integers (range 5 2_147_483_649 2_147_483_649 ∷ []))) (attribute_with 6 2 (bytes "c") (leaf (ranges integers (range 7 2_147_483_650 2_147_483_650 ∷ []))) no_more)))) (attribute_with 8 2 (bytes "d") (leaf (ranges integers (range 9 2_147_483_651 2_147_483_651 ∷ []))) no_more))) (datum 0 None (member (bytes "d") (word 3 (bytes "9")) (member (bytes "a") (block (datum 8 None (member (bytes "c") (word 11 (bytes "2")) (member (bytes "b") (word 16 (bytes "1")) Data.no_more)))) Data.no_more))) (fails 24 9 3)
    ∷ judges (object_with 1 (bytes "A") [] (attribute_with 2 2 (bytes "a") (nested (object_with 3 (bytes "B") [] (attribute_with 4 2 (bytes "b") (leaf (ranges integers (range 5 2_147_483_649 2_147_483_649 ∷ []))) (attribute_with 6 2 (bytes "c") (leaf (ranges integers (range 7 2_147_483_650 2_147_483_650 ∷ []))) no_more)))) (attribute_with 8 2 (bytes "d") (leaf (ranges integers (range 9 2_147_483_651 2_147_483_651 ∷ []))) no_more))) (datum 0 None (member (bytes "d") (word 3 (bytes "9")) (member (bytes "a") (block (datum 11 (Some (bytes "C")) (member (bytes "b") (word 14 (bytes "9")) Data.no_more))) Data.no_more))) (fails 21 3 11)
    ∷ judges (object_with 1 (bytes "A") [] (attribute_with 2 2 (bytes "a") (nested (object_with 3 (bytes "B") [] (attribute_with 4 2 (bytes "b") (leaf (ranges integers (range 5 2_147_483_649 2_147_483_649 ∷ []))) (attribute_with 6 2 (bytes "c") (leaf (ranges integers (range 7 2_147_483_650 2_147_483_650 ∷ []))) no_more)))) (attribute_with 8 2 (bytes "d") (leaf (ranges integers (range 9 2_147_483_651 2_147_483_651 ∷ []))) no_more))) (datum 0 None (member (bytes "d") (word 3 (bytes "9")) Data.no_more)) (fails 22 2 0)
    ∷ judges (object_with 1 (bytes "A") [] (attribute_with 2 2 (bytes "a") (nested (object_with 3 (bytes "B") [] (attribute_with 4 2 (bytes "b") (leaf (ranges integers (range 5 2_147_483_649 2_147_483_649 ∷ []))) (attribute_with 6 2 (bytes "c") (leaf (ranges integers (range 7 2_147_483_650 2_147_483_650 ∷ []))) no_more)))) (attribute_with 8 2 (bytes "d") (leaf (ranges integers (range 9 2_147_483_651 2_147_483_651 ∷ []))) no_more))) (datum 0 None (member (bytes "d") (word 3 (bytes "9")) (member (bytes "a") (word 8 (bytes "5")) Data.no_more))) (fails 20 3 8)
    ∷ judges (object_with 1 (bytes "A") [] (attribute_with 2 2 (bytes "a") (nested (object_with 3 (bytes "B") [] (attribute_with 4 2 (bytes "b") (leaf (ranges integers (range 5 2_147_483_649 2_147_483_649 ∷ []))) (attribute_with 6 2 (bytes "c") (leaf (ranges integers (range 7 2_147_483_650 2_147_483_650 ∷ []))) no_more)))) (attribute_with 8 2 (bytes "d") (leaf (ranges integers (range 9 2_147_483_651 2_147_483_651 ∷ []))) no_more))) (datum 0 None (member (bytes "a") (block (datum 3 None (member (bytes "b") (word 6 (bytes "1")) Data.no_more))) Data.no_more)) (fails 22 6 3)
    ∷ judges (object_with 1 (bytes "A") [] (attribute_with 2 2 (bytes "a") (nested (object_with 3 (bytes "B") [] (attribute_with 4 2 (bytes "b") (leaf (ranges integers (range 5 2_147_483_649 2_147_483_649 ∷ []))) (attribute_with 6 2 (bytes "c") (leaf (ranges integers (range 7 2_147_483_650 2_147_483_650 ∷ []))) no_more)))) (attribute_with 8 2 (bytes "d") (leaf (ranges integers (range 9 2_147_483_651 2_147_483_651 ∷ []))) no_more))) (datum 0 None (member (bytes "a") (block (datum 3 None (member (bytes "b") (word 6 (bytes "1")) (member (bytes "c") (word 11 (bytes "2")) Data.no_more)))) Data.no_more)) (fails 22 8 0)
    ∷ judges (object_with 1 (bytes "A") [] (attribute_with 2 2 (bytes "a") (nested (object_with 3 (bytes "B") [] (attribute_with 4 2 (bytes "b") (leaf (ranges integers (range 5 2_147_483_649 2_147_483_649 ∷ []))) (attribute_with 6 2 (bytes "c") (leaf (ranges integers (range 7 2_147_483_650 2_147_483_650 ∷ []))) no_more)))) (attribute_with 8 2 (bytes "d") (leaf (ranges integers (range 9 2_147_483_651 2_147_483_651 ∷ []))) no_more))) (datum 0 None (member (bytes "a") (block (datum 3 None (member (bytes "b") (word 6 (bytes "1")) (member (bytes "c") (word 11 (bytes "2")) Data.no_more)))) (member (bytes "d") (word 17 (bytes "3")) Data.no_more))) valid
    ∷ judges (object_with 1 (bytes "A") [] (attribute_with 2 0 (bytes "b") any (attribute_with 3 2 (bytes "a") any (attribute_with 4 1 (bytes "c") (nested (object_with 5 (bytes "B") [] (attribute_with 6 2 (bytes "a") any no_more))) no_more)))) (datum 0 None (member (bytes "a") (block (datum 3 None Data.no_more)) (member (bytes "b") (block (datum 7 None Data.no_more)) Data.no_more))) (fails 23 2 7)
    ∷ judges (object_with 1 (bytes "A") [] (attribute_with 2 0 (bytes "b") any (attribute_with 3 2 (bytes "a") any (attribute_with 4 1 (bytes "c") (nested (object_with 5 (bytes "B") [] (attribute_with 6 2 (bytes "a") any no_more))) no_more)))) (datum 0 None (member (bytes "c") (block (datum 3 None Data.no_more)) Data.no_more)) (fails 22 3 0)
    ∷ judges (object_with 1 (bytes "A") [] (attribute_with 2 0 (bytes "b") any (attribute_with 3 2 (bytes "a") any (attribute_with 4 1 (bytes "c") (nested (object_with 5 (bytes "B") [] (attribute_with 6 2 (bytes "a") any no_more))) no_more)))) (datum 0 None (member (bytes "a") (block (datum 3 None Data.no_more)) (member (bytes "c") (block (datum 7 None Data.no_more)) Data.no_more))) (fails 22 6 7)
    ∷ judges (object_with 1 (bytes "A") [] (attribute_with 2 0 (bytes "b") any (attribute_with 3 2 (bytes "a") any (attribute_with 4 1 (bytes "c") (nested (object_with 5 (bytes "B") [] (attribute_with 6 2 (bytes "a") any no_more))) no_more)))) (datum 0 None (member (bytes "c") (block (datum 3 None (member (bytes "a") (block (datum 6 None Data.no_more)) Data.no_more))) (member (bytes "a") (block (datum 11 None Data.no_more)) Data.no_more))) valid
    ∷ judges (object_with 1 (bytes "A") [] (attribute_with 2 0 (bytes "b") any (attribute_with 3 2 (bytes "a") any (attribute_with 4 1 (bytes "c") (nested (object_with 5 (bytes "B") [] (attribute_with 6 2 (bytes "a") any no_more))) no_more)))) (datum 0 None (member (bytes "c") (block (datum 6 (Some (bytes "A")) Data.no_more)) (member (bytes "a") (block (datum 10 None Data.no_more)) Data.no_more))) (fails 21 5 6)
    ∷ judges (object_with 1 (bytes "A") [] (attribute_with 2 0 (bytes "b") any (attribute_with 3 2 (bytes "a") any (attribute_with 4 1 (bytes "c") (nested (object_with 5 (bytes "B") [] (attribute_with 6 2 (bytes "a") any no_more))) no_more)))) (datum 0 None (member (bytes "c") (word 3 (bytes "5")) (member (bytes "a") (block (datum 8 None Data.no_more)) Data.no_more))) (fails 20 5 3)
    ∷ judges (object_with 1 (bytes "A") [] (attribute_with 2 0 (bytes "b") any (attribute_with 3 2 (bytes "a") any (attribute_with 4 1 (bytes "c") (nested (object_with 5 (bytes "B") [] (attribute_with 6 2 (bytes "a") any no_more))) no_more)))) (datum 0 None (member (bytes "c") (word 3 (bytes "5")) (member (bytes "b") (word 8 (bytes "5")) (member (bytes "a") (word 13 (bytes "5")) Data.no_more)))) (fails 23 2 8)
    -- several objects, their records numbered in text order
    ∷ judges (object_with 1 (bytes "A") (bytes "at1") (attribute_with 2 2 (bytes "a") (nested (object_with 3 (bytes "B") (bytes "at2") (attribute_with 4 2 (bytes "b") (leaf (ranges integers (range 5 2_147_483_649 2_147_483_649 ∷ range 6 2_147_483_650 2_147_483_650 ∷ []))) (attribute_with 7 2 (bytes "c") (leaf (texts (item 8 (bytes "x") ∷ item 9 (bytes "y") ∷ []))) no_more)))) (attribute_with 10 2 (bytes "d") (nested (object_with 11 (bytes "C") [] (attribute_with 12 2 (bytes "e") (leaf (single booleans 13 1)) (attribute_with 14 2 (bytes "f") (leaf (ranges dates (range 15 20_040_101 20_040_101 ∷ []))) no_more)))) (attribute_with 16 2 (bytes "g") (leaf (single time_pattern 17 1)) no_more)))) (datum 0 None (member (bytes "a") (block (datum 3 None (member (bytes "b") (word 6 (bytes "1")) (member (bytes "c") (string 11 (bytes "x")) Data.no_more)))) (member (bytes "d") (block (datum 19 None (member (bytes "e") (word 22 (bytes "True")) (member (bytes "f") (word 30 (bytes "2004-01-01")) Data.no_more)))) (member (bytes "g") (word 45 (bytes "10:30:00")) Data.no_more)))) valid
    ∷ judges (object_with 1 (bytes "A") (bytes "at1") (attribute_with 2 2 (bytes "a") (nested (object_with 3 (bytes "B") (bytes "at2") (attribute_with 4 2 (bytes "b") (leaf (ranges integers (range 5 2_147_483_649 2_147_483_649 ∷ range 6 2_147_483_650 2_147_483_650 ∷ []))) (attribute_with 7 2 (bytes "c") (leaf (texts (item 8 (bytes "x") ∷ item 9 (bytes "y") ∷ []))) no_more)))) (attribute_with 10 2 (bytes "d") (nested (object_with 11 (bytes "C") [] (attribute_with 12 2 (bytes "e") (leaf (single booleans 13 1)) (attribute_with 14 2 (bytes "f") (leaf (ranges dates (range 15 20_040_101 20_040_101 ∷ []))) no_more)))) (attribute_with 16 2 (bytes "g") (leaf (single time_pattern 17 1)) no_more)))) (datum 0 None (member (bytes "a") (block (datum 3 None (member (bytes "b") (word 6 (bytes "3")) (member (bytes "c") (string 11 (bytes "x")) Data.no_more)))) (member (bytes "d") (block (datum 19 None (member (bytes "e") (word 22 (bytes "True")) (member (bytes "f") (word 30 (bytes "2004-01-01")) Data.no_more)))) (member (bytes "g") (word 45 (bytes "10:30:00")) Data.no_more)))) (fails 24 5 6)
    ∷ judges (object_with 1 (bytes "A") (bytes "at1") (attribute_with 2 2 (bytes "a") (nested (object_with 3 (bytes "B") (bytes "at2") (attribute_with 4 2 (bytes "b") (leaf (ranges integers (range 5 2_147_483_649 2_147_483_649 ∷ range 6 2_147_483_650 2_147_483_650 ∷ []))) (attribute_with 7 2 (bytes "c") (leaf (texts (item 8 (bytes "x") ∷ item 9 (bytes "y") ∷ []))) no_more)))) (attribute_with 10 2 (bytes "d") (nested (object_with 11 (bytes "C") [] (attribute_with 12 2 (bytes "e") (leaf (single booleans 13 1)) (attribute_with 14 2 (bytes "f") (leaf (ranges dates (range 15 20_040_101 20_040_101 ∷ []))) no_more)))) (attribute_with 16 2 (bytes "g") (leaf (single time_pattern 17 1)) no_more)))) (datum 0 None (member (bytes "a") (block (datum 3 None (member (bytes "b") (word 6 (bytes "2")) (member (bytes "c") (string 11 (bytes "z")) Data.no_more)))) (member (bytes "d") (block (datum 19 None (member (bytes "e") (word 22 (bytes "True")) (member (bytes "f") (word 30 (bytes "2004-01-01")) Data.no_more)))) (member (bytes "g") (word 45 (bytes "10:30:00")) Data.no_more)))) (fails 24 8 11)
    ∷ judges (object_with 1 (bytes "A") (bytes "at1") (attribute_with 2 2 (bytes "a") (nested (object_with 3 (bytes "B") (bytes "at2") (attribute_with 4 2 (bytes "b") (leaf (ranges integers (range 5 2_147_483_649 2_147_483_649 ∷ range 6 2_147_483_650 2_147_483_650 ∷ []))) (attribute_with 7 2 (bytes "c") (leaf (texts (item 8 (bytes "x") ∷ item 9 (bytes "y") ∷ []))) no_more)))) (attribute_with 10 2 (bytes "d") (nested (object_with 11 (bytes "C") [] (attribute_with 12 2 (bytes "e") (leaf (single booleans 13 1)) (attribute_with 14 2 (bytes "f") (leaf (ranges dates (range 15 20_040_101 20_040_101 ∷ []))) no_more)))) (attribute_with 16 2 (bytes "g") (leaf (single time_pattern 17 1)) no_more)))) (datum 0 None (member (bytes "a") (block (datum 3 None (member (bytes "b") (word 6 (bytes "2")) (member (bytes "c") (string 11 (bytes "y")) Data.no_more)))) (member (bytes "d") (block (datum 19 None (member (bytes "e") (word 22 (bytes "False")) (member (bytes "f") (word 31 (bytes "2004-01-01")) Data.no_more)))) (member (bytes "g") (word 46 (bytes "10:30:00")) Data.no_more)))) (fails 24 13 22)
    ∷ judges (object_with 1 (bytes "A") (bytes "at1") (attribute_with 2 2 (bytes "a") (nested (object_with 3 (bytes "B") (bytes "at2") (attribute_with 4 2 (bytes "b") (leaf (ranges integers (range 5 2_147_483_649 2_147_483_649 ∷ range 6 2_147_483_650 2_147_483_650 ∷ []))) (attribute_with 7 2 (bytes "c") (leaf (texts (item 8 (bytes "x") ∷ item 9 (bytes "y") ∷ []))) no_more)))) (attribute_with 10 2 (bytes "d") (nested (object_with 11 (bytes "C") [] (attribute_with 12 2 (bytes "e") (leaf (single booleans 13 1)) (attribute_with 14 2 (bytes "f") (leaf (ranges dates (range 15 20_040_101 20_040_101 ∷ []))) no_more)))) (attribute_with 16 2 (bytes "g") (leaf (single time_pattern 17 1)) no_more)))) (datum 0 None (member (bytes "a") (block (datum 3 None (member (bytes "b") (word 6 (bytes "2")) (member (bytes "c") (string 11 (bytes "y")) Data.no_more)))) (member (bytes "d") (block (datum 19 None (member (bytes "e") (word 22 (bytes "True")) (member (bytes "f") (word 30 (bytes "2004")) Data.no_more)))) (member (bytes "g") (word 39 (bytes "10:30:00")) Data.no_more)))) (fails 24 15 30)
    ∷ judges (object_with 1 (bytes "A") (bytes "at1") (attribute_with 2 2 (bytes "a") (nested (object_with 3 (bytes "B") (bytes "at2") (attribute_with 4 2 (bytes "b") (leaf (ranges integers (range 5 2_147_483_649 2_147_483_649 ∷ range 6 2_147_483_650 2_147_483_650 ∷ []))) (attribute_with 7 2 (bytes "c") (leaf (texts (item 8 (bytes "x") ∷ item 9 (bytes "y") ∷ []))) no_more)))) (attribute_with 10 2 (bytes "d") (nested (object_with 11 (bytes "C") [] (attribute_with 12 2 (bytes "e") (leaf (single booleans 13 1)) (attribute_with 14 2 (bytes "f") (leaf (ranges dates (range 15 20_040_101 20_040_101 ∷ []))) no_more)))) (attribute_with 16 2 (bytes "g") (leaf (single time_pattern 17 1)) no_more)))) (datum 0 None (member (bytes "a") (block (datum 3 None (member (bytes "b") (word 6 (bytes "2")) (member (bytes "c") (string 11 (bytes "y")) Data.no_more)))) (member (bytes "d") (block (datum 19 None (member (bytes "e") (word 22 (bytes "True")) (member (bytes "f") (word 30 (bytes "2004-01-01")) Data.no_more)))) (member (bytes "g") (word 45 (bytes "10:30")) Data.no_more)))) (fails 24 17 45)
    ∷ judges (object_with 1 (bytes "A") (bytes "at1") (attribute_with 2 2 (bytes "a") (nested (object_with 3 (bytes "B") (bytes "at2") (attribute_with 4 2 (bytes "b") (leaf (ranges integers (range 5 2_147_483_649 2_147_483_649 ∷ range 6 2_147_483_650 2_147_483_650 ∷ []))) (attribute_with 7 2 (bytes "c") (leaf (texts (item 8 (bytes "x") ∷ item 9 (bytes "y") ∷ []))) no_more)))) (attribute_with 10 2 (bytes "d") (nested (object_with 11 (bytes "C") [] (attribute_with 12 2 (bytes "e") (leaf (single booleans 13 1)) (attribute_with 14 2 (bytes "f") (leaf (ranges dates (range 15 20_040_101 20_040_101 ∷ []))) no_more)))) (attribute_with 16 2 (bytes "g") (leaf (single time_pattern 17 1)) no_more)))) (datum 0 None (member (bytes "a") (block (datum 3 None (member (bytes "b") (word 6 (bytes "2")) (member (bytes "c") (string 11 (bytes "y")) Data.no_more)))) (member (bytes "d") (block (datum 19 None (member (bytes "e") (word 22 (bytes "True")) (member (bytes "f") (word 30 (bytes "2004-01-01")) Data.no_more)))) (member (bytes "g") (word 45 (bytes "5")) Data.no_more)))) (fails 20 17 45)
    ∷ judges (object_with 1 (bytes "A") (bytes "at1") (attribute_with 2 2 (bytes "a") (nested (object_with 3 (bytes "B") (bytes "at2") (attribute_with 4 2 (bytes "b") (leaf (ranges integers (range 5 2_147_483_649 2_147_483_649 ∷ range 6 2_147_483_650 2_147_483_650 ∷ []))) (attribute_with 7 2 (bytes "c") (leaf (texts (item 8 (bytes "x") ∷ item 9 (bytes "y") ∷ []))) no_more)))) (attribute_with 10 2 (bytes "d") (nested (object_with 11 (bytes "C") [] (attribute_with 12 2 (bytes "e") (leaf (single booleans 13 1)) (attribute_with 14 2 (bytes "f") (leaf (ranges dates (range 15 20_040_101 20_040_101 ∷ []))) no_more)))) (attribute_with 16 2 (bytes "g") (leaf (single time_pattern 17 1)) no_more)))) (datum 0 None (member (bytes "a") (block (datum 3 None (member (bytes "b") (word 6 (bytes "2")) (member (bytes "c") (string 11 (bytes "y")) Data.no_more)))) (member (bytes "d") (block (datum 22 (Some (bytes "B")) (member (bytes "e") (word 25 (bytes "True")) (member (bytes "f") (word 33 (bytes "2004-01-01")) Data.no_more)))) Data.no_more))) (fails 21 11 22)
    ∷ judges (object_with 1 (bytes "A") (bytes "at1") (attribute_with 2 2 (bytes "a") (nested (object_with 3 (bytes "B") (bytes "at2") (attribute_with 4 2 (bytes "b") (leaf (ranges integers (range 5 2_147_483_649 2_147_483_649 ∷ range 6 2_147_483_650 2_147_483_650 ∷ []))) (attribute_with 7 2 (bytes "c") (leaf (texts (item 8 (bytes "x") ∷ item 9 (bytes "y") ∷ []))) no_more)))) (attribute_with 10 2 (bytes "d") (nested (object_with 11 (bytes "C") [] (attribute_with 12 2 (bytes "e") (leaf (single booleans 13 1)) (attribute_with 14 2 (bytes "f") (leaf (ranges dates (range 15 20_040_101 20_040_101 ∷ []))) no_more)))) (attribute_with 16 2 (bytes "g") (leaf (single time_pattern 17 1)) no_more)))) (datum 0 None (member (bytes "a") (block (datum 3 None (member (bytes "b") (word 6 (bytes "2")) (member (bytes "c") (string 11 (bytes "y")) Data.no_more)))) (member (bytes "d") (block (datum 19 None (member (bytes "e") (word 22 (bytes "True")) Data.no_more))) Data.no_more))) (fails 22 14 19)
    ∷ judges (object_with 1 (bytes "A") (bytes "at1") (attribute_with 2 2 (bytes "a") (nested (object_with 3 (bytes "B") (bytes "at2") (attribute_with 4 2 (bytes "b") (leaf (ranges integers (range 5 2_147_483_649 2_147_483_649 ∷ range 6 2_147_483_650 2_147_483_650 ∷ []))) (attribute_with 7 2 (bytes "c") (leaf (texts (item 8 (bytes "x") ∷ item 9 (bytes "y") ∷ []))) no_more)))) (attribute_with 10 2 (bytes "d") (nested (object_with 11 (bytes "C") [] (attribute_with 12 2 (bytes "e") (leaf (single booleans 13 1)) (attribute_with 14 2 (bytes "f") (leaf (ranges dates (range 15 20_040_101 20_040_101 ∷ []))) no_more)))) (attribute_with 16 2 (bytes "g") (leaf (single time_pattern 17 1)) no_more)))) (datum 3 (Some (bytes "A")) (member (bytes "a") (block (datum 9 (Some (bytes "B")) (member (bytes "b") (word 12 (bytes "2")) (member (bytes "c") (string 17 (bytes "y")) Data.no_more)))) (member (bytes "d") (block (datum 28 (Some (bytes "C")) (member (bytes "f") (word 31 (bytes "2004-01-01")) (member (bytes "e") (word 45 (bytes "True")) Data.no_more)))) Data.no_more))) (fails 22 16 3)
    ∷ judges (object_with 1 (bytes "A") [] (attribute_with 2 2 (bytes "a") (nested (object_with 3 (bytes "A") [] no_more)) (attribute_with 4 2 (bytes "b") (nested (object_with 5 (bytes "A") [] no_more)) no_more))) (datum 0 None (member (bytes "a") (block (datum 6 (Some (bytes "A")) Data.no_more)) (member (bytes "b") (block (datum 13 (Some (bytes "A")) Data.no_more)) Data.no_more))) valid
    ∷ judges (object_with 1 (bytes "A") [] (attribute_with 2 2 (bytes "a") (nested (object_with 3 (bytes "A") [] no_more)) (attribute_with 4 2 (bytes "b") (nested (object_with 5 (bytes "A") [] no_more)) no_more))) (datum 0 None (member (bytes "b") (block (datum 6 (Some (bytes "A")) Data.no_more)) (member (bytes "a") (block (datum 13 (Some (bytes "B")) Data.no_more)) Data.no_more))) (fails 21 3 13)
    ∷ judges (object_with 1 (bytes "A") [] (attribute_with 2 2 (bytes "a") (nested (object_with 3 (bytes "A") [] no_more)) (attribute_with 4 2 (bytes "b") (nested (object_with 5 (bytes "A") [] no_more)) no_more))) (datum 0 None (member (bytes "a") (block (datum 6 (Some (bytes "A")) Data.no_more)) (member (bytes "b") (block (datum 13 (Some (bytes "B")) Data.no_more)) Data.no_more))) (fails 21 5 13)
    -- objects and blocks inside each other
    ∷ judges (object_with 1 (bytes "A") [] (attribute_with 2 2 (bytes "a") (nested (object_with 3 (bytes "A") [] (attribute_with 4 2 (bytes "b") (leaf (ranges integers (range 5 2_147_483_653 2_147_483_653 ∷ []))) no_more))) no_more)) (datum 0 None (member (bytes "a") (block (datum 3 None (member (bytes "b") (word 6 (bytes "5")) Data.no_more))) Data.no_more)) valid
    ∷ judges (object_with 1 (bytes "A") [] (attribute_with 2 2 (bytes "a") (nested (object_with 3 (bytes "A") [] (attribute_with 4 2 (bytes "a") (nested (object_with 5 (bytes "A") [] (attribute_with 6 2 (bytes "b") (leaf (ranges integers (range 7 2_147_483_653 2_147_483_653 ∷ []))) no_more))) no_more))) no_more)) (datum 0 None (member (bytes "a") (block (datum 3 None (member (bytes "a") (block (datum 6 None (member (bytes "b") (word 9 (bytes "6")) Data.no_more))) Data.no_more))) Data.no_more)) (fails 24 7 9)
    ∷ judges (object_with 1 (bytes "A") [] (attribute_with 2 2 (bytes "a") (nested (object_with 3 (bytes "A") [] (attribute_with 4 2 (bytes "a") (nested (object_with 5 (bytes "A") [] (attribute_with 6 2 (bytes "a") (nested (object_with 7 (bytes "A") [] (attribute_with 8 2 (bytes "b") (leaf (ranges integers (range 9 2_147_483_653 2_147_483_653 ∷ []))) no_more))) no_more))) no_more))) no_more)) (datum 0 None (member (bytes "a") (block (datum 3 None (member (bytes "a") (block (datum 6 None (member (bytes "a") (block (datum 9 None Data.no_more)) Data.no_more))) Data.no_more))) Data.no_more)) (fails 22 8 9)
    ∷ judges (object_with 1 (bytes "A") [] (attribute_with 2 2 (bytes "a") (nested (object_with 3 (bytes "A") [] (attribute_with 4 2 (bytes "a") (nested (object_with 5 (bytes "A") [] (attribute_with 6 2 (bytes "a") (nested (object_with 7 (bytes "A") [] (attribute_with 8 2 (bytes "b") (leaf (ranges integers (range 9 2_147_483_653 2_147_483_653 ∷ []))) no_more))) no_more))) no_more))) no_more)) (datum 0 None (member (bytes "a") (block (datum 3 None (member (bytes "a") (block (datum 6 None Data.no_more)) Data.no_more))) Data.no_more)) (fails 22 6 6)
    ∷ judges (object_with 1 (bytes "A") [] (attribute_with 2 2 (bytes "a") (nested (object_with 3 (bytes "A") [] (attribute_with 4 2 (bytes "a") (nested (object_with 5 (bytes "A") [] (attribute_with 6 2 (bytes "a") (nested (object_with 7 (bytes "A") [] (attribute_with 8 2 (bytes "b") (leaf (ranges integers (range 9 2_147_483_653 2_147_483_653 ∷ []))) no_more))) no_more))) no_more))) no_more)) (datum 0 None (member (bytes "a") (block (datum 3 None (member (bytes "a") (block (datum 6 None (member (bytes "a") (word 9 (bytes "5")) Data.no_more))) Data.no_more))) Data.no_more)) (fails 20 7 9)
    ∷ judges (object_with 1 (bytes "A") [] (attribute_with 2 2 (bytes "a") (nested (object_with 3 (bytes "A") [] (attribute_with 4 2 (bytes "a") (nested (object_with 5 (bytes "A") [] no_more)) no_more))) no_more)) (datum 0 None (member (bytes "a") (block (datum 3 None (member (bytes "a") (block (datum 6 None (member (bytes "a") (block (datum 9 None (member (bytes "a") (block (datum 12 None (member (bytes "a") (word 15 (bytes "5")) Data.no_more))) Data.no_more))) Data.no_more))) Data.no_more))) Data.no_more)) valid
    ∷ judges (object_with 1 (bytes "A") [] (attribute_with 2 2 (bytes "a") (nested (object_with 3 (bytes "A") [] (attribute_with 4 2 (bytes "a") (nested (object_with 5 (bytes "A") [] (attribute_with 6 2 (bytes "a") (nested (object_with 7 (bytes "A") [] (attribute_with 8 2 (bytes "a") (nested (object_with 9 (bytes "A") [] (attribute_with 10 2 (bytes "a") (nested (object_with 11 (bytes "A") [] (attribute_with 12 2 (bytes "a") (nested (object_with 13 (bytes "A") [] (attribute_with 14 2 (bytes "a") (nested (object_with 15 (bytes "A") [] (attribute_with 16 2 (bytes "a") (nested (object_with 17 (bytes "A") [] (attribute_with 18 2 (bytes "a") (nested (object_with 19 (bytes "A") [] (attribute_with 20 2 (bytes "a") (nested (object_with 21 (bytes "A") [] (attribute_with 22 2 (bytes "a") (nested (object_with 23 (bytes "A") [] (attribute_with 24 2 (bytes "a") (nested (object_with 25 (bytes "A") [] (attribute_with 26 2 (bytes "a") (nested (object_with 27 (bytes "A") [] (attribute_with 28 2 (bytes "a") (nested (object_with 29 (bytes "A") [] (attribute_with 30 2 (bytes "a") (nested (object_with 31 (bytes "A") [] (attribute_with 32 2 (bytes "b") (leaf (ranges integers (range 33 2_147_483_653 2_147_483_653 ∷ []))) no_more))) no_more))) no_more))) no_more))) no_more))) no_more))) no_more))) no_more))) no_more))) no_more))) no_more))) no_more))) no_more))) no_more))) no_more))) no_more)) (datum 0 None (member (bytes "a") (block (datum 3 None (member (bytes "a") (block (datum 6 None (member (bytes "a") (block (datum 9 None (member (bytes "a") (block (datum 12 None (member (bytes "a") (block (datum 15 None (member (bytes "a") (block (datum 18 None (member (bytes "a") (block (datum 21 None (member (bytes "a") (block (datum 24 None (member (bytes "a") (block (datum 27 None (member (bytes "a") (block (datum 30 None (member (bytes "a") (block (datum 33 None (member (bytes "a") (block (datum 36 None (member (bytes "a") (block (datum 39 None (member (bytes "a") (block (datum 42 None (member (bytes "a") (block (datum 45 None (member (bytes "b") (word 48 (bytes "5")) Data.no_more))) Data.no_more))) Data.no_more))) Data.no_more))) Data.no_more))) Data.no_more))) Data.no_more))) Data.no_more))) Data.no_more))) Data.no_more))) Data.no_more))) Data.no_more))) Data.no_more))) Data.no_more))) Data.no_more))) Data.no_more)) valid
    ∷ judges (object_with 1 (bytes "A") [] (attribute_with 2 2 (bytes "a") (nested (object_with 3 (bytes "A") [] (attribute_with 4 2 (bytes "a") (nested (object_with 5 (bytes "A") [] (attribute_with 6 2 (bytes "a") (nested (object_with 7 (bytes "A") [] (attribute_with 8 2 (bytes "a") (nested (object_with 9 (bytes "A") [] (attribute_with 10 2 (bytes "a") (nested (object_with 11 (bytes "A") [] (attribute_with 12 2 (bytes "a") (nested (object_with 13 (bytes "A") [] (attribute_with 14 2 (bytes "a") (nested (object_with 15 (bytes "A") [] (attribute_with 16 2 (bytes "a") (nested (object_with 17 (bytes "A") [] (attribute_with 18 2 (bytes "a") (nested (object_with 19 (bytes "A") [] (attribute_with 20 2 (bytes "a") (nested (object_with 21 (bytes "A") [] (attribute_with 22 2 (bytes "a") (nested (object_with 23 (bytes "A") [] (attribute_with 24 2 (bytes "a") (nested (object_with 25 (bytes "A") [] (attribute_with 26 2 (bytes "a") (nested (object_with 27 (bytes "A") [] (attribute_with 28 2 (bytes "a") (nested (object_with 29 (bytes "A") [] (attribute_with 30 2 (bytes "a") (nested (object_with 31 (bytes "A") [] (attribute_with 32 2 (bytes "b") (leaf (ranges integers (range 33 2_147_483_653 2_147_483_653 ∷ []))) no_more))) no_more))) no_more))) no_more))) no_more))) no_more))) no_more))) no_more))) no_more))) no_more))) no_more))) no_more))) no_more))) no_more))) no_more))) no_more)) (datum 0 None (member (bytes "a") (block (datum 3 None (member (bytes "a") (block (datum 6 None (member (bytes "a") (block (datum 9 None (member (bytes "a") (block (datum 12 None (member (bytes "a") (block (datum 15 None (member (bytes "a") (block (datum 18 None (member (bytes "a") (block (datum 21 None (member (bytes "a") (block (datum 24 None (member (bytes "a") (block (datum 27 None (member (bytes "a") (block (datum 30 None (member (bytes "a") (block (datum 33 None (member (bytes "a") (block (datum 36 None (member (bytes "a") (block (datum 39 None (member (bytes "a") (block (datum 42 None (member (bytes "a") (block (datum 45 None (member (bytes "b") (word 48 (bytes "6")) Data.no_more))) Data.no_more))) Data.no_more))) Data.no_more))) Data.no_more))) Data.no_more))) Data.no_more))) Data.no_more))) Data.no_more))) Data.no_more))) Data.no_more))) Data.no_more))) Data.no_more))) Data.no_more))) Data.no_more))) Data.no_more)) (fails 24 33 48)
    ∷ judges (object_with 1 (bytes "A") [] (attribute_with 2 2 (bytes "a") (nested (object_with 3 (bytes "A") [] (attribute_with 4 2 (bytes "a") (nested (object_with 5 (bytes "A") [] (attribute_with 6 2 (bytes "a") (nested (object_with 7 (bytes "A") [] (attribute_with 8 2 (bytes "a") (nested (object_with 9 (bytes "A") [] (attribute_with 10 2 (bytes "a") (nested (object_with 11 (bytes "A") [] (attribute_with 12 2 (bytes "a") (nested (object_with 13 (bytes "A") [] (attribute_with 14 2 (bytes "a") (nested (object_with 15 (bytes "A") [] (attribute_with 16 2 (bytes "a") (nested (object_with 17 (bytes "A") [] (attribute_with 18 2 (bytes "a") (nested (object_with 19 (bytes "A") [] (attribute_with 20 2 (bytes "a") (nested (object_with 21 (bytes "A") [] (attribute_with 22 2 (bytes "a") (nested (object_with 23 (bytes "A") [] (attribute_with 24 2 (bytes "a") (nested (object_with 25 (bytes "A") [] (attribute_with 26 2 (bytes "a") (nested (object_with 27 (bytes "A") [] (attribute_with 28 2 (bytes "a") (nested (object_with 29 (bytes "A") [] (attribute_with 30 2 (bytes "a") (nested (object_with 31 (bytes "A") [] (attribute_with 32 2 (bytes "b") (leaf (ranges integers (range 33 2_147_483_653 2_147_483_653 ∷ []))) no_more))) no_more))) no_more))) no_more))) no_more))) no_more))) no_more))) no_more))) no_more))) no_more))) no_more))) no_more))) no_more))) no_more))) no_more))) no_more)) (datum 0 None (member (bytes "a") (block (datum 3 None (member (bytes "a") (block (datum 6 None (member (bytes "a") (block (datum 9 None (member (bytes "a") (block (datum 12 None (member (bytes "a") (block (datum 15 None (member (bytes "a") (block (datum 18 None (member (bytes "a") (block (datum 21 None (member (bytes "a") (block (datum 24 None (member (bytes "a") (block (datum 27 None (member (bytes "a") (block (datum 30 None (member (bytes "a") (block (datum 33 None (member (bytes "a") (block (datum 36 None (member (bytes "a") (block (datum 39 None (member (bytes "a") (block (datum 42 None (member (bytes "a") (block (datum 45 None (member (bytes "b") (string 48 (bytes "5")) Data.no_more))) Data.no_more))) Data.no_more))) Data.no_more))) Data.no_more))) Data.no_more))) Data.no_more))) Data.no_more))) Data.no_more))) Data.no_more))) Data.no_more))) Data.no_more))) Data.no_more))) Data.no_more))) Data.no_more))) Data.no_more)) (fails 20 33 48)
    ∷ judges (object_with 1 (bytes "A") [] (attribute_with 2 2 (bytes "a") (nested (object_with 3 (bytes "A") [] (attribute_with 4 2 (bytes "a") (nested (object_with 5 (bytes "A") [] (attribute_with 6 2 (bytes "a") (nested (object_with 7 (bytes "A") [] (attribute_with 8 2 (bytes "a") (nested (object_with 9 (bytes "A") [] (attribute_with 10 2 (bytes "a") (nested (object_with 11 (bytes "A") [] (attribute_with 12 2 (bytes "a") (nested (object_with 13 (bytes "A") [] (attribute_with 14 2 (bytes "a") (nested (object_with 15 (bytes "A") [] (attribute_with 16 2 (bytes "a") (nested (object_with 17 (bytes "A") [] (attribute_with 18 2 (bytes "a") (nested (object_with 19 (bytes "A") [] (attribute_with 20 2 (bytes "a") (nested (object_with 21 (bytes "A") [] (attribute_with 22 2 (bytes "a") (nested (object_with 23 (bytes "A") [] (attribute_with 24 2 (bytes "a") (nested (object_with 25 (bytes "A") [] (attribute_with 26 2 (bytes "a") (nested (object_with 27 (bytes "A") [] (attribute_with 28 2 (bytes "a") (nested (object_with 29 (bytes "A") [] (attribute_with 30 2 (bytes "a") (nested (object_with 31 (bytes "A") [] (attribute_with 32 2 (bytes "b") (leaf (ranges integers (range 33 2_147_483_653 2_147_483_653 ∷ []))) no_more))) no_more))) no_more))) no_more))) no_more))) no_more))) no_more))) no_more))) no_more))) no_more))) no_more))) no_more))) no_more))) no_more))) no_more))) no_more)) (datum 0 None (member (bytes "a") (block (datum 3 None (member (bytes "a") (block (datum 6 None (member (bytes "a") (block (datum 9 None (member (bytes "a") (block (datum 12 None (member (bytes "a") (block (datum 15 None (member (bytes "a") (block (datum 18 None (member (bytes "a") (block (datum 21 None (member (bytes "a") (block (datum 24 None (member (bytes "a") (block (datum 27 None (member (bytes "a") (block (datum 30 None (member (bytes "a") (block (datum 33 None (member (bytes "a") (block (datum 36 None (member (bytes "a") (block (datum 39 None (member (bytes "a") (block (datum 42 None (member (bytes "a") (block (datum 48 (Some (bytes "B")) (member (bytes "b") (word 51 (bytes "5")) Data.no_more))) Data.no_more))) Data.no_more))) Data.no_more))) Data.no_more))) Data.no_more))) Data.no_more))) Data.no_more))) Data.no_more))) Data.no_more))) Data.no_more))) Data.no_more))) Data.no_more))) Data.no_more))) Data.no_more))) Data.no_more)) (fails 21 31 48)
    ∷ judges (object_with 1 (bytes "A") [] (attribute_with 2 2 (bytes "a") (nested (object_with 3 (bytes "A") [] (attribute_with 4 2 (bytes "a") (nested (object_with 5 (bytes "A") [] (attribute_with 6 2 (bytes "a") (nested (object_with 7 (bytes "A") [] (attribute_with 8 2 (bytes "a") (nested (object_with 9 (bytes "A") [] (attribute_with 10 2 (bytes "a") (nested (object_with 11 (bytes "A") [] (attribute_with 12 2 (bytes "a") (nested (object_with 13 (bytes "A") [] (attribute_with 14 2 (bytes "a") (nested (object_with 15 (bytes "A") [] (attribute_with 16 2 (bytes "a") (nested (object_with 17 (bytes "A") [] (attribute_with 18 2 (bytes "a") (nested (object_with 19 (bytes "A") [] (attribute_with 20 2 (bytes "a") (nested (object_with 21 (bytes "A") [] (attribute_with 22 2 (bytes "a") (nested (object_with 23 (bytes "A") [] (attribute_with 24 2 (bytes "a") (nested (object_with 25 (bytes "A") [] (attribute_with 26 2 (bytes "a") (nested (object_with 27 (bytes "A") [] (attribute_with 28 2 (bytes "a") (nested (object_with 29 (bytes "A") [] (attribute_with 30 2 (bytes "a") (nested (object_with 31 (bytes "A") [] (attribute_with 32 2 (bytes "b") (leaf (single duration_pattern 33 8)) no_more))) no_more))) no_more))) no_more))) no_more))) no_more))) no_more))) no_more))) no_more))) no_more))) no_more))) no_more))) no_more))) no_more))) no_more))) no_more)) (datum 0 None (member (bytes "a") (block (datum 3 None (member (bytes "a") (block (datum 6 None (member (bytes "a") (block (datum 9 None (member (bytes "a") (block (datum 12 None (member (bytes "a") (block (datum 15 None (member (bytes "a") (block (datum 18 None (member (bytes "a") (block (datum 21 None (member (bytes "a") (block (datum 24 None (member (bytes "a") (block (datum 27 None (member (bytes "a") (block (datum 30 None (member (bytes "a") (block (datum 33 None (member (bytes "a") (block (datum 36 None (member (bytes "a") (block (datum 39 None (member (bytes "a") (block (datum 42 None (member (bytes "a") (block (datum 45 None (member (bytes "b") (word 48 (bytes "P5d")) Data.no_more))) Data.no_more))) Data.no_more))) Data.no_more))) Data.no_more))) Data.no_more))) Data.no_more))) Data.no_more))) Data.no_more))) Data.no_more))) Data.no_more))) Data.no_more))) Data.no_more))) Data.no_more))) Data.no_more))) Data.no_more)) valid
    ∷ judges (object_with 1 (bytes "A") [] (attribute_with 2 2 (bytes "a") (nested (object_with 3 (bytes "A") [] (attribute_with 4 2 (bytes "a") (nested (object_with 5 (bytes "A") [] (attribute_with 6 2 (bytes "a") (nested (object_with 7 (bytes "A") [] (attribute_with 8 2 (bytes "a") (nested (object_with 9 (bytes "A") [] (attribute_with 10 2 (bytes "a") (nested (object_with 11 (bytes "A") [] (attribute_with 12 2 (bytes "a") (nested (object_with 13 (bytes "A") [] (attribute_with 14 2 (bytes "a") (nested (object_with 15 (bytes "A") [] (attribute_with 16 2 (bytes "a") (nested (object_with 17 (bytes "A") [] (attribute_with 18 2 (bytes "a") (nested (object_with 19 (bytes "A") [] (attribute_with 20 2 (bytes "a") (nested (object_with 21 (bytes "A") [] (attribute_with 22 2 (bytes "a") (nested (object_with 23 (bytes "A") [] (attribute_with 24 2 (bytes "a") (nested (object_with 25 (bytes "A") [] (attribute_with 26 2 (bytes "a") (nested (object_with 27 (bytes "A") [] (attribute_with 28 2 (bytes "a") (nested (object_with 29 (bytes "A") [] (attribute_with 30 2 (bytes "a") (nested (object_with 31 (bytes "A") [] (attribute_with 32 2 (bytes "b") (leaf (single duration_pattern 33 8)) no_more))) no_more))) no_more))) no_more))) no_more))) no_more))) no_more))) no_more))) no_more))) no_more))) no_more))) no_more))) no_more))) no_more))) no_more))) no_more)) (datum 0 None (member (bytes "a") (block (datum 3 None (member (bytes "a") (block (datum 6 None (member (bytes "a") (block (datum 9 None (member (bytes "a") (block (datum 12 None (member (bytes "a") (block (datum 15 None (member (bytes "a") (block (datum 18 None (member (bytes "a") (block (datum 21 None (member (bytes "a") (block (datum 24 None (member (bytes "a") (block (datum 27 None (member (bytes "a") (block (datum 30 None (member (bytes "a") (block (datum 33 None (member (bytes "a") (block (datum 36 None (member (bytes "a") (block (datum 39 None (member (bytes "a") (block (datum 42 None (member (bytes "a") (block (datum 45 None (member (bytes "b") (word 48 (bytes "P5w")) Data.no_more))) Data.no_more))) Data.no_more))) Data.no_more))) Data.no_more))) Data.no_more))) Data.no_more))) Data.no_more))) Data.no_more))) Data.no_more))) Data.no_more))) Data.no_more))) Data.no_more))) Data.no_more))) Data.no_more))) Data.no_more)) (fails 24 33 48)
    ∷ judges (object_with 1 (bytes "A") [] (attribute_with 2 2 (bytes "a") (nested (object_with 3 (bytes "A") [] (attribute_with 4 2 (bytes "a") (nested (object_with 5 (bytes "A") [] (attribute_with 6 2 (bytes "a") (nested (object_with 7 (bytes "A") [] (attribute_with 8 2 (bytes "a") (nested (object_with 9 (bytes "A") [] (attribute_with 10 2 (bytes "a") (nested (object_with 11 (bytes "A") [] (attribute_with 12 2 (bytes "a") (nested (object_with 13 (bytes "A") [] (attribute_with 14 2 (bytes "a") (nested (object_with 15 (bytes "A") [] (attribute_with 16 2 (bytes "a") (nested (object_with 17 (bytes "A") [] (attribute_with 18 2 (bytes "a") (nested (object_with 19 (bytes "A") [] (attribute_with 20 2 (bytes "a") (nested (object_with 21 (bytes "A") [] (attribute_with 22 2 (bytes "a") (nested (object_with 23 (bytes "A") [] (attribute_with 24 2 (bytes "a") (nested (object_with 25 (bytes "A") [] (attribute_with 26 2 (bytes "a") (nested (object_with 27 (bytes "A") [] (attribute_with 28 2 (bytes "a") (nested (object_with 29 (bytes "A") [] (attribute_with 30 2 (bytes "a") (nested (object_with 31 (bytes "A") [] (attribute_with 32 2 (bytes "b") (leaf (single duration_pattern 33 8)) no_more))) no_more))) no_more))) no_more))) no_more))) no_more))) no_more))) no_more))) no_more))) no_more))) no_more))) no_more))) no_more))) no_more))) no_more))) no_more)) (datum 0 None (member (bytes "a") (block (datum 3 None (member (bytes "a") (block (datum 6 None (member (bytes "a") (block (datum 9 None (member (bytes "a") (block (datum 12 None (member (bytes "a") (block (datum 15 None (member (bytes "a") (block (datum 18 None (member (bytes "a") (block (datum 21 None (member (bytes "a") (block (datum 24 None (member (bytes "a") (block (datum 27 None (member (bytes "a") (block (datum 30 None (member (bytes "a") (block (datum 33 None (member (bytes "a") (block (datum 36 None (member (bytes "a") (block (datum 39 None (member (bytes "a") (block (datum 42 None (member (bytes "a") (block (datum 45 None (member (bytes "b") (word 48 (bytes "5")) Data.no_more))) Data.no_more))) Data.no_more))) Data.no_more))) Data.no_more))) Data.no_more))) Data.no_more))) Data.no_more))) Data.no_more))) Data.no_more))) Data.no_more))) Data.no_more))) Data.no_more))) Data.no_more))) Data.no_more))) Data.no_more)) (fails 20 33 48)
    ∷ []

pub none_wrong : wrong right 0 cases ≡ []
unfolding wrong right cases meaning_computes
none_wrong = refl
