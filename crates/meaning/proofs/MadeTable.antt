-- Short texts from a generator with a fixed seed, and data for each. The expectations are the second implementation's.
-- This file is written by `example_tables write` of second/. Assumes nothing.
use mathlib.Core.Path.{◌≡◌, refl}
use Rattle.std.specs.Prelude.{None, Some}
use mathlib.Core.List.{List, [], ◌∷◌}
use Rattle.lexis.specs.Text.{bytes}
use Rattle.lexis.proofs.Tables.{wrong}
use Rattle.meaning.specs.Constraints.{no_more, any, nested, leaf, single, ranges, texts, booleans, integers, date_pattern, dates, time_pattern, duration_pattern}
use Rattle.meaning.specs.Data.{datum, member, string, word, block}
use Rattle.meaning.specs.Data
use Rattle.meaning.specs.Verdicts.{valid, fails}
use Rattle.meaning.proofs.Computes.{meaning_computes}
use Rattle.meaning.proofs.Trees.{range, item, object_with, attribute_with}
use Rattle.meaning.proofs.Examples.{Case, judges, right}

pub cases : List Case
cases =
    -- pairs as the generator gives them, a third of them at most valid
    judges (object_with 1 (bytes "Thh") [] (attribute_with 2 0 (bytes "existence1") (leaf (single time_pattern 3 1)) (attribute_with 4 1 (bytes "abc") (nested (object_with 5 (bytes "PT") [] no_more)) no_more))) (datum 5 (Some (bytes "Thh")) (member (bytes "abc") (block (datum 14 (Some (bytes "PT")) Data.no_more)) Data.no_more)) valid
    ∷ judges (object_with 1 (bytes "Pd") [] (attribute_with 2 2 (bytes "a1") (leaf (ranges dates (range 3 101 49_451_112 ∷ []))) no_more)) (datum 15 (Some (bytes "Pd")) (member (bytes "a1") (word 22 (bytes "4377-12-09")) Data.no_more)) valid
    ∷ judges (object_with 1 (bytes "TRUE") [] (attribute_with 2 1 (bytes "yyyy") any (attribute_with 3 2 (bytes "existence1") (nested (object_with 4 (bytes "PD") [] no_more)) no_more))) (datum 0 None (member (bytes "yyyy") (block (datum 6 None Data.no_more)) (member (bytes "existence1") (block (datum 23 (Some (bytes "PD")) Data.no_more)) Data.no_more))) valid
    ∷ judges (object_with 1 (bytes "Tru") [] (attribute_with 2 1 (bytes "matche") (leaf (single duration_pattern 3 20)) (attribute_with 4 2 (bytes "value") (leaf (ranges dates (range 5 81_431_108 81_431_117 ∷ range 6 81_431_119 99_991_231 ∷ []))) no_more))) (datum 0 None (member (bytes "yyyy") (block (datum 12 (Some (bytes "TRUE")) Data.no_more)) (member (bytes "matche") (word 21 (bytes "P0005wT1H")) (member (bytes "value") (word 38 (bytes "8143-11-08")) Data.no_more)))) valid
    ∷ judges (object_with 1 (bytes "A_b") (bytes "at00000000") (attribute_with 2 1 (bytes "value") (leaf (single date_pattern 3 5)) (attribute_with 4 2 (bytes "aa") (leaf (single duration_pattern 5 64)) no_more))) (datum 5 (Some (bytes "A_b")) (member (bytes "aa") (word 9 (bytes "PT00s")) Data.no_more)) valid
    ∷ judges (object_with 1 (bytes "ELEMENT") [] (attribute_with 2 0 (bytes "a") (leaf (single date_pattern 3 3)) no_more)) (datum 0 None Data.no_more) valid
    ∷ judges (object_with 1 (bytes "PymwdThms") [] (attribute_with 2 2 (bytes "matche") (leaf (ranges dates (range 3 19_981_231 19_981_231 ∷ []))) no_more)) (datum 11 (Some (bytes "PymwdThms")) (member (bytes "b") (word 14 (bytes "-P9999y9999m9999w9999dT9999h9999m9999s")) Data.no_more)) (fails 22 2 11)
    ∷ judges (object_with 1 (bytes "FALSE") [] no_more) (datum 19 (Some (bytes "FALSE")) Data.no_more) valid
    ∷ judges (object_with 1 (bytes "C") [] (attribute_with 2 0 (bytes "a1") (leaf (single date_pattern 3 3)) (attribute_with 4 2 (bytes "mm") (leaf (single booleans 5 2)) (attribute_with 6 2 (bytes "aa") (leaf (single time_pattern 7 4)) no_more)))) (datum 3 (Some (bytes "C")) (member (bytes "mm") (word 7 (bytes "False")) (member (bytes "aa") (word 17 (bytes "23:30:00+05:30")) Data.no_more))) valid
    ∷ judges (object_with 1 (bytes "PymwdThms") (bytes "at0000.0.0.12") (attribute_with 2 2 (bytes "x9Z_") (nested (object_with 3 (bytes "A1") [] (attribute_with 4 2 (bytes "c") (leaf (texts (item 5 (bytes "a") ∷ []))) no_more))) no_more)) (datum 0 None (member (bytes "x9Z_") (block (datum 6 None (member (bytes "c") (string 9 (bytes "a")) Data.no_more))) Data.no_more)) valid
    ∷ judges (object_with 1 (bytes "P") [] (attribute_with 2 1 (bytes "x9Z_") (leaf (single booleans 3 2)) (attribute_with 4 1 (bytes "value") (leaf (single duration_pattern 5 46)) (attribute_with 6 2 (bytes "matchesx") (leaf (single time_pattern 7 1)) no_more)))) (datum 3 (Some (bytes "P")) (member (bytes "value") (word 10 (bytes "P040mT5m")) (member (bytes "matchesx") (word 29 (bytes "00:30:59-12")) Data.no_more))) valid
    ∷ judges (object_with 1 (bytes "PTm") [] (attribute_with 2 1 (bytes "mm") (leaf (ranges integers (range 3 2_147_483_648 2_147_483_648 ∷ range 4 2_147_483_650 2_147_483_680 ∷ []))) (attribute_with 5 2 (bytes "at0001") (leaf (single booleans 6 2)) (attribute_with 7 2 (bytes "b") (leaf (single date_pattern 8 4)) no_more)))) (datum 5 (Some (bytes "PTm")) (member (bytes "mm") (word 9 (bytes "0")) (member (bytes "at0001") (block (datum 22 (Some (bytes "A")) Data.no_more)) (member (bytes "b") (word 26 (bytes "3986-08")) Data.no_more)))) (fails 20 6 22)
    ∷ judges (object_with 1 (bytes "AB") [] (attribute_with 2 2 (bytes "c") (leaf (single time_pattern 3 2)) (attribute_with 4 2 (bytes "true") (leaf (single booleans 5 3)) no_more))) (datum 3 (Some (bytes "A")) (member (bytes "true") (word 9 (bytes "False")) (member (bytes "a_") (word 19 (bytes "0000")) (member (bytes "c") (word 27 (bytes "08:00+00:00")) Data.no_more)))) (fails 21 1 3)
    ∷ judges (object_with 1 (bytes "Pwd") [] no_more) (datum 0 None Data.no_more) valid
    ∷ judges (object_with 1 (bytes "Falsey") [] (attribute_with 2 2 (bytes "mm") (leaf (texts (item 3 (bytes " ") ∷ item 4 (bytes "a b") ∷ item 5 (bytes "a") ∷ []))) (attribute_with 6 2 (bytes "x9Z_") (leaf (texts (item 7 (bytes "A") ∷ item 8 (bytes "a") ∷ item 9 (bytes "~!#'()[]<>") ∷ []))) no_more))) (datum 1 None (member (bytes "mm") (string 18 (bytes "a")) (member (bytes "x9Z_") (string 39 (bytes "~!#'()[]<>")) Data.no_more))) valid
    ∷ judges (object_with 1 (bytes "A1") (bytes "at0000") (attribute_with 2 1 (bytes "at0001") (leaf (texts (item 3 [] ∷ item 4 (bytes "a") ∷ item 5 (bytes "abc") ∷ []))) no_more)) (datum 0 None Data.no_more) valid
    ∷ judges (object_with 1 (bytes "PD") [] (attribute_with 2 2 (bytes "yyyy") (leaf (texts (item 3 (bytes "{|},*") ∷ item 4 (bytes "a") ∷ []))) (attribute_with 5 2 (bytes "abc") (nested (object_with 6 (bytes "B") (bytes "at00000000") no_more)) no_more))) (datum 0 None (member (bytes "yyyy") (string 9 (bytes "a")) (member (bytes "mm") (word 22 (bytes "00:00:00Z")) (member (bytes "abc") (block (datum 42 None Data.no_more)) Data.no_more)))) valid
    ∷ judges (object_with 1 (bytes "PymwdThms") [] (attribute_with 2 2 (bytes "true") (leaf (single duration_pattern 3 1)) (attribute_with 4 2 (bytes "x9Z_") (leaf (texts (item 5 (bytes "a b") ∷ []))) (attribute_with 6 1 (bytes "existence1") (leaf (ranges integers (range 7 4_294_967_292 4_294_967_295 ∷ []))) no_more)))) (datum 0 None (member (bytes "true") (word 6 (bytes "P040y")) (member (bytes "e") (word 15 (bytes "-P9999Y")) (member (bytes "x9Z_") (string 29 (bytes "a b")) Data.no_more)))) valid
    ∷ judges (object_with 1 (bytes "AB") (bytes "at0.0.1") (attribute_with 2 2 (bytes "at0001") any no_more)) (datum 7 (Some (bytes "AB")) (member (bytes "at0001") (block (datum 18 None Data.no_more)) Data.no_more)) valid
    ∷ judges (object_with 1 (bytes "B") [] (attribute_with 2 0 (bytes "yyyy") (leaf (ranges integers (range 3 2_147_483_660 2_147_583_660 ∷ range 4 2_147_483_645 2_147_483_654 ∷ range 5 2_147_483_655 2_147_483_658 ∷ []))) no_more)) (datum 0 None Data.no_more) valid
    ∷ judges (object_with 1 (bytes "P") (bytes "at0000") (attribute_with 2 0 (bytes "a") (nested (object_with 3 (bytes "FALSE") [] (attribute_with 4 1 (bytes "existence1") (leaf (single duration_pattern 5 2)) (attribute_with 6 2 (bytes "yyyy") any no_more)))) (attribute_with 7 2 (bytes "abc") (leaf (single duration_pattern 8 2)) no_more))) (datum 0 None (member (bytes "abc") (word 5 (bytes "P00M")) Data.no_more)) valid
    ∷ judges (object_with 1 (bytes "P") [] no_more) (datum 6 (Some (bytes "P")) (member (bytes "a1") (block (datum 13 None Data.no_more)) Data.no_more)) valid
    ∷ judges (object_with 1 (bytes "A") [] (attribute_with 2 2 (bytes "a") (leaf (single duration_pattern 3 1)) no_more)) (datum 3 None (member (bytes "a") (word 14 (bytes "P12y")) (member (bytes "x9Z_") (string 28 (bytes "--")) Data.no_more))) valid
    ∷ judges (object_with 1 (bytes "ELEMENT") [] (attribute_with 2 0 (bytes "a1") (leaf (ranges dates (range 3 101 99_991_231 ∷ []))) (attribute_with 4 2 (bytes "existenc") (leaf (ranges integers (range 5 2_147_483_645 2_147_483_675 ∷ range 6 2_147_483_677 2_147_483_677 ∷ range 7 2_147_483_709 2_147_483_710 ∷ []))) no_more))) (datum 0 None (member (bytes "existenc") (word 10 (bytes "29")) Data.no_more)) valid
    ∷ judges (object_with 1 (bytes "C") [] (attribute_with 2 1 (bytes "value") any (attribute_with 3 1 (bytes "matchesx") (leaf (single duration_pattern 4 70)) (attribute_with 5 1 (bytes "c") (leaf (single time_pattern 6 3)) no_more)))) (datum 0 None (member (bytes "matchesx") (word 10 (bytes "P00m1wT00s")) (member (bytes "c") (word 24 (bytes "23-01")) Data.no_more))) valid
    ∷ judges (object_with 1 (bytes "A_b") (bytes "at0000") (attribute_with 2 2 (bytes "matche") (leaf (single booleans 3 1)) (attribute_with 4 1 (bytes "mm") (leaf (ranges integers (range 5 4_294_967_292 4_294_967_292 ∷ range 6 4_294_967_293 4_294_967_295 ∷ []))) no_more))) (datum 7 (Some (bytes "A_b")) Data.no_more) (fails 22 2 7)
    ∷ judges (object_with 1 (bytes "Thh") [] (attribute_with 2 2 (bytes "ab") (leaf (texts (item 3 (bytes " ") ∷ []))) (attribute_with 4 0 (bytes "x9Z_") (leaf (ranges dates (range 5 102 102 ∷ []))) no_more))) (datum 8 (Some (bytes "Thh")) (member (bytes "matchesx") (word 21 (bytes "20")) (member (bytes "ab") (string 33 (bytes " ")) Data.no_more))) valid
    ∷ judges (object_with 1 (bytes "ELEMENT") [] (attribute_with 2 2 (bytes "aa") (leaf (single duration_pattern 3 48)) no_more)) (datum 0 None Data.no_more) (fails 22 2 0)
    ∷ judges (object_with 1 (bytes "T") (bytes "at0000") (attribute_with 2 1 (bytes "yyyy") (leaf (ranges integers (range 3 0 2_147_484_647 ∷ []))) (attribute_with 4 1 (bytes "true") (nested (object_with 5 (bytes "FALSE") [] no_more)) no_more))) (datum 3 (Some (bytes "T")) (member (bytes "yyyy") (word 9 (bytes "999")) (member (bytes "true") (block (datum 19 None Data.no_more)) Data.no_more))) valid
    ∷ judges (object_with 1 (bytes "X") [] (attribute_with 2 1 (bytes "true") (leaf (single duration_pattern 3 16)) (attribute_with 4 1 (bytes "n1") (leaf (single time_pattern 5 3)) no_more))) (datum 0 None (member (bytes "true") (word 9 (bytes "PT9999h")) (member (bytes "n1") (word 25 (bytes "12+13:59")) Data.no_more))) valid
    ∷ judges (object_with 1 (bytes "FALSE") [] (attribute_with 2 2 (bytes "mm") (leaf (ranges integers (range 3 2_147_483_653 2_147_583_653 ∷ []))) (attribute_with 4 2 (bytes "aa") (nested (object_with 5 (bytes "TRUE") [] no_more)) no_more))) (datum 14 (Some (bytes "FALSE")) (member (bytes "mm") (word 23 (bytes "5")) (member (bytes "aa") (block (datum 42 (Some (bytes "TRUE")) Data.no_more)) Data.no_more))) valid
    ∷ judges (object_with 1 (bytes "Tru") (bytes "at0000.0.0.12") (attribute_with 2 2 (bytes "x9Z_") (nested (object_with 3 (bytes "PdX") [] (attribute_with 4 1 (bytes "c") (leaf (ranges integers (range 5 2_147_483_653 2_147_483_662 ∷ range 6 2_147_484_663 2_147_484_665 ∷ []))) no_more))) (attribute_with 7 1 (bytes "true") (leaf (ranges integers (range 8 0 4 ∷ []))) no_more))) (datum 5 (Some (bytes "Tru")) (member (bytes "x9Z_") (block (datum 11 None (member (bytes "c") (word 14 (bytes "1015")) Data.no_more))) Data.no_more)) valid
    ∷ judges (object_with 1 (bytes "Pwd") (bytes "at0.0.1") (attribute_with 2 1 (bytes "value") (leaf (single time_pattern 3 3)) no_more)) (datum 0 None (member (bytes "existence1") (word 20 (bytes "08:30:15+00:30")) Data.no_more)) valid
    ∷ judges (object_with 1 (bytes "A") [] (attribute_with 2 0 (bytes "yyyy") (leaf (single time_pattern 3 4)) (attribute_with 4 2 (bytes "true") (leaf (single duration_pattern 5 86)) no_more))) (datum 8 (Some (bytes "A")) (member (bytes "true") (word 25 (bytes "P1m5WT12h040s")) Data.no_more)) valid
    ∷ judges (object_with 1 (bytes "Pd") [] (attribute_with 2 2 (bytes "existence1") (nested (object_with 3 (bytes "PTm") [] no_more)) (attribute_with 4 2 (bytes "a1") (leaf (single time_pattern 5 4)) (attribute_with 6 0 (bytes "matchesx") (leaf (single duration_pattern 7 32)) no_more)))) (datum 0 None (member (bytes "a1") (word 4 (bytes "12:00:59+13:59")) (member (bytes "existence1") (block (datum 36 (Some (bytes "PTm")) Data.no_more)) Data.no_more))) valid
    ∷ judges (object_with 1 (bytes "XX") (bytes "at1") no_more) (datum 4 (Some (bytes "XX")) Data.no_more) valid
    ∷ judges (object_with 1 (bytes "Falsey") [] (attribute_with 2 1 (bytes "matche") (leaf (single time_pattern 3 2)) (attribute_with 4 2 (bytes "c") (leaf (single time_pattern 5 2)) (attribute_with 6 2 (bytes "x9Z_") (leaf (single duration_pattern 7 68)) (attribute_with 8 2 (bytes "n3") any no_more))))) (datum 9 None (member (bytes "matche") (word 18 (bytes "12:30Z")) (member (bytes "c") (word 38 (bytes "00:59")) (member (bytes "x9Z_") (word 50 (bytes "-P9999wT00S")) (member (bytes "n3") (word 69 (bytes "-P5d")) Data.no_more))))) valid
    ∷ judges (object_with 1 (bytes "FALSE") (bytes "at0000") (attribute_with 2 1 (bytes "yyyy") (leaf (ranges dates (range 3 99_991_231 99_991_231 ∷ []))) no_more)) (datum 0 None Data.no_more) valid
    ∷ judges (object_with 1 (bytes "A1") (bytes "at0000") (attribute_with 2 1 (bytes "existence1") (leaf (single time_pattern 3 1)) (attribute_with 4 2 (bytes "abc") (nested (object_with 5 (bytes "AB") (bytes "at0001") no_more)) no_more))) (datum 7 (Some (bytes "Other")) (member (bytes "abc") (block (datum 12 None Data.no_more)) (member (bytes "a") (word 16 (bytes "0000")) (member (bytes "existence1") (word 33 (bytes "23:59:00+00")) Data.no_more)))) (fails 21 1 7)
    ∷ judges (object_with 1 (bytes "ABC") [] (attribute_with 2 0 (bytes "x9Z_") (leaf (ranges dates (range 3 20_990_227 20_990_308 ∷ range 4 20_990_309 20_990_312 ∷ range 5 20_990_314 20_990_314 ∷ []))) no_more)) (datum 7 (Some (bytes "ABC")) (member (bytes "x9Z_") (word 16 (bytes "2099-03-09")) Data.no_more)) (fails 23 2 16)
    ∷ judges (object_with 1 (bytes "PT") [] (attribute_with 2 1 (bytes "x9Z_") (leaf (ranges integers (range 3 2_147_483_654 2_147_483_654 ∷ range 4 2_147_483_650 2_147_483_653 ∷ range 5 2_147_483_648 2_147_483_648 ∷ []))) (attribute_with 6 1 (bytes "b") (leaf (ranges dates (range 7 99_981_126 99_981_126 ∷ []))) (attribute_with 8 2 (bytes "mm") (leaf (texts (item 9 (bytes "{|},*") ∷ item 10 (bytes "a b") ∷ item 11 (bytes " ") ∷ []))) no_more)))) (datum 10 (Some (bytes "Other")) (member (bytes "x9Z_") (word 19 (bytes "2")) (member (bytes "mm") (string 30 (bytes "{|},*")) (member (bytes "b") (word 46 (bytes "9998-11-26")) Data.no_more)))) (fails 21 1 10)
    ∷ judges (object_with 1 (bytes "B") (bytes "at0000") (attribute_with 2 2 (bytes "aa") (leaf (ranges dates (range 3 88_730_826 88_730_826 ∷ []))) no_more)) (datum 3 (Some (bytes "B")) (member (bytes "aa") (word 7 (bytes "08Z")) (member (bytes "matchesx") (string 21 (bytes "ab")) Data.no_more))) (fails 20 3 7)
    ∷ judges (object_with 1 (bytes "TRUE") [] (attribute_with 2 2 (bytes "at0001") (leaf (ranges integers (range 3 2_147_483_648 2_147_483_657 ∷ range 4 2_147_483_659 4_294_967_295 ∷ []))) (attribute_with 5 1 (bytes "matche") (leaf (single duration_pattern 6 72)) (attribute_with 7 2 (bytes "ab") (leaf (texts (item 8 (bytes " ") ∷ []))) (attribute_with 9 2 (bytes "yyyy") (leaf (single duration_pattern 10 1)) no_more))))) (datum 6 (Some (bytes "TRUE")) (member (bytes "at0001") (word 14 (bytes "2147483647")) (member (bytes "matche") (string 33 (bytes "<>")) (member (bytes "a1") (string 42 (bytes " ")) (member (bytes "ab") (string 50 (bytes " ")) (member (bytes "yyyy") (word 60 (bytes "P00y")) (member (bytes "value") (word 72 (bytes "08:30:15-00:30")) Data.no_more))))))) (fails 20 6 33)
    ∷ judges (object_with 1 (bytes "AB") [] (attribute_with 2 0 (bytes "ab") (leaf (single time_pattern 3 4)) (attribute_with 4 1 (bytes "at0001") (leaf (single booleans 5 2)) no_more))) (datum 4 (Some (bytes "AB")) (member (bytes "ab") (word 8 (bytes "12:59:59+00:00")) Data.no_more)) (fails 23 2 8)
    ∷ judges (object_with 1 (bytes "PdX") (bytes "at0.0.1") (attribute_with 2 2 (bytes "c") (leaf (single time_pattern 3 3)) no_more)) (datum 2 None (member (bytes "c") (block (datum 24 (Some (bytes "A")) Data.no_more)) Data.no_more)) (fails 20 3 24)
    ∷ judges (object_with 1 (bytes "PymwdThms") [] no_more) (datum 10 (Some (bytes "Other")) Data.no_more) (fails 21 1 10)
    ∷ judges (object_with 1 (bytes "A1") [] (attribute_with 2 1 (bytes "x9Z_") (leaf (texts (item 3 (bytes "b") ∷ item 4 (bytes "a") ∷ item 5 [] ∷ []))) no_more)) (datum 0 None (member (bytes "x9Z_") (string 11 (bytes "x")) Data.no_more)) (fails 24 3 11)
    ∷ judges (object_with 1 (bytes "Pwd") (bytes "at0.0.1") no_more) (datum 9 (Some (bytes "Other")) Data.no_more) (fails 21 1 9)
    ∷ judges (object_with 1 (bytes "C") (bytes "at00000000") (attribute_with 2 0 (bytes "yyyy") (leaf (single duration_pattern 3 16)) (attribute_with 4 2 (bytes "a_") (leaf (single date_pattern 5 3)) no_more))) (datum 3 (Some (bytes "C")) Data.no_more) (fails 22 4 3)
    ∷ judges (object_with 1 (bytes "B") [] (attribute_with 2 1 (bytes "matche") (leaf (single time_pattern 3 3)) no_more)) (datum 7 (Some (bytes "Other")) (member (bytes "matche") (word 19 (bytes "00:59-12")) Data.no_more)) (fails 21 1 7)
    ∷ judges (object_with 1 (bytes "T") [] (attribute_with 2 1 (bytes "b") (leaf (single time_pattern 3 2)) no_more)) (datum 10 (Some (bytes "Other")) (member (bytes "c") (block (datum 16 None Data.no_more)) Data.no_more)) (fails 21 1 10)
    ∷ judges (object_with 1 (bytes "PD") [] (attribute_with 2 2 (bytes "a_") (leaf (ranges integers (range 3 4_294_967_292 4_294_967_295 ∷ []))) no_more)) (datum 0 None (member (bytes "a_") (word 4 (bytes "-10")) Data.no_more)) (fails 24 3 4)
    ∷ judges (object_with 1 (bytes "A") [] (attribute_with 2 2 (bytes "a") (nested (object_with 3 (bytes "A") [] (attribute_with 4 2 (bytes "a") (nested (object_with 5 (bytes "A") [] (attribute_with 6 2 (bytes "a") (leaf (single duration_pattern 7 4)) no_more))) no_more))) no_more)) (datum 0 None (member (bytes "a") (word 6 (bytes "-2147483648")) Data.no_more)) (fails 20 3 6)
    ∷ judges (object_with 1 (bytes "ABC") [] (attribute_with 2 1 (bytes "existenc") any (attribute_with 3 1 (bytes "x9Z_") (leaf (texts (item 4 (bytes "A") ∷ item 5 (bytes " ") ∷ []))) no_more))) (datum 0 None (member (bytes "x9Z_") (block (datum 26 (Some (bytes "A")) Data.no_more)) (member (bytes "aa") (word 32 (bytes "23")) Data.no_more))) (fails 20 4 26)
    ∷ judges (object_with 1 (bytes "A1") [] (attribute_with 2 2 (bytes "a") (leaf (ranges integers (range 3 2_147_483_743 2_147_483_746 ∷ range 4 2_147_483_778 2_147_483_778 ∷ []))) no_more)) (datum 10 (Some (bytes "Other")) (member (bytes "at0001") (block (datum 21 None (member (bytes "a") (word 27 (bytes "9999")) (member (bytes "b") (word 40 (bytes "08:30:15+00:30")) Data.no_more)))) (member (bytes "a") (word 65 (bytes "98")) Data.no_more))) (fails 21 1 10)
    ∷ judges (object_with 1 (bytes "ABC") [] (attribute_with 2 2 (bytes "mm") any (attribute_with 3 2 (bytes "matchesx") (leaf (ranges integers (range 4 4_111_886_873 4_111_886_873 ∷ []))) (attribute_with 5 1 (bytes "existenc") (leaf (ranges dates (range 6 99_991_230 99_991_230 ∷ []))) no_more)))) (datum 0 None (member (bytes "mm") (block (datum 7 None (member (bytes "a") (string 13 (bytes "--")) Data.no_more))) (member (bytes "matchesx") (word 35 (bytes "08:30-12")) (member (bytes "existenc") (word 59 (bytes "9999-12-29")) Data.no_more)))) (fails 20 4 35)
    ∷ judges (object_with 1 (bytes "Z") (bytes "at0001") (attribute_with 2 2 (bytes "x9Z_") (leaf (single duration_pattern 3 10)) no_more)) (datum 0 None (member (bytes "x9Z_") (word 9 (bytes "P12yT040m")) (member (bytes "abc") (string 29 (bytes "--")) Data.no_more))) (fails 24 3 9)
    ∷ judges (object_with 1 (bytes "PTm") [] (attribute_with 2 0 (bytes "mm") (leaf (ranges integers (range 3 2_335_746_367 2_335_746_732 ∷ []))) (attribute_with 4 1 (bytes "c") (leaf (texts (item 5 (bytes "--") ∷ []))) (attribute_with 6 2 (bytes "abc") any (attribute_with 7 2 (bytes "a") (leaf (single booleans 8 2)) no_more))))) (datum 5 (Some (bytes "PTm")) (member (bytes "mm") (word 9 (bytes "188262719")) (member (bytes "abc") (word 24 (bytes "-P9999y9999m9999w9999dT9999h9999m9999s")) (member (bytes "a") (word 66 (bytes "False")) Data.no_more)))) (fails 23 2 9)
    ∷ judges (object_with 1 (bytes "Pd") [] (attribute_with 2 2 (bytes "b") (leaf (single time_pattern 3 1)) no_more)) (datum 4 (Some (bytes "Pd")) Data.no_more) (fails 22 2 4)
    ∷ judges (object_with 1 (bytes "TRUE") [] (attribute_with 2 2 (bytes "a1") (leaf (single duration_pattern 3 113)) (attribute_with 4 2 (bytes "a_") any (attribute_with 5 2 (bytes "at0001") (leaf (single booleans 6 2)) (attribute_with 7 2 (bytes "mm") (leaf (texts (item 8 (bytes "A") ∷ []))) no_more))))) (datum 0 None (member (bytes "a_") (word 7 (bytes "PT5m")) (member (bytes "at0001") (word 25 (bytes "False")) (member (bytes "mm") (string 40 (bytes "A")) Data.no_more)))) (fails 22 2 0)
    ∷ judges (object_with 1 (bytes "C") [] (attribute_with 2 0 (bytes "matchesx") (leaf (ranges integers (range 3 4_294_967_292 4_294_967_295 ∷ []))) (attribute_with 4 2 (bytes "a") (leaf (single booleans 5 3)) no_more))) (datum 6 (Some (bytes "C")) (member (bytes "mm") (block (datum 13 None Data.no_more)) (member (bytes "a") (word 21 (bytes "08-05")) Data.no_more))) (fails 20 5 21)
    ∷ judges (object_with 1 (bytes "C") (bytes "at0001") (attribute_with 2 2 (bytes "x9Z_") (leaf (ranges dates (range 3 101 105 ∷ range 4 206 206 ∷ []))) (attribute_with 5 1 (bytes "yyyy") (leaf (single date_pattern 6 5)) (attribute_with 7 1 (bytes "matchesx") (leaf (single date_pattern 8 3)) no_more)))) (datum 3 (Some (bytes "C")) (member (bytes "yyyy") (word 9 (bytes "0373")) (member (bytes "matchesx") (word 24 (bytes "3311-05-17")) Data.no_more))) (fails 22 2 3)
    ∷ judges (object_with 1 (bytes "A_b") (bytes "at0001.10101.101.1.101.1.101077") (attribute_with 2 2 (bytes "existenc") (leaf (single duration_pattern 3 64)) no_more)) (datum 16 (Some (bytes "Other")) (member (bytes "existenc") (word 26 (bytes "-PT00S")) Data.no_more)) (fails 21 1 16)
    ∷ judges (object_with 1 (bytes "PdX") (bytes "at0000") (attribute_with 2 1 (bytes "b") (leaf (texts (item 3 (bytes "--") ∷ []))) (attribute_with 4 1 (bytes "matche") (nested (object_with 5 (bytes "True1") [] no_more)) no_more))) (datum 7 (Some (bytes "Other")) (member (bytes "b") (string 10 (bytes "--")) Data.no_more)) (fails 21 1 7)
    ∷ judges (object_with 1 (bytes "PD") [] (attribute_with 2 2 (bytes "true") (leaf (single date_pattern 3 1)) (attribute_with 4 0 (bytes "value") (leaf (single date_pattern 5 4)) no_more))) (datum 8 (Some (bytes "Other")) (member (bytes "mm") (word 13 (bytes "-P9999y9999m9999w9999dT9999h9999m9999s")) (member (bytes "true") (word 64 (bytes "4479-01-26")) Data.no_more))) (fails 21 1 8)
    ∷ judges (object_with 1 (bytes "ABC") [] (attribute_with 2 2 (bytes "existence1") (leaf (ranges integers (range 3 2_147_483_685 2_147_484_050 ∷ range 4 2_147_483_653 2_147_483_653 ∷ []))) (attribute_with 5 2 (bytes "at0001") (leaf (single duration_pattern 6 100)) no_more))) (datum 13 (Some (bytes "ABC")) (member (bytes "existence1") (word 32 (bytes "402")) Data.no_more)) (fails 22 5 13)
    ∷ judges (object_with 1 (bytes "Z") [] (attribute_with 2 2 (bytes "mm") (nested (object_with 3 (bytes "PdX") [] (attribute_with 4 2 (bytes "yyyy") (nested (object_with 5 (bytes "ABC") [] no_more)) no_more))) no_more)) (datum 7 (Some (bytes "Other")) (member (bytes "c") (block (datum 10 None Data.no_more)) (member (bytes "mm") (block (datum 15 None (member (bytes "yyyy") (block (datum 26 (Some (bytes "ABC")) Data.no_more)) Data.no_more))) (member (bytes "matchesx") (word 38 (bytes "P5m")) Data.no_more)))) (fails 21 1 7)
    ∷ judges (object_with 1 (bytes "PymwdThms") [] (attribute_with 2 1 (bytes "a") (nested (object_with 3 (bytes "B") [] (attribute_with 4 2 (bytes "x9Z_") (leaf (single duration_pattern 5 62)) no_more))) (attribute_with 6 2 (bytes "mm") (leaf (texts (item 7 [] ∷ []))) no_more))) (datum 13 (Some (bytes "Other")) (member (bytes "mm") (string 20 []) Data.no_more)) (fails 21 1 13)
    ∷ judges (object_with 1 (bytes "Z") [] (attribute_with 2 2 (bytes "x9Z_") (leaf (single duration_pattern 3 1)) no_more)) (datum 6 (Some (bytes "Z")) (member (bytes "x9Z_") (string 13 (bytes "a")) (member (bytes "b") (word 23 (bytes "08+00:00")) Data.no_more))) (fails 20 3 13)
    ∷ judges (object_with 1 (bytes "PT") [] (attribute_with 2 0 (bytes "b") (leaf (single time_pattern 3 3)) no_more)) (datum 9 (Some (bytes "RT")) Data.no_more) (fails 21 1 9)
    ∷ judges (object_with 1 (bytes "PT") [] (attribute_with 2 1 (bytes "a_") (leaf (single time_pattern 3 2)) no_more)) (datum 7 (Some (bytes "PT")) (member (bytes "a_") (word 14 (bytes "9999")) Data.no_more)) (fails 20 3 14)
    ∷ judges (object_with 1 (bytes "True1") [] (attribute_with 2 0 (bytes "ab") (nested (object_with 3 (bytes "TRUE") [] no_more)) no_more)) (datum 0 None (member (bytes "ab") (block (datum 7 None Data.no_more)) Data.no_more)) (fails 23 2 7)
    ∷ judges (object_with 1 (bytes "PdX") [] (attribute_with 2 1 (bytes "aa") (leaf (single date_pattern 3 1)) (attribute_with 4 1 (bytes "a_") (leaf (single duration_pattern 5 1)) no_more))) (datum 3 None (member (bytes "aa") (block (datum 20 (Some (bytes "A")) Data.no_more)) (member (bytes "matche") (word 37 (bytes "08+00")) (member (bytes "a_") (word 55 (bytes "-P5y")) Data.no_more)))) (fails 20 3 20)
    ∷ judges (object_with 1 (bytes "AB") [] (attribute_with 2 2 (bytes "a") (leaf (single booleans 3 1)) (attribute_with 4 1 (bytes "aa") (leaf (single duration_pattern 5 64)) (attribute_with 6 2 (bytes "existence1") (nested (object_with 7 (bytes "Tru") (bytes "at00000000") no_more)) no_more)))) (datum 4 (Some (bytes "AB")) (member (bytes "existence1") (word 16 (bytes "08:30-12:59")) (member (bytes "a") (word 31 (bytes "True")) Data.no_more))) (fails 20 7 16)
    ∷ judges (object_with 1 (bytes "PdX") [] (attribute_with 2 0 (bytes "b") (leaf (single booleans 3 2)) (attribute_with 4 1 (bytes "n1") (leaf (single duration_pattern 5 64)) (attribute_with 6 2 (bytes "c") (leaf (single date_pattern 7 1)) no_more)))) (datum 5 (Some (bytes "PdX")) (member (bytes "n1") (word 9 (bytes "PT0s")) (member (bytes "b") (word 17 (bytes "False")) (member (bytes "c") (word 26 (bytes "3993-03-21")) Data.no_more)))) (fails 23 2 17)
    ∷ judges (object_with 1 (bytes "ABC") (bytes "at0.0.1") (attribute_with 2 1 (bytes "aa") (nested (object_with 3 (bytes "ELEMENT") (bytes "at0.0.1") (attribute_with 4 2 (bytes "b") (leaf (single time_pattern 5 1)) (attribute_with 6 2 (bytes "aa") (leaf (single date_pattern 7 1)) (attribute_with 8 2 (bytes "a_") (leaf (single booleans 9 1)) no_more))))) no_more)) (datum 7 (Some (bytes "Other")) Data.no_more) (fails 21 1 7)
    ∷ judges (object_with 1 (bytes "T") [] (attribute_with 2 2 (bytes "matche") (leaf (texts (item 3 (bytes "b") ∷ item 4 (bytes "a b") ∷ item 5 (bytes "abc") ∷ []))) (attribute_with 6 2 (bytes "abc") (leaf (ranges integers (range 7 4_294_967_255 4_294_967_255 ∷ []))) no_more))) (datum 3 (Some (bytes "T")) (member (bytes "matche") (word 11 (bytes "19")) (member (bytes "abc") (word 19 (bytes "2147483607")) Data.no_more))) (fails 20 3 11)
    ∷ judges (object_with 1 (bytes "T") [] (attribute_with 2 2 (bytes "matchesx") (leaf (ranges integers (range 3 4_294_967_292 4_294_967_292 ∷ []))) (attribute_with 4 1 (bytes "existence1") (leaf (single duration_pattern 5 6)) no_more))) (datum 0 None (member (bytes "matchesx") (word 10 (bytes "2147483645")) Data.no_more)) (fails 24 3 10)
    ∷ judges (object_with 1 (bytes "A") (bytes "at0001.1") (attribute_with 2 2 (bytes "abc") (leaf (single booleans 3 1)) (attribute_with 4 2 (bytes "a_") (leaf (single duration_pattern 5 24)) (attribute_with 6 1 (bytes "b") (leaf (single date_pattern 7 3)) no_more)))) (datum 7 (Some (bytes "AB")) (member (bytes "a_") (word 14 (bytes "P9999dT9999H")) (member (bytes "mm") (block (datum 36 None (member (bytes "a") (string 42 (bytes "b")) Data.no_more))) (member (bytes "abc") (word 58 (bytes "True")) Data.no_more)))) (fails 21 1 7)
    ∷ judges (object_with 1 (bytes "AB") [] (attribute_with 2 2 (bytes "aa") (leaf (single time_pattern 3 4)) (attribute_with 4 1 (bytes "matchesx") (nested (object_with 5 (bytes "PTm") (bytes "at0.0.1") no_more)) no_more))) (datum 0 None (member (bytes "matche") (block (datum 8 None Data.no_more)) Data.no_more)) (fails 22 2 0)
    ∷ judges (object_with 1 (bytes "PymwdThms") [] (attribute_with 2 2 (bytes "yyyy") (leaf (texts (item 3 (bytes "{|},*") ∷ item 4 [] ∷ []))) no_more)) (datum 0 None (member (bytes "ab") (word 4 (bytes "2004-12-31")) Data.no_more)) (fails 22 2 0)
    ∷ judges (object_with 1 (bytes "True1") [] (attribute_with 2 2 (bytes "abc") (nested (object_with 3 (bytes "Z") [] (attribute_with 4 2 (bytes "mm") (leaf (single time_pattern 5 4)) (attribute_with 6 2 (bytes "a") (leaf (single duration_pattern 7 66)) no_more)))) no_more)) (datum 10 (Some (bytes "True1")) (member (bytes "abc") (block (datum 18 None (member (bytes "mm") (word 25 (bytes "-1")) Data.no_more))) Data.no_more)) (fails 20 5 25)
    ∷ judges (object_with 1 (bytes "FALSE") (bytes "at1") (attribute_with 2 2 (bytes "ab") (leaf (ranges integers (range 3 2_147_483_653 2_147_483_653 ∷ []))) no_more)) (datum 0 None (member (bytes "ab") (word 4 (bytes "6")) Data.no_more)) (fails 24 3 4)
    ∷ judges (object_with 1 (bytes "TRUE") (bytes "at0001.1") (attribute_with 2 2 (bytes "mm") (leaf (single duration_pattern 3 33)) (attribute_with 4 0 (bytes "true") (leaf (single time_pattern 5 1)) (attribute_with 6 2 (bytes "matche") (leaf (single time_pattern 7 3)) no_more)))) (datum 10 (Some (bytes "Other")) (member (bytes "mm") (word 17 (bytes "P1yT0M")) (member (bytes "matche") (word 37 (bytes "00+01")) Data.no_more))) (fails 21 1 10)
    ∷ judges (object_with 1 (bytes "T") (bytes "at0001.1") (attribute_with 2 0 (bytes "existenc") (leaf (single duration_pattern 3 15)) no_more)) (datum 7 (Some (bytes "Other")) Data.no_more) (fails 21 1 7)
    ∷ judges (object_with 1 (bytes "Tru") [] (attribute_with 2 0 (bytes "a") (leaf (single time_pattern 3 2)) (attribute_with 4 2 (bytes "matchesx") (leaf (single time_pattern 5 1)) no_more))) (datum 0 None (member (bytes "a") (word 3 (bytes "23:00+05:30")) (member (bytes "matchesx") (word 25 (bytes "23:59:59")) Data.no_more))) (fails 23 2 3)
    ∷ judges (object_with 1 (bytes "Falsey") [] (attribute_with 2 2 (bytes "c") (leaf (ranges integers (range 3 3_524_245_495 3_524_245_495 ∷ []))) no_more)) (datum 0 None Data.no_more) (fails 22 2 0)
    ∷ judges (object_with 1 (bytes "PT") (bytes "at0000") (attribute_with 2 2 (bytes "abc") (leaf (single time_pattern 3 1)) (attribute_with 4 0 (bytes "a1") (leaf (single duration_pattern 5 36)) no_more))) (datum 0 None (member (bytes "at0001") (block (datum 8 None (member (bytes "a") (block (datum 11 None (member (bytes "a") (block (datum 14 None (member (bytes "a") (block (datum 17 None (member (bytes "a") (block (datum 23 (Some (bytes "Z")) Data.no_more)) (member (bytes "b") (word 27 (bytes "P1y2m3w4dT5h6m7s")) Data.no_more)))) Data.no_more))) Data.no_more))) (member (bytes "b") (block (datum 56 (Some (bytes "TRUE")) Data.no_more)) Data.no_more)))) Data.no_more)) (fails 22 2 0)
    ∷ judges (object_with 1 (bytes "A") [] (attribute_with 2 2 (bytes "a") (nested (object_with 3 (bytes "A") [] (attribute_with 4 2 (bytes "a") (nested (object_with 5 (bytes "Pm") (bytes "at1") no_more)) no_more))) no_more)) (datum 14 (Some (bytes "A")) (member (bytes "a") (block (datum 17 None Data.no_more)) (member (bytes "at0001") (block (datum 30 None (member (bytes "a") (block (datum 33 None Data.no_more)) (member (bytes "b") (word 39 (bytes "08:30:15+00:30")) Data.no_more)))) Data.no_more))) (fails 22 4 17)
    ∷ judges (object_with 1 (bytes "PT") [] (attribute_with 2 2 (bytes "at0001") (leaf (ranges integers (range 3 2_147_483_645 2_147_483_647 ∷ []))) no_more)) (datum 0 None (member (bytes "at0001") (word 8 (bytes "9999")) Data.no_more)) (fails 24 3 8)
    ∷ judges (object_with 1 (bytes "XX") [] (attribute_with 2 2 (bytes "existenc") (leaf (single duration_pattern 3 68)) (attribute_with 4 2 (bytes "mm") (leaf (single booleans 5 3)) no_more))) (datum 9 (Some (bytes "XX")) (member (bytes "mm") (word 13 (bytes "True")) Data.no_more)) (fails 22 2 9)
    ∷ judges (object_with 1 (bytes "FALSE") [] (attribute_with 2 1 (bytes "abc") (leaf (ranges integers (range 3 4_294_967_255 4_294_967_295 ∷ []))) (attribute_with 4 1 (bytes "at0001") (leaf (texts (item 5 (bytes "{|},*") ∷ item 6 (bytes "a") ∷ item 7 (bytes "abc") ∷ []))) no_more))) (datum 7 (Some (bytes "FALSE")) (member (bytes "at0001") (block (datum 18 (Some (bytes "A")) Data.no_more)) Data.no_more)) (fails 20 5 18)
    ∷ judges (object_with 1 (bytes "A") [] (attribute_with 2 2 (bytes "a") (nested (object_with 3 (bytes "PyTh") [] no_more)) no_more)) (datum 3 (Some (bytes "A")) Data.no_more) (fails 22 2 3)
    ∷ judges (object_with 1 (bytes "A_b") [] (attribute_with 2 2 (bytes "aa") (leaf (single duration_pattern 3 72)) (attribute_with 4 2 (bytes "existence1") (leaf (texts (item 5 (bytes " ") ∷ item 6 (bytes "--") ∷ []))) (attribute_with 7 2 (bytes "yyyy") (leaf (ranges dates (range 8 101 99_991_231 ∷ []))) no_more)))) (datum 5 (Some (bytes "A_b")) (member (bytes "aa") (word 9 (bytes "P0005DT040s")) (member (bytes "existence1") (string 33 (bytes " ")) Data.no_more))) (fails 22 7 5)
    ∷ judges (object_with 1 (bytes "PT") [] (attribute_with 2 2 (bytes "existenc") (leaf (ranges integers (range 3 2_147_483_648 2_147_583_648 ∷ []))) (attribute_with 4 1 (bytes "a_") (leaf (single time_pattern 5 1)) no_more))) (datum 7 (Some (bytes "Other")) (member (bytes "existenc") (word 17 (bytes "100000")) (member (bytes "a_") (word 28 (bytes "12:30:00-00:30")) Data.no_more))) (fails 21 1 7)
    ∷ judges (object_with 1 (bytes "P") (bytes "at0001.1") (attribute_with 2 2 (bytes "abc") (leaf (texts (item 3 [] ∷ []))) no_more)) (datum 6 (Some (bytes "P")) (member (bytes "matche") (block (datum 17 None (member (bytes "a") (block (datum 23 None Data.no_more)) (member (bytes "b") (block (datum 31 None (member (bytes "a") (block (datum 37 None Data.no_more)) Data.no_more))) Data.no_more)))) Data.no_more)) (fails 22 2 6)
    ∷ judges (object_with 1 (bytes "PD") [] (attribute_with 2 1 (bytes "a1") (leaf (single time_pattern 3 4)) (attribute_with 4 1 (bytes "abc") (leaf (ranges integers (range 5 2_147_483_653 4_294_967_295 ∷ []))) (attribute_with 6 2 (bytes "c") (leaf (texts (item 7 (bytes "a b") ∷ item 8 (bytes "--") ∷ []))) no_more)))) (datum 7 (Some (bytes "PD")) (member (bytes "a1") (word 14 (bytes "2004")) (member (bytes "abc") (word 29 (bytes "5")) (member (bytes "c") (string 39 (bytes "--")) Data.no_more)))) (fails 20 3 14)
    ∷ judges (object_with 1 (bytes "TRUE") [] (attribute_with 2 2 (bytes "value") (leaf (single booleans 3 2)) (attribute_with 4 0 (bytes "true") (leaf (single date_pattern 5 2)) no_more))) (datum 7 (Some (bytes "Other")) (member (bytes "value") (word 14 (bytes "False")) Data.no_more)) (fails 21 1 7)
    ∷ judges (object_with 1 (bytes "C") [] (attribute_with 2 1 (bytes "abc") (leaf (ranges integers (range 3 2_147_484_647 2_147_484_647 ∷ range 4 2_147_484_648 2_147_485_013 ∷ []))) (attribute_with 5 0 (bytes "existenc") any (attribute_with 6 2 (bytes "x9Z_") (leaf (single booleans 7 2)) no_more)))) (datum 3 (Some (bytes "C")) (member (bytes "x9Z_") (word 9 (bytes "08:30:15+00:30")) Data.no_more)) (fails 20 7 9)
    ∷ judges (object_with 1 (bytes "B") [] (attribute_with 2 1 (bytes "existenc") (leaf (single duration_pattern 3 64)) (attribute_with 4 2 (bytes "matchesx") (leaf (texts (item 5 (bytes "--") ∷ []))) (attribute_with 6 2 (bytes "matche") (leaf (single time_pattern 7 4)) no_more)))) (datum 10 (Some (bytes "Other")) (member (bytes "existenc") (word 23 (bytes "PT0s")) (member (bytes "matchesx") (string 43 (bytes "--")) (member (bytes "matche") (word 61 (bytes "12+00")) Data.no_more)))) (fails 21 1 10)
    ∷ []

pub none_wrong : wrong right 0 cases ≡ []
unfolding wrong right cases meaning_computes
none_wrong = refl
