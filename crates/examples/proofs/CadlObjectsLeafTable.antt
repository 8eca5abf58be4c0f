-- Leaves: their items, intervals, patterns and Booleans. The expectations are the second implementation's.
-- This file is written by `example_tables write` of second/. Assumes nothing.
use mathlib.Core.Path.{◌≡◌, refl}
use mathlib.Core.List.{List, [], ◌∷◌}
use Rattle.lexis.specs.Text.{bytes}
use Rattle.lexis.proofs.Tables.{wrong}
use Rattle.meaning.specs.Constraints.{no_more, nested, leaf, single, ranges, texts, booleans, integers, date_pattern, dates, time_pattern, duration_pattern}
use Rattle.meaning.proofs.Trees.{range, item, object_with, attribute_with, object_list}
use Rattle.cadl_objects.proofs.Computes.{constraint_computes}
use Rattle.cadl_objects.proofs.Examples.{Case, accepts, refuses, right}

pub cases : List Case
cases =
    -- integers: the range's ends, needless zeros, -0
    accepts (bytes "A matches {a matches {5}}") (object_with 1 (bytes "A") [] (attribute_with 2 2 (bytes "a") (leaf (ranges integers (range 3 2_147_483_653 2_147_483_653 ∷ []))) no_more))
    ∷ accepts (bytes "A matches {a matches {-5}}") (object_with 1 (bytes "A") [] (attribute_with 2 2 (bytes "a") (leaf (ranges integers (range 3 2_147_483_643 2_147_483_643 ∷ []))) no_more))
    ∷ accepts (bytes "A matches {a matches {0}}") (object_with 1 (bytes "A") [] (attribute_with 2 2 (bytes "a") (leaf (ranges integers (range 3 2_147_483_648 2_147_483_648 ∷ []))) no_more))
    ∷ accepts (bytes "A matches {a matches {-2147483648}}") (object_with 1 (bytes "A") [] (attribute_with 2 2 (bytes "a") (leaf (ranges integers (range 3 0 0 ∷ []))) no_more))
    ∷ accepts (bytes "A matches {a matches {2147483647}}") (object_with 1 (bytes "A") [] (attribute_with 2 2 (bytes "a") (leaf (ranges integers (range 3 4_294_967_295 4_294_967_295 ∷ []))) no_more))
    ∷ refuses (bytes "A matches {a matches {2147483648}}") 5 22
    ∷ refuses (bytes "A matches {a matches {-2147483649}}") 5 22
    ∷ refuses (bytes "A matches {a matches {99999999999999999999}}") 5 22
    ∷ refuses (bytes "A matches {a matches {007}}") 5 22
    ∷ refuses (bytes "A matches {a matches {00}}") 5 22
    ∷ refuses (bytes "A matches {a matches {-0}}") 5 22
    ∷ refuses (bytes "A matches {a matches {5, 007}}") 5 25
    ∷ refuses (bytes "A matches {a matches {5 6}}") 2 24
    ∷ refuses (bytes "A matches {a matches {5,}}") 2 24
    ∷ refuses (bytes "A matches {a matches {- 5}}") 2 22
    ∷ refuses (bytes "A matches {a matches {+5}}") 2 22
    ∷ refuses (bytes "A matches {a matches {5-3}}") 2 23
    ∷ refuses (bytes "A matches {a matches {5--3}}") 2 28
    ∷ refuses (bytes "A matches {a matches {5a}}") 2 23
    -- lists of integers
    ∷ accepts (bytes "A matches {a matches {3,1,2}}") (object_with 1 (bytes "A") [] (attribute_with 2 2 (bytes "a") (leaf (ranges integers (range 3 2_147_483_651 2_147_483_651 ∷ range 4 2_147_483_649 2_147_483_649 ∷ range 5 2_147_483_650 2_147_483_650 ∷ []))) no_more))
    ∷ accepts (bytes "A matches {a matches {1, |5..9|, 3}}") (object_with 1 (bytes "A") [] (attribute_with 2 2 (bytes "a") (leaf (ranges integers (range 3 2_147_483_649 2_147_483_649 ∷ range 4 2_147_483_653 2_147_483_657 ∷ range 5 2_147_483_651 2_147_483_651 ∷ []))) no_more))
    -- every interval of integers
    ∷ accepts (bytes "A matches {a matches {|5|}}") (object_with 1 (bytes "A") [] (attribute_with 2 2 (bytes "a") (leaf (ranges integers (range 3 2_147_483_653 2_147_483_653 ∷ []))) no_more))
    ∷ accepts (bytes "A matches {a matches {|5..9|}}") (object_with 1 (bytes "A") [] (attribute_with 2 2 (bytes "a") (leaf (ranges integers (range 3 2_147_483_653 2_147_483_657 ∷ []))) no_more))
    ∷ accepts (bytes "A matches {a matches {|5..<9|}}") (object_with 1 (bytes "A") [] (attribute_with 2 2 (bytes "a") (leaf (ranges integers (range 3 2_147_483_653 2_147_483_656 ∷ []))) no_more))
    ∷ accepts (bytes "A matches {a matches {|>5..9|}}") (object_with 1 (bytes "A") [] (attribute_with 2 2 (bytes "a") (leaf (ranges integers (range 3 2_147_483_654 2_147_483_657 ∷ []))) no_more))
    ∷ accepts (bytes "A matches {a matches {|>5..<9|}}") (object_with 1 (bytes "A") [] (attribute_with 2 2 (bytes "a") (leaf (ranges integers (range 3 2_147_483_654 2_147_483_656 ∷ []))) no_more))
    ∷ accepts (bytes "A matches {a matches {|100+/-5|}}") (object_with 1 (bytes "A") [] (attribute_with 2 2 (bytes "a") (leaf (ranges integers (range 3 2_147_483_743 2_147_483_753 ∷ []))) no_more))
    ∷ accepts (bytes "A matches {a matches {|<5|}}") (object_with 1 (bytes "A") [] (attribute_with 2 2 (bytes "a") (leaf (ranges integers (range 3 0 2_147_483_652 ∷ []))) no_more))
    ∷ accepts (bytes "A matches {a matches {|>5|}}") (object_with 1 (bytes "A") [] (attribute_with 2 2 (bytes "a") (leaf (ranges integers (range 3 2_147_483_654 4_294_967_295 ∷ []))) no_more))
    ∷ accepts (bytes "A matches {a matches {|<=5|}}") (object_with 1 (bytes "A") [] (attribute_with 2 2 (bytes "a") (leaf (ranges integers (range 3 0 2_147_483_653 ∷ []))) no_more))
    ∷ accepts (bytes "A matches {a matches {|>=5|}}") (object_with 1 (bytes "A") [] (attribute_with 2 2 (bytes "a") (leaf (ranges integers (range 3 2_147_483_653 4_294_967_295 ∷ []))) no_more))
    ∷ accepts (bytes "A matches {a matches {|>-9..<-5|}}") (object_with 1 (bytes "A") [] (attribute_with 2 2 (bytes "a") (leaf (ranges integers (range 3 2_147_483_640 2_147_483_642 ∷ []))) no_more))
    ∷ accepts (bytes "A matches {a matches {|0..<1000|}}") (object_with 1 (bytes "A") [] (attribute_with 2 2 (bytes "a") (leaf (ranges integers (range 3 2_147_483_648 2_147_484_647 ∷ []))) no_more))
    -- ends at the range's ends
    ∷ accepts (bytes "A matches {a matches {|-2147483648..2147483647|}}") (object_with 1 (bytes "A") [] (attribute_with 2 2 (bytes "a") (leaf (ranges integers (range 3 0 4_294_967_295 ∷ []))) no_more))
    ∷ accepts (bytes "A matches {a matches {|>-2147483648..<2147483647|}}") (object_with 1 (bytes "A") [] (attribute_with 2 2 (bytes "a") (leaf (ranges integers (range 3 1 4_294_967_294 ∷ []))) no_more))
    ∷ accepts (bytes "A matches {a matches {|>=-2147483648|}}") (object_with 1 (bytes "A") [] (attribute_with 2 2 (bytes "a") (leaf (ranges integers (range 3 0 4_294_967_295 ∷ []))) no_more))
    ∷ accepts (bytes "A matches {a matches {|<=2147483647|}}") (object_with 1 (bytes "A") [] (attribute_with 2 2 (bytes "a") (leaf (ranges integers (range 3 0 4_294_967_295 ∷ []))) no_more))
    ∷ accepts (bytes "A matches {a matches {|>=2147483647|}}") (object_with 1 (bytes "A") [] (attribute_with 2 2 (bytes "a") (leaf (ranges integers (range 3 4_294_967_295 4_294_967_295 ∷ []))) no_more))
    ∷ accepts (bytes "A matches {a matches {|<=-2147483648|}}") (object_with 1 (bytes "A") [] (attribute_with 2 2 (bytes "a") (leaf (ranges integers (range 3 0 0 ∷ []))) no_more))
    ∷ accepts (bytes "A matches {a matches {|>2147483646|}}") (object_with 1 (bytes "A") [] (attribute_with 2 2 (bytes "a") (leaf (ranges integers (range 3 4_294_967_295 4_294_967_295 ∷ []))) no_more))
    ∷ accepts (bytes "A matches {a matches {|<-2147483647|}}") (object_with 1 (bytes "A") [] (attribute_with 2 2 (bytes "a") (leaf (ranges integers (range 3 0 0 ∷ []))) no_more))
    -- empty intervals, told at the closing bar, and the narrowest
    ∷ refuses (bytes "A matches {a matches {|>2147483647|}}") 6 34
    ∷ refuses (bytes "A matches {a matches {|<-2147483648|}}") 6 35
    ∷ refuses (bytes "A matches {a matches {|>0..<1|}}") 6 29
    ∷ accepts (bytes "A matches {a matches {|>0..<2|}}") (object_with 1 (bytes "A") [] (attribute_with 2 2 (bytes "a") (leaf (ranges integers (range 3 2_147_483_649 2_147_483_649 ∷ []))) no_more))
    ∷ refuses (bytes "A matches {a matches {|>0..0|}}") 6 28
    ∷ refuses (bytes "A matches {a matches {|0..<0|}}") 6 28
    ∷ accepts (bytes "A matches {a matches {|0..<1|}}") (object_with 1 (bytes "A") [] (attribute_with 2 2 (bytes "a") (leaf (ranges integers (range 3 2_147_483_648 2_147_483_648 ∷ []))) no_more))
    ∷ refuses (bytes "A matches {a matches {|5..4|}}") 6 27
    ∷ refuses (bytes "A matches {a matches {|>2147483647..2147483647|}}") 6 46
    ∷ refuses (bytes "A matches {a matches {| 9 .. 5  |}}") 6 32
    ∷ refuses (bytes "A matches {a matches {|9..5}}") 2 27
    ∷ refuses (bytes "A matches {a matches {|9..5 6|}}") 2 28
    -- a value with a distance on either side
    ∷ accepts (bytes "A matches {a matches {|100+/-0|}}") (object_with 1 (bytes "A") [] (attribute_with 2 2 (bytes "a") (leaf (ranges integers (range 3 2_147_483_748 2_147_483_748 ∷ []))) no_more))
    ∷ accepts (bytes "A matches {a matches {|0+/-2147483647|}}") (object_with 1 (bytes "A") [] (attribute_with 2 2 (bytes "a") (leaf (ranges integers (range 3 1 4_294_967_295 ∷ []))) no_more))
    ∷ accepts (bytes "A matches {a matches {|-1+/-2147483647|}}") (object_with 1 (bytes "A") [] (attribute_with 2 2 (bytes "a") (leaf (ranges integers (range 3 0 4_294_967_294 ∷ []))) no_more))
    ∷ refuses (bytes "A matches {a matches {|1+/-2147483647|}}") 5 27
    ∷ refuses (bytes "A matches {a matches {|-2+/-2147483647|}}") 5 28
    ∷ refuses (bytes "A matches {a matches {|0+/-2147483648|}}") 5 27
    ∷ refuses (bytes "A matches {a matches {|2147483647+/-1|}}") 5 36
    ∷ refuses (bytes "A matches {a matches {|-2147483648+/-1|}}") 5 37
    ∷ refuses (bytes "A matches {a matches {|100+/--5|}}") 6 31
    ∷ refuses (bytes "A matches {a matches {|100+/- -5|}}") 6 32
    ∷ refuses (bytes "A matches {a matches {|100+/--0|}}") 5 29
    ∷ refuses (bytes "A matches {a matches {|2147483647+/--1|}}") 5 36
    ∷ refuses (bytes "A matches {a matches {|0+/--2147483648|}}") 5 27
    ∷ refuses (bytes "A matches {a matches {|100+/---5|}}") 2 35
    ∷ accepts (bytes "A matches {a matches {|100+/---5\n5|}}") (object_with 1 (bytes "A") [] (attribute_with 2 2 (bytes "a") (leaf (ranges integers (range 3 2_147_483_743 2_147_483_753 ∷ []))) no_more))
    ∷ refuses (bytes "A matches {a matches {|5+/-007|}}") 5 27
    ∷ refuses (bytes "A matches {a matches {|007+/-2|}}") 5 23
    ∷ refuses (bytes "A matches {a matches {|2147483647+/-1}}") 5 36
    ∷ refuses (bytes "A matches {a matches {|100+/--5}}") 2 31
    ∷ refuses (bytes "A matches {a matches {|>5+/-2|}}") 2 25
    ∷ refuses (bytes "A matches {a matches {|5+/-2..9|}}") 2 28
    ∷ refuses (bytes "A matches {a matches {|5+/-2004-01-01|}}") 2 27
    ∷ refuses (bytes "A matches {a matches {5+/-2}}") 2 23
    -- intervals with a token that can't follow
    ∷ refuses (bytes "A matches {a matches {||}}") 2 23
    ∷ refuses (bytes "A matches {a matches {|}}") 2 23
    ∷ refuses (bytes "A matches {a matches {|5..|}}") 2 26
    ∷ refuses (bytes "A matches {a matches {|..5|}}") 2 23
    ∷ refuses (bytes "A matches {a matches {|5..9}}") 2 27
    ∷ refuses (bytes "A matches {a matches {|<5..9|}}") 2 25
    ∷ refuses (bytes "A matches {a matches {|>=5..9|}}") 2 26
    ∷ refuses (bytes "A matches {a matches {|5...9|}}") 2 26
    ∷ refuses (bytes "A matches {a matches {|5..<=9|}}") 2 26
    ∷ refuses (bytes "A matches {a matches {|> =5|}}") 2 25
    ∷ accepts (bytes "A matches {a matches {|> 5 .. < 9|}}") (object_with 1 (bytes "A") [] (attribute_with 2 2 (bytes "a") (leaf (ranges integers (range 3 2_147_483_654 2_147_483_656 ∷ []))) no_more))
    ∷ refuses (bytes "A matches {a matches {|\"a\"|}}") 2 23
    ∷ refuses (bytes "A matches {a matches {|True|}}") 2 23
    ∷ refuses (bytes "A matches {a matches {|5..9..10|}}") 2 27
    -- numbers in intervals: 5 where an integer may stand, 2 where none may
    ∷ refuses (bytes "A matches {a matches {|007|}}") 5 23
    ∷ refuses (bytes "A matches {a matches {|>007|}}") 5 24
    ∷ refuses (bytes "A matches {a matches {|5..007|}}") 5 26
    ∷ refuses (bytes "A matches {a matches {|5..<-0|}}") 5 27
    ∷ refuses (bytes "A matches {a matches {|>007..9|}}") 5 24
    ∷ refuses (bytes "A matches {a matches {|5 007|}}") 2 25
    ∷ refuses (bytes "A matches {a matches {5 007}}") 2 24
    -- every interval of dates
    ∷ accepts (bytes "A matches {a matches {|2004-05-20|}}") (object_with 1 (bytes "A") [] (attribute_with 2 2 (bytes "a") (leaf (ranges dates (range 3 20_040_520 20_040_520 ∷ []))) no_more))
    ∷ accepts (bytes "A matches {a matches {|2004-05-20..2005-01-01|}}") (object_with 1 (bytes "A") [] (attribute_with 2 2 (bytes "a") (leaf (ranges dates (range 3 20_040_520 20_050_101 ∷ []))) no_more))
    ∷ accepts (bytes "A matches {a matches {|2004-05-20..<2005-01-02|}}") (object_with 1 (bytes "A") [] (attribute_with 2 2 (bytes "a") (leaf (ranges dates (range 3 20_040_520 20_050_101 ∷ []))) no_more))
    ∷ accepts (bytes "A matches {a matches {|>2004-05-20..2005-01-01|}}") (object_with 1 (bytes "A") [] (attribute_with 2 2 (bytes "a") (leaf (ranges dates (range 3 20_040_521 20_050_101 ∷ []))) no_more))
    ∷ accepts (bytes "A matches {a matches {|>2004-05-20..<2005-01-02|}}") (object_with 1 (bytes "A") [] (attribute_with 2 2 (bytes "a") (leaf (ranges dates (range 3 20_040_521 20_050_101 ∷ []))) no_more))
    ∷ accepts (bytes "A matches {a matches {|<2004-05-20|}}") (object_with 1 (bytes "A") [] (attribute_with 2 2 (bytes "a") (leaf (ranges dates (range 3 101 20_040_519 ∷ []))) no_more))
    ∷ accepts (bytes "A matches {a matches {|>2004-05-20|}}") (object_with 1 (bytes "A") [] (attribute_with 2 2 (bytes "a") (leaf (ranges dates (range 3 20_040_521 99_991_231 ∷ []))) no_more))
    ∷ accepts (bytes "A matches {a matches {|<=2004-05-20|}}") (object_with 1 (bytes "A") [] (attribute_with 2 2 (bytes "a") (leaf (ranges dates (range 3 101 20_040_520 ∷ []))) no_more))
    ∷ accepts (bytes "A matches {a matches {|>=2004-05-20|}}") (object_with 1 (bytes "A") [] (attribute_with 2 2 (bytes "a") (leaf (ranges dates (range 3 20_040_520 99_991_231 ∷ []))) no_more))
    ∷ refuses (bytes "A matches {a matches {|2004-05-20+/-1|}}") 2 33
    -- open ends move by one calendar day
    ∷ accepts (bytes "A matches {a matches {|>2003-12-31|}}") (object_with 1 (bytes "A") [] (attribute_with 2 2 (bytes "a") (leaf (ranges dates (range 3 20_040_101 99_991_231 ∷ []))) no_more))
    ∷ accepts (bytes "A matches {a matches {|<2004-01-01|}}") (object_with 1 (bytes "A") [] (attribute_with 2 2 (bytes "a") (leaf (ranges dates (range 3 101 20_031_231 ∷ []))) no_more))
    ∷ accepts (bytes "A matches {a matches {|>2004-02-28|}}") (object_with 1 (bytes "A") [] (attribute_with 2 2 (bytes "a") (leaf (ranges dates (range 3 20_040_229 99_991_231 ∷ []))) no_more))
    ∷ accepts (bytes "A matches {a matches {|>2004-02-29|}}") (object_with 1 (bytes "A") [] (attribute_with 2 2 (bytes "a") (leaf (ranges dates (range 3 20_040_301 99_991_231 ∷ []))) no_more))
    ∷ accepts (bytes "A matches {a matches {|>2003-02-28|}}") (object_with 1 (bytes "A") [] (attribute_with 2 2 (bytes "a") (leaf (ranges dates (range 3 20_030_301 99_991_231 ∷ []))) no_more))
    ∷ accepts (bytes "A matches {a matches {|<2004-03-01|}}") (object_with 1 (bytes "A") [] (attribute_with 2 2 (bytes "a") (leaf (ranges dates (range 3 101 20_040_229 ∷ []))) no_more))
    ∷ accepts (bytes "A matches {a matches {|<2003-03-01|}}") (object_with 1 (bytes "A") [] (attribute_with 2 2 (bytes "a") (leaf (ranges dates (range 3 101 20_030_228 ∷ []))) no_more))
    ∷ accepts (bytes "A matches {a matches {|<1900-03-01|}}") (object_with 1 (bytes "A") [] (attribute_with 2 2 (bytes "a") (leaf (ranges dates (range 3 101 19_000_228 ∷ []))) no_more))
    ∷ accepts (bytes "A matches {a matches {|<2000-03-01|}}") (object_with 1 (bytes "A") [] (attribute_with 2 2 (bytes "a") (leaf (ranges dates (range 3 101 20_000_229 ∷ []))) no_more))
    ∷ accepts (bytes "A matches {a matches {|>2004-04-30|}}") (object_with 1 (bytes "A") [] (attribute_with 2 2 (bytes "a") (leaf (ranges dates (range 3 20_040_501 99_991_231 ∷ []))) no_more))
    ∷ accepts (bytes "A matches {a matches {|>2004-12-31..<2006-01-01|}}") (object_with 1 (bytes "A") [] (attribute_with 2 2 (bytes "a") (leaf (ranges dates (range 3 20_050_101 20_051_231 ∷ []))) no_more))
    -- dates at the range's ends, and empty intervals of dates
    ∷ accepts (bytes "A matches {a matches {|0000-01-01..9999-12-31|}}") (object_with 1 (bytes "A") [] (attribute_with 2 2 (bytes "a") (leaf (ranges dates (range 3 101 99_991_231 ∷ []))) no_more))
    ∷ refuses (bytes "A matches {a matches {|>9999-12-31|}}") 6 34
    ∷ refuses (bytes "A matches {a matches {|<0000-01-01|}}") 6 34
    ∷ accepts (bytes "A matches {a matches {|>=9999-12-31|}}") (object_with 1 (bytes "A") [] (attribute_with 2 2 (bytes "a") (leaf (ranges dates (range 3 99_991_231 99_991_231 ∷ []))) no_more))
    ∷ accepts (bytes "A matches {a matches {|<=0000-01-01|}}") (object_with 1 (bytes "A") [] (attribute_with 2 2 (bytes "a") (leaf (ranges dates (range 3 101 101 ∷ []))) no_more))
    ∷ accepts (bytes "A matches {a matches {|>9999-12-30|}}") (object_with 1 (bytes "A") [] (attribute_with 2 2 (bytes "a") (leaf (ranges dates (range 3 99_991_231 99_991_231 ∷ []))) no_more))
    ∷ accepts (bytes "A matches {a matches {|<0000-01-02|}}") (object_with 1 (bytes "A") [] (attribute_with 2 2 (bytes "a") (leaf (ranges dates (range 3 101 101 ∷ []))) no_more))
    ∷ refuses (bytes "A matches {a matches {|>2003-12-31..<2004-01-01|}}") 6 47
    ∷ accepts (bytes "A matches {a matches {|>2003-12-31..<2004-01-02|}}") (object_with 1 (bytes "A") [] (attribute_with 2 2 (bytes "a") (leaf (ranges dates (range 3 20_040_101 20_040_101 ∷ []))) no_more))
    ∷ refuses (bytes "A matches {a matches {|2004-05-20..2004-05-19|}}") 6 45
    ∷ refuses (bytes "A matches {a matches {|>9999-12-31..<0000-01-01|}}") 6 47
    -- dates that the calendar has, and others
    ∷ accepts (bytes "A matches {a matches {|2000-02-29|}}") (object_with 1 (bytes "A") [] (attribute_with 2 2 (bytes "a") (leaf (ranges dates (range 3 20_000_229 20_000_229 ∷ []))) no_more))
    ∷ refuses (bytes "A matches {a matches {|1900-02-29|}}") 5 23
    ∷ refuses (bytes "A matches {a matches {|2004-02-30|}}") 5 23
    ∷ refuses (bytes "A matches {a matches {|2004-13-10|}}") 5 23
    ∷ refuses (bytes "A matches {a matches {|2004-12-00|}}") 5 23
    ∷ refuses (bytes "A matches {a matches {|2004-01-01..2004-02-30|}}") 5 35
    ∷ refuses (bytes "A matches {a matches {|>2004-02-30|}}") 5 24
    -- what is no date, and dates outside bars
    ∷ refuses (bytes "A matches {a matches {2004-05-20}}") 2 22
    ∷ refuses (bytes "A matches {a matches {|2004-05|}}") 2 27
    ∷ accepts (bytes "A matches {a matches {|2004|}}") (object_with 1 (bytes "A") [] (attribute_with 2 2 (bytes "a") (leaf (ranges integers (range 3 2_147_485_652 2_147_485_652 ∷ []))) no_more))
    ∷ refuses (bytes "A matches {a matches {|2004-05-2|}}") 2 27
    ∷ refuses (bytes "A matches {a matches {|2004-05-201|}}") 2 33
    ∷ refuses (bytes "A matches {a matches {|12004-05-20|}}") 2 28
    ∷ refuses (bytes "A matches {a matches {|-2004-01-01|}}") 2 28
    ∷ refuses (bytes "A matches {a matches {12004-05-20}}") 2 27
    ∷ refuses (bytes "A matches {a matches {-2004-01-01}}") 2 27
    ∷ refuses (bytes "A matches {a matches {2004-05}}") 2 26
    ∷ refuses (bytes "A matches {a matches {5, 2004-05-20}}") 2 25
    -- items that overlap, told at the later item, and items that only touch
    ∷ refuses (bytes "A matches {a matches {5, |5..9|}}") 9 25
    ∷ refuses (bytes "A matches {a matches {|5..9|, 9}}") 9 30
    ∷ accepts (bytes "A matches {a matches {|5..9|, 10}}") (object_with 1 (bytes "A") [] (attribute_with 2 2 (bytes "a") (leaf (ranges integers (range 3 2_147_483_653 2_147_483_657 ∷ range 4 2_147_483_658 2_147_483_658 ∷ []))) no_more))
    ∷ accepts (bytes "A matches {a matches {|5..9|, 4}}") (object_with 1 (bytes "A") [] (attribute_with 2 2 (bytes "a") (leaf (ranges integers (range 3 2_147_483_653 2_147_483_657 ∷ range 4 2_147_483_652 2_147_483_652 ∷ []))) no_more))
    ∷ refuses (bytes "A matches {a matches {|1..3|, |3..5|}}") 9 30
    ∷ accepts (bytes "A matches {a matches {|1..3|, |4..5|}}") (object_with 1 (bytes "A") [] (attribute_with 2 2 (bytes "a") (leaf (ranges integers (range 3 2_147_483_649 2_147_483_651 ∷ range 4 2_147_483_652 2_147_483_653 ∷ []))) no_more))
    ∷ refuses (bytes "A matches {a matches {|1..9|, |3..5|}}") 9 30
    ∷ accepts (bytes "A matches {a matches {|>=5|, |<5|}}") (object_with 1 (bytes "A") [] (attribute_with 2 2 (bytes "a") (leaf (ranges integers (range 3 2_147_483_653 4_294_967_295 ∷ range 4 0 2_147_483_652 ∷ []))) no_more))
    ∷ refuses (bytes "A matches {a matches {|>=5|, |<=5|}}") 9 29
    ∷ refuses (bytes "A matches {a matches {1, 2, 2, 1}}") 9 28
    ∷ accepts (bytes "A matches {a matches {|100+/-5|, 106}}") (object_with 1 (bytes "A") [] (attribute_with 2 2 (bytes "a") (leaf (ranges integers (range 3 2_147_483_743 2_147_483_753 ∷ range 4 2_147_483_754 2_147_483_754 ∷ []))) no_more))
    ∷ refuses (bytes "A matches {a matches {|100+/-5|, 105}}") 9 33
    ∷ accepts (bytes "A matches {a matches {|0..<1000|, 1000}}") (object_with 1 (bytes "A") [] (attribute_with 2 2 (bytes "a") (leaf (ranges integers (range 3 2_147_483_648 2_147_484_647 ∷ range 4 2_147_484_648 2_147_484_648 ∷ []))) no_more))
    ∷ refuses (bytes "A matches {a matches {|0..<1000|, 999}}") 9 34
    ∷ accepts (bytes "A matches {a matches {|<2004-01-01|, |>=2004-01-01|}}") (object_with 1 (bytes "A") [] (attribute_with 2 2 (bytes "a") (leaf (ranges dates (range 3 101 20_031_231 ∷ range 4 20_040_101 99_991_231 ∷ []))) no_more))
    ∷ refuses (bytes "A matches {a matches {|<=2004-01-01|, |>=2004-01-01|}}") 9 38
    ∷ accepts (bytes "A matches {a matches {|>2003-12-31|, |2003-12-31|}}") (object_with 1 (bytes "A") [] (attribute_with 2 2 (bytes "a") (leaf (ranges dates (range 3 20_040_101 99_991_231 ∷ range 4 20_031_231 20_031_231 ∷ []))) no_more))
    ∷ refuses (bytes "A matches {a matches {|2004-01-01..2004-02-01|, |2004-02-02|, |2004-01-31|}}") 9 62
    -- an item with a fault of its own overlaps nothing
    ∷ refuses (bytes "A matches {a matches {5, |5..9}}") 2 30
    ∷ refuses (bytes "A matches {a matches {5, |5..4|}}") 6 30
    ∷ refuses (bytes "A matches {a matches {5, |5..09|}}") 5 29
    ∷ refuses (bytes "A matches {a matches {5, |5..x|}}") 2 29
    ∷ refuses (bytes "A matches {a matches {5, |5..9| x}}") 9 25
    ∷ refuses (bytes "A matches {a matches {5, 5..9}}") 9 25
    ∷ refuses (bytes "A matches {a matches {|9..5|, 5, 5}}") 6 27
    ∷ refuses (bytes "A matches {a matches {5, |4+/-2147483647|}}") 5 30
    ∷ refuses (bytes "A matches {a matches {007, 7}}") 5 22
    ∷ refuses (bytes "A matches {a matches {5, 5, 007}}") 9 25
    ∷ refuses (bytes "A matches {a matches {|2004-01-01|, |2004-01-01..2003-01-01|}}") 6 59
    -- mixed items, told at the first token that shows it
    ∷ refuses (bytes "A matches {a matches {5, \"a\"}}") 2 25
    ∷ refuses (bytes "A matches {a matches {\"a\", 5}}") 2 27
    ∷ refuses (bytes "A matches {a matches {5, |2004-01-01|}}") 2 26
    ∷ refuses (bytes "A matches {a matches {|2004-01-01|, 5}}") 2 36
    ∷ refuses (bytes "A matches {a matches {|2004-01-01|, |5|}}") 2 37
    ∷ refuses (bytes "A matches {a matches {\"a\", |5|}}") 2 27
    ∷ refuses (bytes "A matches {a matches {True, 5}}") 2 28
    ∷ refuses (bytes "A matches {a matches {5, True}}") 2 25
    ∷ refuses (bytes "A matches {a matches {5, yyyy-mm-dd}}") 2 25
    ∷ refuses (bytes "A matches {a matches {|5..2004-01-01|}}") 2 26
    ∷ refuses (bytes "A matches {a matches {|2004-01-01..5|}}") 2 35
    ∷ refuses (bytes "A matches {a matches {5, B matches {*}}}") 2 25
    ∷ refuses (bytes "A matches {a matches {*, 5}}") 2 23
    -- Booleans
    ∷ accepts (bytes "A matches {a matches {True}}") (object_with 1 (bytes "A") [] (attribute_with 2 2 (bytes "a") (leaf (single booleans 3 1)) no_more))
    ∷ accepts (bytes "A matches {a matches {False}}") (object_with 1 (bytes "A") [] (attribute_with 2 2 (bytes "a") (leaf (single booleans 3 2)) no_more))
    ∷ accepts (bytes "A matches {a matches {True, False}}") (object_with 1 (bytes "A") [] (attribute_with 2 2 (bytes "a") (leaf (single booleans 3 3)) no_more))
    ∷ accepts (bytes "A matches {a matches {False, True}}") (object_with 1 (bytes "A") [] (attribute_with 2 2 (bytes "a") (leaf (single booleans 3 3)) no_more))
    ∷ refuses (bytes "A matches {a matches {True, True}}") 9 28
    ∷ refuses (bytes "A matches {a matches {False, False}}") 9 29
    ∷ refuses (bytes "A matches {a matches {True, False, True}}") 2 33
    ∷ refuses (bytes "A matches {a matches {True, False,}}") 2 33
    ∷ refuses (bytes "A matches {a matches {True False}}") 2 27
    ∷ refuses (bytes "A matches {a matches {True,}}") 2 27
    ∷ refuses (bytes "A matches {a matches {true}}") 2 22
    ∷ refuses (bytes "A matches {a matches {TRUE}}") 2 26
    -- patterns
    ∷ accepts (bytes "A matches {a matches {yyyy-mm-dd}}") (object_with 1 (bytes "A") [] (attribute_with 2 2 (bytes "a") (leaf (single date_pattern 3 1)) no_more))
    ∷ accepts (bytes "A matches {a matches {yyyy-mm-??}}") (object_with 1 (bytes "A") [] (attribute_with 2 2 (bytes "a") (leaf (single date_pattern 3 2)) no_more))
    ∷ accepts (bytes "A matches {a matches {yyyy-??-??}}") (object_with 1 (bytes "A") [] (attribute_with 2 2 (bytes "a") (leaf (single date_pattern 3 3)) no_more))
    ∷ accepts (bytes "A matches {a matches {yyyy-mm-XX}}") (object_with 1 (bytes "A") [] (attribute_with 2 2 (bytes "a") (leaf (single date_pattern 3 4)) no_more))
    ∷ accepts (bytes "A matches {a matches {yyyy-??-XX}}") (object_with 1 (bytes "A") [] (attribute_with 2 2 (bytes "a") (leaf (single date_pattern 3 5)) no_more))
    ∷ accepts (bytes "A matches {a matches {Thh:mm:ss}}") (object_with 1 (bytes "A") [] (attribute_with 2 2 (bytes "a") (leaf (single time_pattern 3 1)) no_more))
    ∷ accepts (bytes "A matches {a matches {Thh:mm:XX}}") (object_with 1 (bytes "A") [] (attribute_with 2 2 (bytes "a") (leaf (single time_pattern 3 2)) no_more))
    ∷ accepts (bytes "A matches {a matches {Thh:??:XX}}") (object_with 1 (bytes "A") [] (attribute_with 2 2 (bytes "a") (leaf (single time_pattern 3 3)) no_more))
    ∷ accepts (bytes "A matches {a matches {Thh:??:??}}") (object_with 1 (bytes "A") [] (attribute_with 2 2 (bytes "a") (leaf (single time_pattern 3 4)) no_more))
    ∷ accepts (bytes "A matches {a matches { yyyy-mm-dd--\n}}") (object_with 1 (bytes "A") [] (attribute_with 2 2 (bytes "a") (leaf (single date_pattern 3 1)) no_more))
    -- duration patterns
    ∷ accepts (bytes "A matches {a matches {Pd}}") (object_with 1 (bytes "A") [] (attribute_with 2 2 (bytes "a") (leaf (single duration_pattern 3 8)) no_more))
    ∷ accepts (bytes "A matches {a matches {Pwd}}") (object_with 1 (bytes "A") [] (attribute_with 2 2 (bytes "a") (leaf (single duration_pattern 3 12)) no_more))
    ∷ accepts (bytes "A matches {a matches {PTm}}") (object_with 1 (bytes "A") [] (attribute_with 2 2 (bytes "a") (leaf (single duration_pattern 3 32)) no_more))
    ∷ accepts (bytes "A matches {a matches {PmTm}}") (object_with 1 (bytes "A") [] (attribute_with 2 2 (bytes "a") (leaf (single duration_pattern 3 34)) no_more))
    ∷ accepts (bytes "A matches {a matches {PymwdThms}}") (object_with 1 (bytes "A") [] (attribute_with 2 2 (bytes "a") (leaf (single duration_pattern 3 127)) no_more))
    ∷ accepts (bytes "A matches {a matches {Pd --c\n}}") (object_with 1 (bytes "A") [] (attribute_with 2 2 (bytes "a") (leaf (single duration_pattern 3 8)) no_more))
    -- what is no duration pattern, or isn't followed by `}`
    ∷ refuses (bytes "A matches {a matches {P}}") 2 23
    ∷ refuses (bytes "A matches {a matches {PT}}") 2 24
    ∷ refuses (bytes "A matches {a matches {PD}}") 2 24
    ∷ refuses (bytes "A matches {a matches {PdT}}") 2 25
    ∷ refuses (bytes "A matches {a matches {Pdm}}") 2 25
    ∷ refuses (bytes "A matches {a matches {Pdd}}") 2 25
    ∷ refuses (bytes "A matches {a matches {P1d}}") 2 25
    ∷ refuses (bytes "A matches {a matches {PdX}}") 2 25
    ∷ refuses (bytes "A matches {a matches {-Pd}}") 2 22
    ∷ refuses (bytes "A matches {a matches {|Pd|}}") 2 23
    ∷ refuses (bytes "A matches {a matches {Pd, Pw}}") 2 24
    ∷ refuses (bytes "A matches {a matches {Pd;}}") 2 24
    ∷ refuses (bytes "A matches {a matches {Pd Pd}}") 2 25
    ∷ refuses (bytes "A matches {a matches {Pd[at1]}}") 2 29
    ∷ refuses (bytes "A matches {a matches {Pd]}}") 2 24
    ∷ accepts (bytes "A matches {a matches {Pd matches {*}}}") (object_with 1 (bytes "A") [] (attribute_with 2 2 (bytes "a") (nested (object_with 3 (bytes "Pd") [] no_more)) no_more))
    ∷ accepts (bytes "A matches {a matches {Pd[at1] matches {*}}}") (object_with 1 (bytes "A") [] (attribute_with 2 2 (bytes "a") (nested (object_with 3 (bytes "Pd") (bytes "at1") no_more)) no_more))
    ∷ refuses (bytes "A matches {a matches {|P1d..P2d|}}") 2 23
    -- what is no pattern, or more than one
    ∷ refuses (bytes "A matches {a matches {yyyy-mm-d}}") 2 22
    ∷ refuses (bytes "A matches {a matches {yyyy-mm}}") 2 22
    ∷ refuses (bytes "A matches {a matches {yyyy-mm-ddx}}") 2 32
    ∷ refuses (bytes "A matches {a matches {yyyy-mm-ddThh:mm:ss}}") 2 32
    ∷ refuses (bytes "A matches {a matches {yyyy-??-dd}}") 2 22
    ∷ refuses (bytes "A matches {a matches {Thh}}") 2 25
    ∷ refuses (bytes "A matches {a matches {Thh:mm}}") 2 25
    ∷ refuses (bytes "A matches {a matches {Thh:mm:??}}") 2 25
    ∷ refuses (bytes "A matches {a matches {Thh:mm:ssx}}") 2 31
    ∷ refuses (bytes "A matches {a matches {yyyy-mm-dd, yyyy-mm-??}}") 2 32
    ∷ accepts (bytes "A matches {a matches {\"yyyy-mm-dd\"}}") (object_with 1 (bytes "A") [] (attribute_with 2 2 (bytes "a") (leaf (texts (item 3 (bytes "yyyy-mm-dd") ∷ []))) no_more))
    -- strings
    ∷ accepts (bytes "A matches {a matches {\"\"}}") (object_with 1 (bytes "A") [] (attribute_with 2 2 (bytes "a") (leaf (texts (item 3 [] ∷ []))) no_more))
    ∷ accepts (bytes "A matches {a matches {\" ~'{}|,*--\"}}") (object_with 1 (bytes "A") [] (attribute_with 2 2 (bytes "a") (leaf (texts (item 3 (bytes " ~'{}|,*--") ∷ []))) no_more))
    ∷ accepts (bytes "A matches {a matches {\"a\", \"b\"}}") (object_with 1 (bytes "A") [] (attribute_with 2 2 (bytes "a") (leaf (texts (item 3 (bytes "a") ∷ item 4 (bytes "b") ∷ []))) no_more))
    ∷ accepts (bytes "A matches {a matches {\"a\",\"ab\"}}") (object_with 1 (bytes "A") [] (attribute_with 2 2 (bytes "a") (leaf (texts (item 3 (bytes "a") ∷ item 4 (bytes "ab") ∷ []))) no_more))
    ∷ accepts (bytes "A matches {a matches {\"ab\",\"a\"}}") (object_with 1 (bytes "A") [] (attribute_with 2 2 (bytes "a") (leaf (texts (item 3 (bytes "ab") ∷ item 4 (bytes "a") ∷ []))) no_more))
    ∷ accepts (bytes "A matches {a matches {\"a\", \"A\"}}") (object_with 1 (bytes "A") [] (attribute_with 2 2 (bytes "a") (leaf (texts (item 3 (bytes "a") ∷ item 4 (bytes "A") ∷ []))) no_more))
    ∷ refuses (bytes "A matches {a matches {\"a\", \"a\"}}") 9 27
    ∷ refuses (bytes "A matches {a matches {\"\", \"\"}}") 9 26
    ∷ refuses (bytes "A matches {a matches {\"a\", \"b\", \"b\", \"a\"}}") 9 32
    ∷ refuses (bytes "A matches {a matches {\"a\" \"b\"}}") 2 26
    ∷ refuses (bytes "A matches {a matches {\"a\"\"b\"}}") 2 25
    ∷ refuses (bytes "A matches {a matches {\"a}}") 2 22
    ∷ refuses (bytes "A matches {a matches {\"a\\\"b\"}}") 2 22
    ∷ refuses (bytes "A matches {a matches {\"\t\"}}") 2 22
    ∷ refuses (bytes "A matches {a matches {\"\u{7f}\"}}") 2 22
    ∷ refuses (bytes "A matches {a matches {\"â\u{88}\u{88}\"}}") 2 22
    ∷ refuses (bytes "A matches {a matches {\"a\", \"a}}") 2 27
    -- 16 items and the 17th
    ∷ accepts (bytes "A matches {a matches {1,2,3,4,5,6,7,8,9,10,11,12,13,14,15,16}}") (object_with 1 (bytes "A") [] (attribute_with 2 2 (bytes "a") (leaf (ranges integers (range 3 2_147_483_649 2_147_483_649 ∷ range 4 2_147_483_650 2_147_483_650 ∷ range 5 2_147_483_651 2_147_483_651 ∷ range 6 2_147_483_652 2_147_483_652 ∷ range 7 2_147_483_653 2_147_483_653 ∷ range 8 2_147_483_654 2_147_483_654 ∷ range 9 2_147_483_655 2_147_483_655 ∷ range 10 2_147_483_656 2_147_483_656 ∷ range 11 2_147_483_657 2_147_483_657 ∷ range 12 2_147_483_658 2_147_483_658 ∷ range 13 2_147_483_659 2_147_483_659 ∷ range 14 2_147_483_660 2_147_483_660 ∷ range 15 2_147_483_661 2_147_483_661 ∷ range 16 2_147_483_662 2_147_483_662 ∷ range 17 2_147_483_663 2_147_483_663 ∷ range 18 2_147_483_664 2_147_483_664 ∷ []))) no_more))
    ∷ refuses (bytes "A matches {a matches {1,2,3,4,5,6,7,8,9,10,11,12,13,14,15,16,17}}") 7 61
    ∷ refuses (bytes "A matches {a matches {1,2,3,4,5,6,7,8,9,10,11,12,13,14,15,16,|17..18|}}") 7 61
    ∷ refuses (bytes "A matches {a matches {1,2,3,4,5,6,7,8,9,10,11,12,13,14,15,16,007}}") 5 61
    ∷ refuses (bytes "A matches {a matches {1,2,3,4,5,6,7,8,9,10,11,12,13,14,15,16,|007|}}") 7 61
    ∷ refuses (bytes "A matches {a matches {1,2,3,4,5,6,7,8,9,10,11,12,13,14,15,16,1}}") 7 61
    ∷ refuses (bytes "A matches {a matches {1,2,3,4,5,6,7,8,9,10,11,12,13,14,15,16,\"a\"}}") 2 61
    ∷ refuses (bytes "A matches {a matches {\"a\",\"b\",\"c\",\"d\",\"e\",\"f\",\"g\",\"h\",\"i\",\"j\",\"k\",\"l\",\"m\",\"n\",\"o\",\"p\",\"q\"}}") 7 86
    ∷ refuses (bytes "A matches {a matches {\"a\",\"b\",\"c\",\"d\",\"e\",\"f\",\"g\",\"h\",\"i\",\"j\",\"k\",\"l\",\"m\",\"n\",\"o\",\"p\",\"a\"}}") 7 86
    ∷ refuses (bytes "A matches {a matches {\"a\",\"b\",\"c\",\"d\",\"e\",\"f\",\"g\",\"h\",\"i\",\"j\",\"k\",\"l\",\"m\",\"n\",\"o\",\"p\",\"xxxxxxxxxxxxxxxxxxxxxxxxxxxxxxxxxxxxxxxxxxxxxxxxxxxxxxxxxxxxxxxxxxxxxxxxxxxxxxxxxxxxxxxxxxxxxxxxxxxxxxxxxxxxxxxxxxxxxxxxxxxxxxxxxxxxxxxxxxxxxxxxxxxxxxxxxxxxxxxxxxxxxxxxxxxxxxxxxxxxxxxxxxxxxxxxxxxxxxxxxxxxxxxxxxxxxxxxxxxxxxxxxxxxxxxxxxxxxxxxxxxxxxxxxxxxxxxx\"}}") 4 86
    ∷ []

pub none_wrong : wrong right 0 cases ≡ []
unfolding wrong right cases object_list constraint_computes
none_wrong = refl
