-- Leaves with a closing brace behind them. The expectations are the second implementation's.
-- This file is written by `example_tables write` of second/. Assumes nothing.
use mathlib.Core.Path.{◌≡◌, refl}
use mathlib.Core.List.{List, [], ◌∷◌}
use Rattle.lexis.specs.Text.{bytes}
use Rattle.lexis.proofs.Tables.{wrong}
use Rattle.meaning.specs.Constraints.{single, ranges, texts, booleans, integers, date_pattern, dates, time_pattern, duration_pattern}
use Rattle.meaning.proofs.Trees.{range, item}
use Rattle.cadl_items.proofs.Computes.{items_compute}
use Rattle.cadl_items.proofs.Examples.{Case, reads, refuses, right}

pub cases : List Case
cases =
    -- integers: the range's ends, needless zeros, -0
    reads (bytes "5}") 1 (ranges integers (range 1 2_147_483_653 2_147_483_653 ∷ [])) 1
    ∷ reads (bytes "-5}") 1 (ranges integers (range 1 2_147_483_643 2_147_483_643 ∷ [])) 2
    ∷ reads (bytes "0}") 1 (ranges integers (range 1 2_147_483_648 2_147_483_648 ∷ [])) 1
    ∷ reads (bytes "-2147483648}") 1 (ranges integers (range 1 0 0 ∷ [])) 11
    ∷ reads (bytes "2147483647}") 1 (ranges integers (range 1 4_294_967_295 4_294_967_295 ∷ [])) 10
    ∷ refuses (bytes "2147483648}") 1 5 0
    ∷ refuses (bytes "-2147483649}") 1 5 0
    ∷ refuses (bytes "99999999999999999999}") 1 5 0
    ∷ refuses (bytes "007}") 1 5 0
    ∷ refuses (bytes "00}") 1 5 0
    ∷ refuses (bytes "-0}") 1 5 0
    ∷ refuses (bytes "5, 007}") 1 5 3
    ∷ reads (bytes "5 6}") 1 (ranges integers (range 1 2_147_483_653 2_147_483_653 ∷ [])) 1
    ∷ refuses (bytes "5,}") 1 2 2
    ∷ refuses (bytes "- 5}") 1 2 0
    ∷ refuses (bytes "+5}") 1 2 0
    ∷ reads (bytes "5-3}") 1 (ranges integers (range 1 2_147_483_653 2_147_483_653 ∷ [])) 1
    ∷ reads (bytes "5--3}") 1 (ranges integers (range 1 2_147_483_653 2_147_483_653 ∷ [])) 1
    ∷ reads (bytes "5a}") 1 (ranges integers (range 1 2_147_483_653 2_147_483_653 ∷ [])) 1
    ∷ reads (bytes "1}") 1 (ranges integers (range 1 2_147_483_649 2_147_483_649 ∷ [])) 1
    ∷ reads (bytes "-1}") 1 (ranges integers (range 1 2_147_483_647 2_147_483_647 ∷ [])) 2
    ∷ reads (bytes "10}") 1 (ranges integers (range 1 2_147_483_658 2_147_483_658 ∷ [])) 2
    ∷ refuses (bytes "-00}") 1 5 0
    ∷ refuses (bytes "-01}") 1 5 0
    ∷ refuses (bytes "01}") 1 5 0
    ∷ refuses (bytes "5, -0}") 1 5 3
    ∷ refuses (bytes ",5}") 1 2 0
    ∷ refuses (bytes "5,,6}") 1 2 2
    ∷ refuses (bytes "--5}") 1 2 4
    ∷ reads (bytes "5 -3}") 1 (ranges integers (range 1 2_147_483_653 2_147_483_653 ∷ [])) 1
    ∷ reads (bytes "5, -3}") 1 (ranges integers (range 1 2_147_483_653 2_147_483_653 ∷ range 2 2_147_483_645 2_147_483_645 ∷ [])) 5
    ∷ reads (bytes "5_}") 1 (ranges integers (range 1 2_147_483_653 2_147_483_653 ∷ [])) 1
    -- lists of integers
    ∷ reads (bytes "3,1,2}") 1 (ranges integers (range 1 2_147_483_651 2_147_483_651 ∷ range 2 2_147_483_649 2_147_483_649 ∷ range 3 2_147_483_650 2_147_483_650 ∷ [])) 5
    ∷ reads (bytes "1, |5..9|, 3}") 1 (ranges integers (range 1 2_147_483_649 2_147_483_649 ∷ range 2 2_147_483_653 2_147_483_657 ∷ range 3 2_147_483_651 2_147_483_651 ∷ [])) 12
    ∷ reads (bytes "1, 2, 3}") 1 (ranges integers (range 1 2_147_483_649 2_147_483_649 ∷ range 2 2_147_483_650 2_147_483_650 ∷ range 3 2_147_483_651 2_147_483_651 ∷ [])) 7
    ∷ reads (bytes "|5..9|, 3, |>=20|}") 1 (ranges integers (range 1 2_147_483_653 2_147_483_657 ∷ range 2 2_147_483_651 2_147_483_651 ∷ range 3 2_147_483_668 4_294_967_295 ∷ [])) 17
    ∷ reads (bytes "-5, 5}") 1 (ranges integers (range 1 2_147_483_643 2_147_483_643 ∷ range 2 2_147_483_653 2_147_483_653 ∷ [])) 5
    -- every interval of integers
    ∷ reads (bytes "|5|}") 1 (ranges integers (range 1 2_147_483_653 2_147_483_653 ∷ [])) 3
    ∷ reads (bytes "|5..9|}") 1 (ranges integers (range 1 2_147_483_653 2_147_483_657 ∷ [])) 6
    ∷ reads (bytes "|5..<9|}") 1 (ranges integers (range 1 2_147_483_653 2_147_483_656 ∷ [])) 7
    ∷ reads (bytes "|>5..9|}") 1 (ranges integers (range 1 2_147_483_654 2_147_483_657 ∷ [])) 7
    ∷ reads (bytes "|>5..<9|}") 1 (ranges integers (range 1 2_147_483_654 2_147_483_656 ∷ [])) 8
    ∷ reads (bytes "|100+/-5|}") 1 (ranges integers (range 1 2_147_483_743 2_147_483_753 ∷ [])) 9
    ∷ reads (bytes "|<5|}") 1 (ranges integers (range 1 0 2_147_483_652 ∷ [])) 4
    ∷ reads (bytes "|>5|}") 1 (ranges integers (range 1 2_147_483_654 4_294_967_295 ∷ [])) 4
    ∷ reads (bytes "|<=5|}") 1 (ranges integers (range 1 0 2_147_483_653 ∷ [])) 5
    ∷ reads (bytes "|>=5|}") 1 (ranges integers (range 1 2_147_483_653 4_294_967_295 ∷ [])) 5
    ∷ reads (bytes "|>-9..<-5|}") 1 (ranges integers (range 1 2_147_483_640 2_147_483_642 ∷ [])) 10
    ∷ reads (bytes "|0..<1000|}") 1 (ranges integers (range 1 2_147_483_648 2_147_484_647 ∷ [])) 10
    ∷ reads (bytes "|-9..-5|}") 1 (ranges integers (range 1 2_147_483_639 2_147_483_643 ∷ [])) 8
    ∷ reads (bytes "|-5..5|}") 1 (ranges integers (range 1 2_147_483_643 2_147_483_653 ∷ [])) 7
    ∷ reads (bytes "|5..5|}") 1 (ranges integers (range 1 2_147_483_653 2_147_483_653 ∷ [])) 6
    -- ends at the range's ends
    ∷ reads (bytes "|-2147483648..2147483647|}") 1 (ranges integers (range 1 0 4_294_967_295 ∷ [])) 25
    ∷ reads (bytes "|>-2147483648..<2147483647|}") 1 (ranges integers (range 1 1 4_294_967_294 ∷ [])) 27
    ∷ reads (bytes "|>=-2147483648|}") 1 (ranges integers (range 1 0 4_294_967_295 ∷ [])) 15
    ∷ reads (bytes "|<=2147483647|}") 1 (ranges integers (range 1 0 4_294_967_295 ∷ [])) 14
    ∷ reads (bytes "|>=2147483647|}") 1 (ranges integers (range 1 4_294_967_295 4_294_967_295 ∷ [])) 14
    ∷ reads (bytes "|<=-2147483648|}") 1 (ranges integers (range 1 0 0 ∷ [])) 15
    ∷ reads (bytes "|>2147483646|}") 1 (ranges integers (range 1 4_294_967_295 4_294_967_295 ∷ [])) 13
    ∷ reads (bytes "|<-2147483647|}") 1 (ranges integers (range 1 0 0 ∷ [])) 14
    ∷ reads (bytes "|-2147483648|}") 1 (ranges integers (range 1 0 0 ∷ [])) 13
    ∷ reads (bytes "|2147483647|}") 1 (ranges integers (range 1 4_294_967_295 4_294_967_295 ∷ [])) 12
    ∷ reads (bytes "|>-2147483648|}") 1 (ranges integers (range 1 1 4_294_967_295 ∷ [])) 14
    ∷ reads (bytes "|<2147483647|}") 1 (ranges integers (range 1 0 4_294_967_294 ∷ [])) 13
    ∷ reads (bytes "|>2147483646..2147483647|}") 1 (ranges integers (range 1 4_294_967_295 4_294_967_295 ∷ [])) 25
    ∷ reads (bytes "|-2147483648..<-2147483647|}") 1 (ranges integers (range 1 0 0 ∷ [])) 27
    -- empty intervals, told at the closing bar, and the narrowest
    ∷ refuses (bytes "|>2147483647|}") 1 6 12
    ∷ refuses (bytes "|<-2147483648|}") 1 6 13
    ∷ refuses (bytes "|>0..<1|}") 1 6 7
    ∷ reads (bytes "|>0..<2|}") 1 (ranges integers (range 1 2_147_483_649 2_147_483_649 ∷ [])) 8
    ∷ refuses (bytes "|>0..0|}") 1 6 6
    ∷ refuses (bytes "|0..<0|}") 1 6 6
    ∷ reads (bytes "|0..<1|}") 1 (ranges integers (range 1 2_147_483_648 2_147_483_648 ∷ [])) 7
    ∷ refuses (bytes "|5..4|}") 1 6 5
    ∷ refuses (bytes "|>2147483647..2147483647|}") 1 6 24
    ∷ refuses (bytes "| 9 .. 5  |}") 1 6 10
    ∷ refuses (bytes "|9..5}") 1 2 5
    ∷ refuses (bytes "|9..5 6|}") 1 2 6
    ∷ refuses (bytes "|>0..<0|}") 1 6 7
    ∷ reads (bytes "|>0..1|}") 1 (ranges integers (range 1 2_147_483_649 2_147_483_649 ∷ [])) 7
    ∷ refuses (bytes "|9..5|}") 1 6 5
    ∷ refuses (bytes "|>2147483647..<2147483647|}") 1 6 25
    ∷ refuses (bytes "|-2147483648..<-2147483648|}") 1 6 26
    ∷ refuses (bytes "|>-2147483648..<-2147483648|}") 1 6 27
    ∷ refuses (bytes "|>9..<5|}") 1 6 7
    ∷ refuses (bytes "|>5..4|}") 1 6 6
    ∷ refuses (bytes "|5..<4|}") 1 6 6
    ∷ refuses (bytes "|9..5}}") 1 2 5
    -- a value with a distance on either side
    ∷ reads (bytes "|100+/-0|}") 1 (ranges integers (range 1 2_147_483_748 2_147_483_748 ∷ [])) 9
    ∷ reads (bytes "|0+/-2147483647|}") 1 (ranges integers (range 1 1 4_294_967_295 ∷ [])) 16
    ∷ reads (bytes "|-1+/-2147483647|}") 1 (ranges integers (range 1 0 4_294_967_294 ∷ [])) 17
    ∷ refuses (bytes "|1+/-2147483647|}") 1 5 5
    ∷ refuses (bytes "|-2+/-2147483647|}") 1 5 6
    ∷ refuses (bytes "|0+/-2147483648|}") 1 5 5
    ∷ refuses (bytes "|2147483647+/-1|}") 1 5 14
    ∷ refuses (bytes "|-2147483648+/-1|}") 1 5 15
    ∷ refuses (bytes "|100+/--5|}") 1 6 9
    ∷ refuses (bytes "|100+/- -5|}") 1 6 10
    ∷ refuses (bytes "|100+/--0|}") 1 5 7
    ∷ refuses (bytes "|2147483647+/--1|}") 1 5 14
    ∷ refuses (bytes "|0+/--2147483648|}") 1 5 5
    ∷ refuses (bytes "|100+/---5|}") 1 2 12
    ∷ reads (bytes "|100+/---5\n5|}") 1 (ranges integers (range 1 2_147_483_743 2_147_483_753 ∷ [])) 13
    ∷ refuses (bytes "|5+/-007|}") 1 5 5
    ∷ refuses (bytes "|007+/-2|}") 1 5 1
    ∷ refuses (bytes "|2147483647+/-1}") 1 5 14
    ∷ refuses (bytes "|100+/--5}") 1 2 9
    ∷ refuses (bytes "|>5+/-2|}") 1 2 3
    ∷ refuses (bytes "|5+/-2..9|}") 1 2 6
    ∷ refuses (bytes "|5+/-2004-01-01|}") 1 2 5
    ∷ reads (bytes "5+/-2}") 1 (ranges integers (range 1 2_147_483_653 2_147_483_653 ∷ [])) 1
    ∷ reads (bytes "|2147483647+/-0|}") 1 (ranges integers (range 1 4_294_967_295 4_294_967_295 ∷ [])) 16
    ∷ reads (bytes "|-2147483648+/-0|}") 1 (ranges integers (range 1 0 0 ∷ [])) 17
    ∷ reads (bytes "|2147483642+/-5|}") 1 (ranges integers (range 1 4_294_967_285 4_294_967_295 ∷ [])) 16
    ∷ refuses (bytes "|2147483643+/-5|}") 1 5 14
    ∷ reads (bytes "|-2147483643+/-5|}") 1 (ranges integers (range 1 0 10 ∷ [])) 17
    ∷ refuses (bytes "|-2147483644+/-5|}") 1 5 15
    ∷ refuses (bytes "|-2147483648+/--1|}") 1 5 15
    ∷ refuses (bytes "|-1+/--2147483648|}") 1 5 6
    ∷ refuses (bytes "|0+/--2147483647|}") 1 6 16
    ∷ refuses (bytes "|1+/--2147483647|}") 1 5 5
    ∷ refuses (bytes "|-1+/--2147483647|}") 1 6 17
    ∷ refuses (bytes "|100+/---5\n|}") 1 2 11
    ∷ reads (bytes "|5 +/- 2|}") 1 (ranges integers (range 1 2_147_483_651 2_147_483_655 ∷ [])) 9
    ∷ refuses (bytes "|5+/-99999999999|}") 1 5 5
    ∷ refuses (bytes "|2147483647+/-1 x|}") 1 5 14
    ∷ refuses (bytes "|5+/->2|}") 1 2 5
    ∷ refuses (bytes "|5+/-|}") 1 2 5
    ∷ refuses (bytes "|5+ /-2|}") 1 2 2
    ∷ refuses (bytes "|5+2|}") 1 2 2
    ∷ refuses (bytes "|5-2|}") 1 2 2
    ∷ refuses (bytes "|5+/-2+/-2|}") 1 2 6
    ∷ refuses (bytes "|5..9+/-2|}") 1 2 5
    -- intervals with a token that can't follow
    ∷ refuses (bytes "||}") 1 2 1
    ∷ refuses (bytes "|}") 1 2 1
    ∷ refuses (bytes "|5..|}") 1 2 4
    ∷ refuses (bytes "|..5|}") 1 2 1
    ∷ refuses (bytes "|5..9}") 1 2 5
    ∷ refuses (bytes "|<5..9|}") 1 2 3
    ∷ refuses (bytes "|>=5..9|}") 1 2 4
    ∷ refuses (bytes "|5...9|}") 1 2 4
    ∷ refuses (bytes "|5..<=9|}") 1 2 4
    ∷ refuses (bytes "|> =5|}") 1 2 3
    ∷ reads (bytes "|> 5 .. < 9|}") 1 (ranges integers (range 1 2_147_483_654 2_147_483_656 ∷ [])) 12
    ∷ refuses (bytes "|\"a\"|}") 1 2 1
    ∷ refuses (bytes "|True|}") 1 2 1
    ∷ refuses (bytes "|5..9..10|}") 1 2 5
    ∷ refuses (bytes "|5}") 1 2 2
    ∷ refuses (bytes "|>|}") 1 2 2
    ∷ refuses (bytes "|<|}") 1 2 2
    ∷ refuses (bytes "|>5..|}") 1 2 5
    ∷ refuses (bytes "|>5..<|}") 1 2 6
    ∷ refuses (bytes "|<=5..9|}") 1 2 4
    ∷ refuses (bytes "|>=5..<9|}") 1 2 4
    ∷ refuses (bytes "|>5...9|}") 1 2 5
    ∷ refuses (bytes "|5..>9|}") 1 2 4
    ∷ refuses (bytes "|5..>=9|}") 1 2 4
    ∷ reads (bytes "|< 5|}") 1 (ranges integers (range 1 0 2_147_483_652 ∷ [])) 5
    ∷ refuses (bytes "|>>5|}") 1 2 2
    ∷ refuses (bytes "|=5|}") 1 2 1
    ∷ refuses (bytes "|*|}") 1 2 1
    ∷ refuses (bytes "|5,6|}") 1 2 2
    ∷ reads (bytes "|5|6|}") 1 (ranges integers (range 1 2_147_483_653 2_147_483_653 ∷ [])) 3
    ∷ reads (bytes "|5|7}") 1 (ranges integers (range 1 2_147_483_653 2_147_483_653 ∷ [])) 3
    ∷ reads (bytes "|5.. 9|}") 1 (ranges integers (range 1 2_147_483_653 2_147_483_657 ∷ [])) 7
    ∷ refuses (bytes "|5 . . 9|}") 1 2 3
    ∷ refuses (bytes "|yyyy-mm-dd|}") 1 2 1
    ∷ refuses (bytes "|>5..<9..10|}") 1 2 7
    -- numbers in intervals: 5 where an integer may stand, 2 where none may
    ∷ refuses (bytes "|007|}") 1 5 1
    ∷ refuses (bytes "|>007|}") 1 5 2
    ∷ refuses (bytes "|5..007|}") 1 5 4
    ∷ refuses (bytes "|5..<-0|}") 1 5 5
    ∷ refuses (bytes "|>007..9|}") 1 5 2
    ∷ refuses (bytes "|5 007|}") 1 2 3
    ∷ reads (bytes "5 007}") 1 (ranges integers (range 1 2_147_483_653 2_147_483_653 ∷ [])) 1
    ∷ refuses (bytes "|-0|}") 1 5 1
    ∷ refuses (bytes "|<-0|}") 1 5 2
    ∷ refuses (bytes "|<=007|}") 1 5 3
    ∷ refuses (bytes "|>=007|}") 1 5 3
    ∷ refuses (bytes "|5..<007|}") 1 5 5
    ∷ refuses (bytes "|>5..-0|}") 1 5 5
    ∷ refuses (bytes "|2147483648..|}") 1 5 1
    ∷ refuses (bytes "|-2147483649..5|}") 1 5 1
    -- every interval of dates
    ∷ reads (bytes "|2004-05-20|}") 1 (ranges dates (range 1 20_040_520 20_040_520 ∷ [])) 12
    ∷ reads (bytes "|2004-05-20..2005-01-01|}") 1 (ranges dates (range 1 20_040_520 20_050_101 ∷ [])) 24
    ∷ reads (bytes "|2004-05-20..<2005-01-02|}") 1 (ranges dates (range 1 20_040_520 20_050_101 ∷ [])) 25
    ∷ reads (bytes "|>2004-05-20..2005-01-01|}") 1 (ranges dates (range 1 20_040_521 20_050_101 ∷ [])) 25
    ∷ reads (bytes "|>2004-05-20..<2005-01-02|}") 1 (ranges dates (range 1 20_040_521 20_050_101 ∷ [])) 26
    ∷ reads (bytes "|<2004-05-20|}") 1 (ranges dates (range 1 101 20_040_519 ∷ [])) 13
    ∷ reads (bytes "|>2004-05-20|}") 1 (ranges dates (range 1 20_040_521 99_991_231 ∷ [])) 13
    ∷ reads (bytes "|<=2004-05-20|}") 1 (ranges dates (range 1 101 20_040_520 ∷ [])) 14
    ∷ reads (bytes "|>=2004-05-20|}") 1 (ranges dates (range 1 20_040_520 99_991_231 ∷ [])) 14
    ∷ refuses (bytes "|2004-05-20+/-1|}") 1 2 11
    ∷ refuses (bytes "|2004-05-20+/-2004-05-20|}") 1 2 11
    ∷ refuses (bytes "|>2004-05-20+/-1|}") 1 2 12
    -- open ends move by one calendar day
    ∷ reads (bytes "|>2003-12-31|}") 1 (ranges dates (range 1 20_040_101 99_991_231 ∷ [])) 13
    ∷ reads (bytes "|<2004-01-01|}") 1 (ranges dates (range 1 101 20_031_231 ∷ [])) 13
    ∷ reads (bytes "|>2004-02-28|}") 1 (ranges dates (range 1 20_040_229 99_991_231 ∷ [])) 13
    ∷ reads (bytes "|>2004-02-29|}") 1 (ranges dates (range 1 20_040_301 99_991_231 ∷ [])) 13
    ∷ reads (bytes "|>2003-02-28|}") 1 (ranges dates (range 1 20_030_301 99_991_231 ∷ [])) 13
    ∷ reads (bytes "|<2004-03-01|}") 1 (ranges dates (range 1 101 20_040_229 ∷ [])) 13
    ∷ reads (bytes "|<2003-03-01|}") 1 (ranges dates (range 1 101 20_030_228 ∷ [])) 13
    ∷ reads (bytes "|<1900-03-01|}") 1 (ranges dates (range 1 101 19_000_228 ∷ [])) 13
    ∷ reads (bytes "|<2000-03-01|}") 1 (ranges dates (range 1 101 20_000_229 ∷ [])) 13
    ∷ reads (bytes "|>2004-04-30|}") 1 (ranges dates (range 1 20_040_501 99_991_231 ∷ [])) 13
    ∷ reads (bytes "|>2004-12-31..<2006-01-01|}") 1 (ranges dates (range 1 20_050_101 20_051_231 ∷ [])) 26
    ∷ reads (bytes "|>1900-02-28|}") 1 (ranges dates (range 1 19_000_301 99_991_231 ∷ [])) 13
    ∷ reads (bytes "|>2000-02-28|}") 1 (ranges dates (range 1 20_000_229 99_991_231 ∷ [])) 13
    ∷ reads (bytes "|<2004-05-01|}") 1 (ranges dates (range 1 101 20_040_430 ∷ [])) 13
    ∷ reads (bytes "|>2004-01-31..<2004-03-01|}") 1 (ranges dates (range 1 20_040_201 20_040_229 ∷ [])) 26
    ∷ reads (bytes "|>2004-05-09|}") 1 (ranges dates (range 1 20_040_510 99_991_231 ∷ [])) 13
    ∷ reads (bytes "|<2004-05-10|}") 1 (ranges dates (range 1 101 20_040_509 ∷ [])) 13
    ∷ reads (bytes "|>2004-08-31|}") 1 (ranges dates (range 1 20_040_901 99_991_231 ∷ [])) 13
    ∷ reads (bytes "|<2004-08-01|}") 1 (ranges dates (range 1 101 20_040_731 ∷ [])) 13
    ∷ reads (bytes "|<2004-12-01|}") 1 (ranges dates (range 1 101 20_041_130 ∷ [])) 13
    -- dates at the range's ends, and empty intervals of dates
    ∷ reads (bytes "|0000-01-01..9999-12-31|}") 1 (ranges dates (range 1 101 99_991_231 ∷ [])) 24
    ∷ refuses (bytes "|>9999-12-31|}") 1 6 12
    ∷ refuses (bytes "|<0000-01-01|}") 1 6 12
    ∷ reads (bytes "|>=9999-12-31|}") 1 (ranges dates (range 1 99_991_231 99_991_231 ∷ [])) 14
    ∷ reads (bytes "|<=0000-01-01|}") 1 (ranges dates (range 1 101 101 ∷ [])) 14
    ∷ reads (bytes "|>9999-12-30|}") 1 (ranges dates (range 1 99_991_231 99_991_231 ∷ [])) 13
    ∷ reads (bytes "|<0000-01-02|}") 1 (ranges dates (range 1 101 101 ∷ [])) 13
    ∷ refuses (bytes "|>2003-12-31..<2004-01-01|}") 1 6 25
    ∷ reads (bytes "|>2003-12-31..<2004-01-02|}") 1 (ranges dates (range 1 20_040_101 20_040_101 ∷ [])) 26
    ∷ refuses (bytes "|2004-05-20..2004-05-19|}") 1 6 23
    ∷ refuses (bytes "|>9999-12-31..<0000-01-01|}") 1 6 25
    ∷ reads (bytes "|>0000-01-01|}") 1 (ranges dates (range 1 102 99_991_231 ∷ [])) 13
    ∷ reads (bytes "|<9999-12-31|}") 1 (ranges dates (range 1 101 99_991_230 ∷ [])) 13
    ∷ reads (bytes "|>2004-02-28..<2004-03-01|}") 1 (ranges dates (range 1 20_040_229 20_040_229 ∷ [])) 26
    ∷ refuses (bytes "|>2003-02-28..<2003-03-01|}") 1 6 25
    ∷ refuses (bytes "|2004-05-20..<2004-05-20|}") 1 6 24
    ∷ refuses (bytes "|>2004-05-20..2004-05-20|}") 1 6 24
    ∷ reads (bytes "|2004-05-20..2004-05-20|}") 1 (ranges dates (range 1 20_040_520 20_040_520 ∷ [])) 24
    ∷ refuses (bytes "|>9999-12-31..9999-12-31|}") 1 6 24
    ∷ refuses (bytes "|0000-01-01..<0000-01-01|}") 1 6 24
    ∷ refuses (bytes "|>2004-12-31..2004-12-31|}") 1 6 24
    -- dates that the calendar has, and others
    ∷ reads (bytes "|2000-02-29|}") 1 (ranges dates (range 1 20_000_229 20_000_229 ∷ [])) 12
    ∷ refuses (bytes "|1900-02-29|}") 1 5 1
    ∷ refuses (bytes "|2004-02-30|}") 1 5 1
    ∷ refuses (bytes "|2004-13-10|}") 1 5 1
    ∷ refuses (bytes "|2004-12-00|}") 1 5 1
    ∷ refuses (bytes "|2004-01-01..2004-02-30|}") 1 5 13
    ∷ refuses (bytes "|>2004-02-30|}") 1 5 2
    ∷ reads (bytes "|2004-02-29|}") 1 (ranges dates (range 1 20_040_229 20_040_229 ∷ [])) 12
    ∷ refuses (bytes "|2003-02-29|}") 1 5 1
    ∷ refuses (bytes "|2100-02-29|}") 1 5 1
    ∷ reads (bytes "|0000-02-29|}") 1 (ranges dates (range 1 229 229 ∷ [])) 12
    ∷ refuses (bytes "|2004-04-31|}") 1 5 1
    ∷ refuses (bytes "|2004-00-10|}") 1 5 1
    ∷ refuses (bytes "|2004-12-32|}") 1 5 1
    ∷ refuses (bytes "|0000-00-00|}") 1 5 1
    ∷ refuses (bytes "|9999-99-99|}") 1 5 1
    ∷ refuses (bytes "|<2004-06-31..|}") 1 5 2
    ∷ refuses (bytes "|2004-02-30..2004-02-31|}") 1 5 1
    -- what is no date, and dates outside bars
    ∷ refuses (bytes "2004-05-20}") 1 2 0
    ∷ refuses (bytes "|2004-05|}") 1 2 5
    ∷ reads (bytes "|2004|}") 1 (ranges integers (range 1 2_147_485_652 2_147_485_652 ∷ [])) 6
    ∷ refuses (bytes "|2004-05-2|}") 1 2 5
    ∷ refuses (bytes "|2004-05-201|}") 1 2 11
    ∷ refuses (bytes "|12004-05-20|}") 1 2 6
    ∷ refuses (bytes "|-2004-01-01|}") 1 2 6
    ∷ reads (bytes "12004-05-20}") 1 (ranges integers (range 1 2_147_495_652 2_147_495_652 ∷ [])) 5
    ∷ reads (bytes "-2004-01-01}") 1 (ranges integers (range 1 2_147_481_644 2_147_481_644 ∷ [])) 5
    ∷ reads (bytes "2004-05}") 1 (ranges integers (range 1 2_147_485_652 2_147_485_652 ∷ [])) 4
    ∷ refuses (bytes "5, 2004-05-20}") 1 2 3
    ∷ refuses (bytes "|2004-5-20|}") 1 2 5
    ∷ refuses (bytes "|2004/05/20|}") 1 2 5
    ∷ refuses (bytes "|2004-05-20T10:00:00|}") 1 2 11
    ∷ refuses (bytes "2004-05-20, 5}") 1 2 0
    ∷ refuses (bytes "|>=2004-05-20..|}") 1 2 13
    ∷ refuses (bytes "|2004--05-20|}") 1 2 14
    -- items that overlap, told at the later item, and items that only touch
    ∷ refuses (bytes "5, |5..9|}") 1 9 3
    ∷ refuses (bytes "|5..9|, 9}") 1 9 8
    ∷ reads (bytes "|5..9|, 10}") 1 (ranges integers (range 1 2_147_483_653 2_147_483_657 ∷ range 2 2_147_483_658 2_147_483_658 ∷ [])) 10
    ∷ reads (bytes "|5..9|, 4}") 1 (ranges integers (range 1 2_147_483_653 2_147_483_657 ∷ range 2 2_147_483_652 2_147_483_652 ∷ [])) 9
    ∷ refuses (bytes "|1..3|, |3..5|}") 1 9 8
    ∷ reads (bytes "|1..3|, |4..5|}") 1 (ranges integers (range 1 2_147_483_649 2_147_483_651 ∷ range 2 2_147_483_652 2_147_483_653 ∷ [])) 14
    ∷ refuses (bytes "|1..9|, |3..5|}") 1 9 8
    ∷ reads (bytes "|>=5|, |<5|}") 1 (ranges integers (range 1 2_147_483_653 4_294_967_295 ∷ range 2 0 2_147_483_652 ∷ [])) 11
    ∷ refuses (bytes "|>=5|, |<=5|}") 1 9 7
    ∷ refuses (bytes "1, 2, 2, 1}") 1 9 6
    ∷ reads (bytes "|100+/-5|, 106}") 1 (ranges integers (range 1 2_147_483_743 2_147_483_753 ∷ range 2 2_147_483_754 2_147_483_754 ∷ [])) 14
    ∷ refuses (bytes "|100+/-5|, 105}") 1 9 11
    ∷ reads (bytes "|0..<1000|, 1000}") 1 (ranges integers (range 1 2_147_483_648 2_147_484_647 ∷ range 2 2_147_484_648 2_147_484_648 ∷ [])) 16
    ∷ refuses (bytes "|0..<1000|, 999}") 1 9 12
    ∷ reads (bytes "|<2004-01-01|, |>=2004-01-01|}") 1 (ranges dates (range 1 101 20_031_231 ∷ range 2 20_040_101 99_991_231 ∷ [])) 29
    ∷ refuses (bytes "|<=2004-01-01|, |>=2004-01-01|}") 1 9 16
    ∷ reads (bytes "|>2003-12-31|, |2003-12-31|}") 1 (ranges dates (range 1 20_040_101 99_991_231 ∷ range 2 20_031_231 20_031_231 ∷ [])) 27
    ∷ refuses (bytes "|2004-01-01..2004-02-01|, |2004-02-02|, |2004-01-31|}") 1 9 40
    ∷ reads (bytes "4, |5..9|}") 1 (ranges integers (range 1 2_147_483_652 2_147_483_652 ∷ range 2 2_147_483_653 2_147_483_657 ∷ [])) 9
    ∷ reads (bytes "10, |5..9|}") 1 (ranges integers (range 1 2_147_483_658 2_147_483_658 ∷ range 2 2_147_483_653 2_147_483_657 ∷ [])) 10
    ∷ refuses (bytes "9, |5..9|}") 1 9 3
    ∷ reads (bytes "|4..5|, |1..3|}") 1 (ranges integers (range 1 2_147_483_652 2_147_483_653 ∷ range 2 2_147_483_649 2_147_483_651 ∷ [])) 14
    ∷ refuses (bytes "|3..5|, |1..3|}") 1 9 8
    ∷ refuses (bytes "|3..5|, |1..9|}") 1 9 8
    ∷ reads (bytes "|<5|, |>5|, 5}") 1 (ranges integers (range 1 0 2_147_483_652 ∷ range 2 2_147_483_654 4_294_967_295 ∷ range 3 2_147_483_653 2_147_483_653 ∷ [])) 13
    ∷ refuses (bytes "1, 2, 1}") 1 9 6
    ∷ refuses (bytes "5, 5}") 1 9 3
    ∷ reads (bytes "|100+/-5|, 94}") 1 (ranges integers (range 1 2_147_483_743 2_147_483_753 ∷ range 2 2_147_483_742 2_147_483_742 ∷ [])) 13
    ∷ refuses (bytes "|100+/-5|, 95}") 1 9 11
    ∷ reads (bytes "|>0..<3|, 3, 0}") 1 (ranges integers (range 1 2_147_483_649 2_147_483_650 ∷ range 2 2_147_483_651 2_147_483_651 ∷ range 3 2_147_483_648 2_147_483_648 ∷ [])) 14
    ∷ refuses (bytes "|>5|, 6}") 1 9 6
    ∷ reads (bytes "|>5|, 5}") 1 (ranges integers (range 1 2_147_483_654 4_294_967_295 ∷ range 2 2_147_483_653 2_147_483_653 ∷ [])) 7
    ∷ refuses (bytes "|2004-01-01|, |2004-01-01|}") 1 9 14
    ∷ refuses (bytes "|<2004-01-01|, |2003-12-31|}") 1 9 15
    ∷ refuses (bytes "|>2003-12-31|, |2004-01-01|}") 1 9 15
    -- an item with a fault of its own overlaps nothing
    ∷ refuses (bytes "5, |5..9}") 1 2 8
    ∷ refuses (bytes "5, |5..4|}") 1 6 8
    ∷ refuses (bytes "5, |5..09|}") 1 5 7
    ∷ refuses (bytes "5, |5..x|}") 1 2 7
    ∷ refuses (bytes "5, |5..9| x}") 1 9 3
    ∷ refuses (bytes "5, 5..9}") 1 9 3
    ∷ refuses (bytes "|9..5|, 5, 5}") 1 6 5
    ∷ refuses (bytes "5, |4+/-2147483647|}") 1 5 8
    ∷ refuses (bytes "007, 7}") 1 5 0
    ∷ refuses (bytes "5, 5, 007}") 1 9 3
    ∷ refuses (bytes "|2004-01-01|, |2004-01-01..2003-01-01|}") 1 6 37
    ∷ refuses (bytes "5, |5+/-x|}") 1 2 8
    ∷ refuses (bytes "5, 5.5}") 1 9 3
    ∷ refuses (bytes "5, |9..5|, 7}") 1 6 8
    ∷ refuses (bytes "5, |4+/-9999999999|}") 1 5 8
    ∷ refuses (bytes "5, 007, 5}") 1 5 3
    ∷ refuses (bytes "|2004-01-01|, |2004-01-01..2004-02-30|}") 1 5 27
    -- mixed items, told at the first token that shows it
    ∷ refuses (bytes "5, \"a\"}") 1 2 3
    ∷ refuses (bytes "\"a\", 5}") 1 2 5
    ∷ refuses (bytes "5, |2004-01-01|}") 1 2 4
    ∷ refuses (bytes "|2004-01-01|, 5}") 1 2 14
    ∷ refuses (bytes "|2004-01-01|, |5|}") 1 2 15
    ∷ refuses (bytes "\"a\", |5|}") 1 2 5
    ∷ refuses (bytes "True, 5}") 1 2 6
    ∷ refuses (bytes "5, True}") 1 2 3
    ∷ refuses (bytes "5, yyyy-mm-dd}") 1 2 3
    ∷ refuses (bytes "|5..2004-01-01|}") 1 2 4
    ∷ refuses (bytes "|2004-01-01..5|}") 1 2 13
    ∷ refuses (bytes "5, B matches {*}}") 1 2 3
    ∷ refuses (bytes "*, 5}") 1 2 0
    ∷ refuses (bytes "|5|, |2004-01-01|}") 1 2 6
    ∷ refuses (bytes "|2004-01-01|, |>5|}") 1 2 16
    ∷ refuses (bytes "|5|, \"a\"}") 1 2 5
    ∷ reads (bytes "yyyy-mm-dd, 5}") 1 (single date_pattern 1 1) 10
    ∷ refuses (bytes "5, *}") 1 2 3
    ∷ refuses (bytes "|5|, |<2004-01-01|}") 1 2 7
    ∷ refuses (bytes "|<2004-01-01|, |<=5|}") 1 2 18
    ∷ refuses (bytes "5, 2004-01-01}") 1 2 3
    ∷ refuses (bytes "\"a\", True}") 1 2 5
    ∷ refuses (bytes "|2004-01-01|, |2005-01-01|, 7}") 1 2 28
    -- Booleans
    ∷ reads (bytes "True}") 1 (single booleans 1 1) 4
    ∷ reads (bytes "False}") 1 (single booleans 1 2) 5
    ∷ reads (bytes "True, False}") 1 (single booleans 1 3) 11
    ∷ reads (bytes "False, True}") 1 (single booleans 1 3) 11
    ∷ refuses (bytes "True, True}") 1 9 6
    ∷ refuses (bytes "False, False}") 1 9 7
    ∷ reads (bytes "True, False, True}") 1 (single booleans 1 3) 11
    ∷ reads (bytes "True, False,}") 1 (single booleans 1 3) 11
    ∷ reads (bytes "True False}") 1 (single booleans 1 1) 4
    ∷ refuses (bytes "True,}") 1 2 5
    ∷ refuses (bytes "true}") 1 2 0
    ∷ refuses (bytes "TRUE}") 1 2 0
    ∷ reads (bytes "True,False}") 1 (single booleans 1 3) 10
    ∷ refuses (bytes "True, Tru}") 1 2 6
    ∷ refuses (bytes "True, True, True}") 1 9 6
    ∷ refuses (bytes "True, *}") 1 2 6
    -- patterns
    ∷ reads (bytes "yyyy-mm-dd}") 1 (single date_pattern 1 1) 10
    ∷ reads (bytes "yyyy-mm-??}") 1 (single date_pattern 1 2) 10
    ∷ reads (bytes "yyyy-??-??}") 1 (single date_pattern 1 3) 10
    ∷ reads (bytes "yyyy-mm-XX}") 1 (single date_pattern 1 4) 10
    ∷ reads (bytes "yyyy-??-XX}") 1 (single date_pattern 1 5) 10
    ∷ reads (bytes "Thh:mm:ss}") 1 (single time_pattern 1 1) 9
    ∷ reads (bytes "Thh:mm:XX}") 1 (single time_pattern 1 2) 9
    ∷ reads (bytes "Thh:??:XX}") 1 (single time_pattern 1 3) 9
    ∷ reads (bytes "Thh:??:??}") 1 (single time_pattern 1 4) 9
    ∷ reads (bytes " yyyy-mm-dd--\n}") 1 (single date_pattern 1 1) 11
    ∷ reads (bytes "yyyy-mm-dd\t}") 1 (single date_pattern 1 1) 10
    -- duration patterns
    ∷ reads (bytes "Pd}") 1 (single duration_pattern 1 8) 2
    ∷ reads (bytes "Pwd}") 1 (single duration_pattern 1 12) 3
    ∷ reads (bytes "PTm}") 1 (single duration_pattern 1 32) 3
    ∷ reads (bytes "PmTm}") 1 (single duration_pattern 1 34) 4
    ∷ reads (bytes "PymwdThms}") 1 (single duration_pattern 1 127) 9
    ∷ reads (bytes "Pd --c\n}") 1 (single duration_pattern 1 8) 2
    ∷ reads (bytes "Py}") 1 (single duration_pattern 1 1) 2
    ∷ reads (bytes "Pm}") 1 (single duration_pattern 1 2) 2
    ∷ reads (bytes "PTh}") 1 (single duration_pattern 1 16) 3
    ∷ reads (bytes "PTs}") 1 (single duration_pattern 1 64) 3
    ∷ reads (bytes "PThm}") 1 (single duration_pattern 1 48) 4
    ∷ reads (bytes "PwdTm}") 1 (single duration_pattern 1 44) 5
    ∷ reads (bytes " --}\nPd\t}") 1 (single duration_pattern 1 8) 7
    ∷ reads (bytes "PyThms}") 1 (single duration_pattern 1 113) 6
    -- what is no duration pattern, or isn't followed by `}`
    ∷ refuses (bytes "P}") 1 2 0
    ∷ refuses (bytes "PT}") 1 2 0
    ∷ refuses (bytes "PD}") 1 2 0
    ∷ refuses (bytes "PdT}") 1 2 0
    ∷ refuses (bytes "Pdm}") 1 2 0
    ∷ refuses (bytes "Pdd}") 1 2 0
    ∷ refuses (bytes "P1d}") 1 2 0
    ∷ refuses (bytes "PdX}") 1 2 0
    ∷ refuses (bytes "-Pd}") 1 2 0
    ∷ refuses (bytes "|Pd|}") 1 2 1
    ∷ refuses (bytes "Pd, Pw}") 1 2 0
    ∷ refuses (bytes "Pd;}") 1 2 0
    ∷ refuses (bytes "Pd Pd}") 1 2 0
    ∷ refuses (bytes "Pd[at1]}") 1 2 0
    ∷ refuses (bytes "Pd]}") 1 2 0
    ∷ refuses (bytes "Pd matches {*}}") 1 2 0
    ∷ refuses (bytes "Pd[at1] matches {*}}") 1 2 0
    ∷ refuses (bytes "|P1d..P2d|}") 1 2 1
    ∷ refuses (bytes "Pt}") 1 2 0
    ∷ refuses (bytes "pd}") 1 2 0
    ∷ refuses (bytes "PTM}") 1 2 0
    ∷ refuses (bytes "PTmh}") 1 2 0
    ∷ refuses (bytes "PTT}") 1 2 0
    ∷ refuses (bytes "Pd_}") 1 2 0
    ∷ refuses (bytes "Pdh}") 1 2 0
    ∷ refuses (bytes "PTd}") 1 2 0
    ∷ refuses (bytes "Pd 5}") 1 2 0
    ∷ refuses (bytes "Pd *}") 1 2 0
    ∷ refuses (bytes "Pd{}") 1 2 0
    ∷ refuses (bytes "5, Pd}") 1 2 3
    ∷ refuses (bytes "True, Pd}") 1 2 6
    ∷ reads (bytes "\"Pd\"}") 1 (texts (item 1 (bytes "Pd") ∷ [])) 4
    ∷ refuses (bytes "Pd..Pw}") 1 2 0
    ∷ reads (bytes "yyyy-mm-dd Pd}") 1 (single date_pattern 1 1) 10
    ∷ refuses (bytes "Pwd/|P0w..P50w|}") 1 2 0
    ∷ refuses (bytes "<Pd|}") 1 2 0
    ∷ refuses (bytes "Pd --c}") 1 2 0
    -- what is no pattern, or more than one
    ∷ refuses (bytes "yyyy-mm-d}") 1 2 0
    ∷ refuses (bytes "yyyy-mm}") 1 2 0
    ∷ reads (bytes "yyyy-mm-ddx}") 1 (single date_pattern 1 1) 10
    ∷ reads (bytes "yyyy-mm-ddThh:mm:ss}") 1 (single date_pattern 1 1) 10
    ∷ refuses (bytes "yyyy-??-dd}") 1 2 0
    ∷ refuses (bytes "Thh}") 1 2 0
    ∷ refuses (bytes "Thh:mm}") 1 2 0
    ∷ refuses (bytes "Thh:mm:??}") 1 2 0
    ∷ reads (bytes "Thh:mm:ssx}") 1 (single time_pattern 1 1) 9
    ∷ reads (bytes "yyyy-mm-dd, yyyy-mm-??}") 1 (single date_pattern 1 1) 10
    ∷ reads (bytes "\"yyyy-mm-dd\"}") 1 (texts (item 1 (bytes "yyyy-mm-dd") ∷ [])) 12
    ∷ refuses (bytes "yyyy}") 1 2 0
    ∷ refuses (bytes "yyyy-MM-dd}") 1 2 0
    ∷ refuses (bytes "yyyy-XX-XX}") 1 2 0
    ∷ refuses (bytes "YYYY-MM-DD}") 1 2 0
    ∷ refuses (bytes "yyyy-mm-xx}") 1 2 0
    ∷ refuses (bytes "yyyy-mm-?}") 1 2 0
    ∷ reads (bytes "yyyy-mm-XXX}") 1 (single date_pattern 1 4) 10
    ∷ refuses (bytes "Thh:??:ss}") 1 2 0
    ∷ refuses (bytes "Thh:XX:XX}") 1 2 0
    ∷ reads (bytes "Thh:mm:ss Z}") 1 (single time_pattern 1 1) 9
    ∷ refuses (bytes "hh:mm:ss}") 1 2 0
    ∷ refuses (bytes "thh:mm:ss}") 1 2 0
    ∷ refuses (bytes "TThh:mm:ss}") 1 2 0
    ∷ reads (bytes "Thh:mm:ss, Thh:mm:XX}") 1 (single time_pattern 1 1) 9
    ∷ reads (bytes "yyyy-mm-dd yyyy-mm-dd}") 1 (single date_pattern 1 1) 10
    -- strings
    ∷ reads (bytes "\"\"}") 1 (texts (item 1 [] ∷ [])) 2
    ∷ reads (bytes "\" ~'{}|,*--\"}") 1 (texts (item 1 (bytes " ~'{}|,*--") ∷ [])) 12
    ∷ reads (bytes "\"a\", \"b\"}") 1 (texts (item 1 (bytes "a") ∷ item 2 (bytes "b") ∷ [])) 8
    ∷ reads (bytes "\"a\",\"ab\"}") 1 (texts (item 1 (bytes "a") ∷ item 2 (bytes "ab") ∷ [])) 8
    ∷ reads (bytes "\"ab\",\"a\"}") 1 (texts (item 1 (bytes "ab") ∷ item 2 (bytes "a") ∷ [])) 8
    ∷ reads (bytes "\"a\", \"A\"}") 1 (texts (item 1 (bytes "a") ∷ item 2 (bytes "A") ∷ [])) 8
    ∷ refuses (bytes "\"a\", \"a\"}") 1 9 5
    ∷ refuses (bytes "\"\", \"\"}") 1 9 4
    ∷ refuses (bytes "\"a\", \"b\", \"b\", \"a\"}") 1 9 10
    ∷ reads (bytes "\"a\" \"b\"}") 1 (texts (item 1 (bytes "a") ∷ [])) 3
    ∷ reads (bytes "\"a\"\"b\"}") 1 (texts (item 1 (bytes "a") ∷ [])) 3
    ∷ refuses (bytes "\"a}") 1 2 0
    ∷ refuses (bytes "\"a\\\"b\"}") 1 2 0
    ∷ refuses (bytes "\"\t\"}") 1 2 0
    ∷ refuses (bytes "\"\u{7f}\"}") 1 2 0
    ∷ refuses (bytes "\"â\u{88}\u{88}\"}") 1 2 0
    ∷ refuses (bytes "\"a\", \"a}") 1 2 5
    ∷ reads (bytes "\"a b\"}") 1 (texts (item 1 (bytes "a b") ∷ [])) 5
    ∷ reads (bytes "\"--\"}") 1 (texts (item 1 (bytes "--") ∷ [])) 4
    ∷ reads (bytes "\"{}|,*\"}") 1 (texts (item 1 (bytes "{}|,*") ∷ [])) 7
    ∷ reads (bytes "\" ~\"}") 1 (texts (item 1 (bytes " ~") ∷ [])) 4
    ∷ reads (bytes "\"'\"}") 1 (texts (item 1 (bytes "'") ∷ [])) 3
    ∷ reads (bytes "\"\", \"a\"}") 1 (texts (item 1 [] ∷ item 2 (bytes "a") ∷ [])) 7
    ∷ refuses (bytes "\"a\", \"b\", \"a\"}") 1 9 10
    ∷ refuses (bytes "\"a\",}") 1 2 4
    ∷ refuses (bytes "\"}") 1 2 0
    ∷ refuses (bytes "\"a\\n\"}") 1 2 0
    ∷ refuses (bytes "\"\n\"}") 1 2 0
    ∷ refuses (bytes "\"\u{1f}\"}") 1 2 0
    ∷ refuses (bytes "\"\0\"}") 1 2 0
    ∷ refuses (bytes "\"a\", \"a\" x}") 1 9 5
    ∷ refuses (bytes "'a'}") 1 2 0
    -- 16 items and the 17th
    ∷ reads (bytes "1,2,3,4,5,6,7,8,9,10,11,12,13,14,15,16}") 1 (ranges integers (range 1 2_147_483_649 2_147_483_649 ∷ range 2 2_147_483_650 2_147_483_650 ∷ range 3 2_147_483_651 2_147_483_651 ∷ range 4 2_147_483_652 2_147_483_652 ∷ range 5 2_147_483_653 2_147_483_653 ∷ range 6 2_147_483_654 2_147_483_654 ∷ range 7 2_147_483_655 2_147_483_655 ∷ range 8 2_147_483_656 2_147_483_656 ∷ range 9 2_147_483_657 2_147_483_657 ∷ range 10 2_147_483_658 2_147_483_658 ∷ range 11 2_147_483_659 2_147_483_659 ∷ range 12 2_147_483_660 2_147_483_660 ∷ range 13 2_147_483_661 2_147_483_661 ∷ range 14 2_147_483_662 2_147_483_662 ∷ range 15 2_147_483_663 2_147_483_663 ∷ range 16 2_147_483_664 2_147_483_664 ∷ [])) 38
    ∷ refuses (bytes "1,2,3,4,5,6,7,8,9,10,11,12,13,14,15,16,17}") 1 7 39
    ∷ refuses (bytes "1,2,3,4,5,6,7,8,9,10,11,12,13,14,15,16,|17..18|}") 1 7 39
    ∷ refuses (bytes "1,2,3,4,5,6,7,8,9,10,11,12,13,14,15,16,007}") 1 5 39
    ∷ refuses (bytes "1,2,3,4,5,6,7,8,9,10,11,12,13,14,15,16,|007|}") 1 7 39
    ∷ refuses (bytes "1,2,3,4,5,6,7,8,9,10,11,12,13,14,15,16,1}") 1 7 39
    ∷ refuses (bytes "1,2,3,4,5,6,7,8,9,10,11,12,13,14,15,16,\"a\"}") 1 2 39
    ∷ refuses (bytes "\"a\",\"b\",\"c\",\"d\",\"e\",\"f\",\"g\",\"h\",\"i\",\"j\",\"k\",\"l\",\"m\",\"n\",\"o\",\"p\",\"q\"}") 1 7 64
    ∷ refuses (bytes "\"a\",\"b\",\"c\",\"d\",\"e\",\"f\",\"g\",\"h\",\"i\",\"j\",\"k\",\"l\",\"m\",\"n\",\"o\",\"p\",\"a\"}") 1 7 64
    ∷ refuses (bytes "\"a\",\"b\",\"c\",\"d\",\"e\",\"f\",\"g\",\"h\",\"i\",\"j\",\"k\",\"l\",\"m\",\"n\",\"o\",\"p\",\"xxxxxxxxxxxxxxxxxxxxxxxxxxxxxxxxxxxxxxxxxxxxxxxxxxxxxxxxxxxxxxxxxxxxxxxxxxxxxxxxxxxxxxxxxxxxxxxxxxxxxxxxxxxxxxxxxxxxxxxxxxxxxxxxxxxxxxxxxxxxxxxxxxxxxxxxxxxxxxxxxxxxxxxxxxxxxxxxxxxxxxxxxxxxxxxxxxxxxxxxxxxxxxxxxxxxxxxxxxxxxxxxxxxxxxxxxxxxxxxxxxxxxxxxxxxxxxxx\"}") 1 4 64
    ∷ reads (bytes "\"a\",\"b\",\"c\",\"d\",\"e\",\"f\",\"g\",\"h\",\"i\",\"j\",\"k\",\"l\",\"m\",\"n\",\"o\",\"p\"}") 1 (texts (item 1 (bytes "a") ∷ item 2 (bytes "b") ∷ item 3 (bytes "c") ∷ item 4 (bytes "d") ∷ item 5 (bytes "e") ∷ item 6 (bytes "f") ∷ item 7 (bytes "g") ∷ item 8 (bytes "h") ∷ item 9 (bytes "i") ∷ item 10 (bytes "j") ∷ item 11 (bytes "k") ∷ item 12 (bytes "l") ∷ item 13 (bytes "m") ∷ item 14 (bytes "n") ∷ item 15 (bytes "o") ∷ item 16 (bytes "p") ∷ [])) 63
    ∷ reads (bytes "|2004-01-01|,|2004-01-02|,|2004-01-03|,|2004-01-04|,|2004-01-05|,|2004-01-06|,|2004-01-07|,|2004-01-08|,|2004-01-09|,|2004-01-10|,|2004-01-11|,|2004-01-12|,|2004-01-13|,|2004-01-14|,|2004-01-15|,|2004-01-16|}") 1 (ranges dates (range 1 20_040_101 20_040_101 ∷ range 2 20_040_102 20_040_102 ∷ range 3 20_040_103 20_040_103 ∷ range 4 20_040_104 20_040_104 ∷ range 5 20_040_105 20_040_105 ∷ range 6 20_040_106 20_040_106 ∷ range 7 20_040_107 20_040_107 ∷ range 8 20_040_108 20_040_108 ∷ range 9 20_040_109 20_040_109 ∷ range 10 20_040_110 20_040_110 ∷ range 11 20_040_111 20_040_111 ∷ range 12 20_040_112 20_040_112 ∷ range 13 20_040_113 20_040_113 ∷ range 14 20_040_114 20_040_114 ∷ range 15 20_040_115 20_040_115 ∷ range 16 20_040_116 20_040_116 ∷ [])) 207
    ∷ refuses (bytes "1,2,3,4,5,6,7,8,9,10,11,12,13,14,15,16,|20..x}") 1 7 39
    ∷ refuses (bytes "1,2,3,4,5,6,7,8,9,10,11,12,13,14,15,16,}") 1 2 39
    ∷ refuses (bytes "1,2,3,4,5,6,7,8,9,10,11,12,13,14,15,16,17, 18}") 1 7 39
    ∷ refuses (bytes "1,2,3,4,5,6,7,8,9,10,11,12,13,14,15,16,2004-01-01}") 1 2 39
    ∷ refuses (bytes "1,2,3,4,5,6,7,8,9,10,11,12,13,14,15,16,|2004-01-01|}") 1 7 39
    ∷ refuses (bytes "1,2,3,4,5,6,7,8,9,10,11,12,13,14,15,16,17 x}") 1 7 39
    ∷ refuses (bytes "\"a\",\"b\",\"c\",\"d\",\"e\",\"f\",\"g\",\"h\",\"i\",\"j\",\"k\",\"l\",\"m\",\"n\",\"o\",\"p\",5}") 1 2 64
    ∷ refuses (bytes "\"a\",\"b\",\"c\",\"d\",\"e\",\"f\",\"g\",\"h\",\"i\",\"j\",\"k\",\"l\",\"m\",\"n\",\"o\",\"p\",\"q}") 1 2 64
    ∷ refuses (bytes "|2004-01-01|,|2004-01-02|,|2004-01-03|,|2004-01-04|,|2004-01-05|,|2004-01-06|,|2004-01-07|,|2004-01-08|,|2004-01-09|,|2004-01-10|,|2004-01-11|,|2004-01-12|,|2004-01-13|,|2004-01-14|,|2004-01-15|,|2004-01-16|,|2005-01-01|}") 1 7 208
    ∷ refuses (bytes "|2004-01-01|,|2004-01-02|,|2004-01-03|,|2004-01-04|,|2004-01-05|,|2004-01-06|,|2004-01-07|,|2004-01-08|,|2004-01-09|,|2004-01-10|,|2004-01-11|,|2004-01-12|,|2004-01-13|,|2004-01-14|,|2004-01-15|,|2004-01-16|,|2004-02-30|}") 1 7 208
    ∷ refuses (bytes "|2004-01-01|,|2004-01-02|,|2004-01-03|,|2004-01-04|,|2004-01-05|,|2004-01-06|,|2004-01-07|,|2004-01-08|,|2004-01-09|,|2004-01-10|,|2004-01-11|,|2004-01-12|,|2004-01-13|,|2004-01-14|,|2004-01-15|,|2004-01-16|,5}") 1 2 208
    ∷ refuses (bytes "|2004-01-01|,|2004-01-02|,|2004-01-03|,|2004-01-04|,|2004-01-05|,|2004-01-06|,|2004-01-07|,|2004-01-08|,|2004-01-09|,|2004-01-10|,|2004-01-11|,|2004-01-12|,|2004-01-13|,|2004-01-14|,|2004-01-15|,|2004-01-16|,|5|}") 1 7 208
    -- Real and Character
    ∷ reads (bytes "5.0}") 1 (ranges integers (range 1 2_147_483_653 2_147_483_653 ∷ [])) 1
    ∷ reads (bytes "5.5}") 1 (ranges integers (range 1 2_147_483_653 2_147_483_653 ∷ [])) 1
    ∷ refuses (bytes "|5.0..6.0|}") 1 2 2
    ∷ refuses (bytes ".5}") 1 2 0
    ∷ refuses (bytes "'a'}") 1 2 0
    ∷ reads (bytes "-5.5}") 1 (ranges integers (range 1 2_147_483_643 2_147_483_643 ∷ [])) 2
    ∷ reads (bytes "5.}") 1 (ranges integers (range 1 2_147_483_653 2_147_483_653 ∷ [])) 1
    ∷ refuses (bytes "'a', 'b'}") 1 2 0
    -- Date_time, and durations that are no pattern
    ∷ refuses (bytes "2004-05-20T10:00:00}") 1 2 0
    ∷ refuses (bytes "|>2004-05-20T10:00:00|}") 1 2 12
    ∷ reads (bytes "yyyy-mm-ddThh:mm:ss}") 1 (single date_pattern 1 1) 10
    ∷ refuses (bytes "P1Y}") 1 2 0
    ∷ refuses (bytes "|P1Y|}") 1 2 1
    ∷ refuses (bytes "-P1Y}") 1 2 0
    ∷ refuses (bytes "PT5M}") 1 2 0
    ∷ refuses (bytes "P1Y, P2Y}") 1 2 0
    ∷ refuses (bytes "|P1Y..P2Y|}") 1 2 1
    -- times outside patterns
    ∷ reads (bytes "10:00:00}") 1 (ranges integers (range 1 2_147_483_658 2_147_483_658 ∷ [])) 2
    ∷ refuses (bytes "T10:00:00}") 1 2 0
    ∷ refuses (bytes "|10:00..11:00|}") 1 2 3
    -- term codes
    ∷ refuses (bytes "[at1]}") 1 2 0
    ∷ refuses (bytes "[ac1]}") 1 2 0
    ∷ refuses (bytes "[local::at1]}") 1 2 0
    ∷ refuses (bytes "[at1, at2]}") 1 2 0
    ∷ refuses (bytes "[openehr::147|x|]}") 1 2 0
    ∷ refuses (bytes "[ac1; at1]}") 1 2 0
    -- patterns on strings
    ∷ refuses (bytes "/a/}") 1 2 0
    ∷ refuses (bytes "\"a\", /b/}") 1 2 5
    ∷ refuses (bytes "/a.*/}") 1 2 0
    ∷ refuses (bytes "^a^}") 1 2 0
    -- assumed values
    ∷ reads (bytes "5; 6}") 1 (ranges integers (range 1 2_147_483_653 2_147_483_653 ∷ [])) 1
    ∷ reads (bytes "\"a\"; \"a\"}") 1 (texts (item 1 (bytes "a") ∷ [])) 3
    ∷ reads (bytes "True; True}") 1 (single booleans 1 1) 4
    ∷ reads (bytes "yyyy-mm-dd; 2004-01-01}") 1 (single date_pattern 1 1) 10
    ∷ reads (bytes "|5..9|; 7}") 1 (ranges integers (range 1 2_147_483_653 2_147_483_657 ∷ [])) 6
    ∷ reads (bytes "|2004-01-01|; 2004-01-01}") 1 (ranges dates (range 1 20_040_101 20_040_101 ∷ [])) 12
    -- other marks and bytes
    ∷ refuses (bytes "(5)}") 1 2 0
    ∷ reads (bytes "5 | 6}") 1 (ranges integers (range 1 2_147_483_653 2_147_483_653 ∷ [])) 1
    ∷ reads (bytes "5..9}") 1 (ranges integers (range 1 2_147_483_653 2_147_483_653 ∷ [])) 1
    ∷ refuses (bytes ">=5}") 1 2 0
    ∷ refuses (bytes "+/-5}") 1 2 0
    ∷ refuses (bytes "/}") 1 2 0
    ∷ refuses (bytes "-}") 1 2 0
    ∷ refuses (bytes ".}") 1 2 0
    ∷ refuses (bytes "?}") 1 2 0
    ∷ reads (bytes "5 - 6}") 1 (ranges integers (range 1 2_147_483_653 2_147_483_653 ∷ [])) 1
    ∷ refuses (bytes "\0}") 1 2 0
    ∷ refuses (bytes "\u{b}}") 1 2 0
    ∷ refuses (bytes "ÿ}") 1 2 0
    ∷ refuses (bytes "\u{7f}}") 1 2 0
    ∷ refuses (bytes "â\u{88}\u{88}}") 1 2 0
    ∷ refuses (bytes "<5>}") 1 2 0
    ∷ refuses (bytes ">5}") 1 2 0
    ∷ refuses (bytes "..}") 1 2 0
    ∷ refuses (bytes "=}") 1 2 0
    ∷ refuses (bytes "+}") 1 2 0
    ∷ refuses (bytes ":}") 1 2 0
    ∷ refuses (bytes "_}") 1 2 0
    ∷ refuses (bytes "\\}") 1 2 0
    ∷ refuses (bytes "#}") 1 2 0
    ∷ reads (bytes "5; }") 1 (ranges integers (range 1 2_147_483_653 2_147_483_653 ∷ [])) 1
    ∷ refuses (bytes "\u{c}}") 1 2 0
    ∷ refuses (bytes "\u{80}}") 1 2 0
    ∷ refuses (bytes "}") 1 2 0
    -- record 2,048
    ∷ reads (bytes "5}") 2047 (ranges integers (range 2047 2_147_483_653 2_147_483_653 ∷ [])) 1
    ∷ refuses (bytes "5}") 2048 8 0
    ∷ refuses (bytes "1, 2}") 2047 8 3
    ∷ refuses (bytes "1, 007}") 2047 5 3
    ∷ refuses (bytes "1, 1}") 2047 8 3
    ∷ refuses (bytes "|5..4|}") 2048 8 0
    ∷ refuses (bytes "|2004-01-01|, |2005-01-01|}") 2047 8 14
    ∷ refuses (bytes "\"a\", \"b\"}") 2047 8 5
    ∷ refuses (bytes "\"a\"}") 2048 8 0
    ∷ reads (bytes "True, False}") 2047 (single booleans 2047 3) 11
    ∷ refuses (bytes "True, True}") 2048 8 0
    ∷ refuses (bytes "yyyy-mm-dd}") 2048 8 0
    ∷ refuses (bytes "Thh:mm:ss}") 2048 8 0
    ∷ reads (bytes "Thh:mm:ss}") 2047 (single time_pattern 2047 1) 9
    ∷ refuses (bytes "Pwd}") 2048 8 0
    ∷ reads (bytes "Pwd}") 2047 (single duration_pattern 2047 12) 3
    ∷ []

pub none_wrong : wrong right 0 cases ≡ []
unfolding wrong right cases items_compute
none_wrong = refl
