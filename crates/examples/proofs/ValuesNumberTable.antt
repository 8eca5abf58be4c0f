-- Leap years, month lengths, real dates, the days around a day, and values with a distance on either side. The expectations are the second implementation's.
-- This file is written by `example_tables write` of second/. Assumes nothing.
use mathlib.Core.Path.{◌≡◌, refl}
use mathlib.Core.Bool.{true, false}
use Rattle.std.specs.Prelude.{None, Some}
use mathlib.Core.List.{List, [], ◌∷◌}
use Rattle.values.specs.Integers.{pair, nought, greatest}
use Rattle.values.specs.Calendar.{first_day, last_day}
use Rattle.lexis.proofs.Tables.{wrong}
use Rattle.values.proofs.Computes.{values_compute}
use Rattle.values.proofs.Examples.{NumberCase, leap_is, days_are, real_is, follows, precedes, spreads, bits_are, end_is, number_right}

pub cases : List NumberCase
cases =
    -- leap years by 4, not 100, yet 400
    leap_is 0 true
    ∷ leap_is 1 false
    ∷ leap_is 2 false
    ∷ leap_is 3 false
    ∷ leap_is 4 true
    ∷ leap_is 96 true
    ∷ leap_is 100 false
    ∷ leap_is 200 false
    ∷ leap_is 300 false
    ∷ leap_is 400 true
    ∷ leap_is 500 false
    ∷ leap_is 800 true
    ∷ leap_is 1600 true
    ∷ leap_is 1700 false
    ∷ leap_is 1899 false
    ∷ leap_is 1900 false
    ∷ leap_is 1904 true
    ∷ leap_is 1996 true
    ∷ leap_is 1999 false
    ∷ leap_is 2000 true
    ∷ leap_is 2001 false
    ∷ leap_is 2002 false
    ∷ leap_is 2003 false
    ∷ leap_is 2004 true
    ∷ leap_is 2100 false
    ∷ leap_is 2200 false
    ∷ leap_is 2300 false
    ∷ leap_is 2400 true
    ∷ leap_is 4000 true
    ∷ leap_is 9996 true
    ∷ leap_is 9999 false
    -- month lengths of common and leap years
    ∷ days_are 2003 0 0
    ∷ days_are 2003 1 31
    ∷ days_are 2003 2 28
    ∷ days_are 2003 3 31
    ∷ days_are 2003 4 30
    ∷ days_are 2003 5 31
    ∷ days_are 2003 6 30
    ∷ days_are 2003 7 31
    ∷ days_are 2003 8 31
    ∷ days_are 2003 9 30
    ∷ days_are 2003 10 31
    ∷ days_are 2003 11 30
    ∷ days_are 2003 12 31
    ∷ days_are 2003 13 0
    ∷ days_are 2004 0 0
    ∷ days_are 2004 1 31
    ∷ days_are 2004 2 29
    ∷ days_are 2004 3 31
    ∷ days_are 2004 4 30
    ∷ days_are 2004 5 31
    ∷ days_are 2004 6 30
    ∷ days_are 2004 7 31
    ∷ days_are 2004 8 31
    ∷ days_are 2004 9 30
    ∷ days_are 2004 10 31
    ∷ days_are 2004 11 30
    ∷ days_are 2004 12 31
    ∷ days_are 2004 13 0
    ∷ days_are 1900 0 0
    ∷ days_are 1900 1 31
    ∷ days_are 1900 2 28
    ∷ days_are 1900 3 31
    ∷ days_are 1900 4 30
    ∷ days_are 1900 5 31
    ∷ days_are 1900 6 30
    ∷ days_are 1900 7 31
    ∷ days_are 1900 8 31
    ∷ days_are 1900 9 30
    ∷ days_are 1900 10 31
    ∷ days_are 1900 11 30
    ∷ days_are 1900 12 31
    ∷ days_are 1900 13 0
    ∷ days_are 2000 0 0
    ∷ days_are 2000 1 31
    ∷ days_are 2000 2 29
    ∷ days_are 2000 3 31
    ∷ days_are 2000 4 30
    ∷ days_are 2000 5 31
    ∷ days_are 2000 6 30
    ∷ days_are 2000 7 31
    ∷ days_are 2000 8 31
    ∷ days_are 2000 9 30
    ∷ days_are 2000 10 31
    ∷ days_are 2000 11 30
    ∷ days_are 2000 12 31
    ∷ days_are 2000 13 0
    -- packed numbers that are days of the calendar, and others
    ∷ real_is 0 false
    ∷ real_is 1 false
    ∷ real_is 31 false
    ∷ real_is 100 false
    ∷ real_is 101 true
    ∷ real_is 131 true
    ∷ real_is 132 false
    ∷ real_is 228 true
    ∷ real_is 229 true
    ∷ real_is 230 false
    ∷ real_is 1231 true
    ∷ real_is 1232 false
    ∷ real_is 1301 false
    ∷ real_is 9999 false
    ∷ real_is 10_000 false
    ∷ real_is 10_101 true
    ∷ real_is 19_000_228 true
    ∷ real_is 19_000_229 false
    ∷ real_is 19_000_301 true
    ∷ real_is 20_000_229 true
    ∷ real_is 20_030_229 false
    ∷ real_is 20_040_100 false
    ∷ real_is 20_040_101 true
    ∷ real_is 20_040_131 true
    ∷ real_is 20_040_132 false
    ∷ real_is 20_040_229 true
    ∷ real_is 20_040_230 false
    ∷ real_is 20_040_430 true
    ∷ real_is 20_040_431 false
    ∷ real_is 20_041_200 false
    ∷ real_is 20_041_231 true
    ∷ real_is 20_041_232 false
    ∷ real_is 20_041_301 false
    ∷ real_is 20_040_001 false
    ∷ real_is 20_049_999 false
    ∷ real_is 21_000_229 false
    ∷ real_is 99_991_230 true
    ∷ real_is 99_991_231 true
    ∷ real_is 99_991_232 false
    ∷ real_is 99_991_301 false
    ∷ real_is 100_000_101 false
    ∷ real_is 100_000_000 false
    ∷ real_is 4_294_967_295 false
    -- the day after and the day before, at the ends of months, of years and of the range
    ∷ follows 101 102
    ∷ follows 102 103
    ∷ precedes 102 101
    ∷ follows 131 201
    ∷ precedes 131 130
    ∷ follows 201 202
    ∷ precedes 201 131
    ∷ follows 228 229
    ∷ precedes 228 227
    ∷ follows 229 301
    ∷ precedes 229 228
    ∷ follows 301 302
    ∷ precedes 301 229
    ∷ follows 1231 10_101
    ∷ precedes 1231 1230
    ∷ follows 10_101 10_102
    ∷ precedes 10_101 1231
    ∷ follows 18_991_231 19_000_101
    ∷ precedes 18_991_231 18_991_230
    ∷ follows 19_000_101 19_000_102
    ∷ precedes 19_000_101 18_991_231
    ∷ follows 19_000_228 19_000_301
    ∷ precedes 19_000_228 19_000_227
    ∷ follows 19_000_301 19_000_302
    ∷ precedes 19_000_301 19_000_228
    ∷ follows 20_000_228 20_000_229
    ∷ precedes 20_000_228 20_000_227
    ∷ follows 20_000_229 20_000_301
    ∷ precedes 20_000_229 20_000_228
    ∷ follows 20_000_301 20_000_302
    ∷ precedes 20_000_301 20_000_229
    ∷ follows 20_030_228 20_030_301
    ∷ precedes 20_030_228 20_030_227
    ∷ follows 20_030_301 20_030_302
    ∷ precedes 20_030_301 20_030_228
    ∷ follows 20_031_230 20_031_231
    ∷ precedes 20_031_230 20_031_229
    ∷ follows 20_031_231 20_040_101
    ∷ precedes 20_031_231 20_031_230
    ∷ follows 20_040_101 20_040_102
    ∷ precedes 20_040_101 20_031_231
    ∷ follows 20_040_131 20_040_201
    ∷ precedes 20_040_131 20_040_130
    ∷ follows 20_040_201 20_040_202
    ∷ precedes 20_040_201 20_040_131
    ∷ follows 20_040_228 20_040_229
    ∷ precedes 20_040_228 20_040_227
    ∷ follows 20_040_229 20_040_301
    ∷ precedes 20_040_229 20_040_228
    ∷ follows 20_040_301 20_040_302
    ∷ precedes 20_040_301 20_040_229
    ∷ follows 20_040_331 20_040_401
    ∷ precedes 20_040_331 20_040_330
    ∷ follows 20_040_430 20_040_501
    ∷ precedes 20_040_430 20_040_429
    ∷ follows 20_040_501 20_040_502
    ∷ precedes 20_040_501 20_040_430
    ∷ follows 20_040_509 20_040_510
    ∷ precedes 20_040_509 20_040_508
    ∷ follows 20_040_510 20_040_511
    ∷ precedes 20_040_510 20_040_509
    ∷ follows 20_040_930 20_041_001
    ∷ precedes 20_040_930 20_040_929
    ∷ follows 20_041_001 20_041_002
    ∷ precedes 20_041_001 20_040_930
    ∷ follows 20_041_130 20_041_201
    ∷ precedes 20_041_130 20_041_129
    ∷ follows 20_041_201 20_041_202
    ∷ precedes 20_041_201 20_041_130
    ∷ follows 99_991_230 99_991_231
    ∷ precedes 99_991_230 99_991_229
    ∷ precedes 99_991_231 99_991_230
    ∷ follows 99_981_231 99_990_101
    ∷ precedes 99_981_231 99_981_230
    -- a - d and a + d, where both lie in the range
    ∷ spreads 2_147_483_748 2_147_483_653 (Some (pair 2_147_483_743 2_147_483_753))
    ∷ spreads 2_147_483_748 2_147_483_648 (Some (pair 2_147_483_748 2_147_483_748))
    ∷ spreads 2_147_483_748 2_147_483_643 (Some (pair 2_147_483_753 2_147_483_743))
    ∷ spreads 2_147_483_648 2_147_483_648 (Some (pair 2_147_483_648 2_147_483_648))
    ∷ spreads 2_147_483_648 2_147_483_649 (Some (pair 2_147_483_647 2_147_483_649))
    ∷ spreads 2_147_483_648 2_147_483_647 (Some (pair 2_147_483_649 2_147_483_647))
    ∷ spreads 2_147_483_548 2_147_483_653 (Some (pair 2_147_483_543 2_147_483_553))
    ∷ spreads 2_147_483_653 2_147_483_748 (Some (pair 2_147_483_553 2_147_483_753))
    ∷ spreads 4_294_967_295 2_147_483_648 (Some (pair 4_294_967_295 4_294_967_295))
    ∷ spreads 4_294_967_295 2_147_483_649 None
    ∷ spreads 4_294_967_295 2_147_483_647 None
    ∷ spreads 4_294_967_294 2_147_483_649 (Some (pair 4_294_967_293 4_294_967_295))
    ∷ spreads 4_294_967_290 2_147_483_653 (Some (pair 4_294_967_285 4_294_967_295))
    ∷ spreads 4_294_967_291 2_147_483_653 None
    ∷ spreads 0 2_147_483_648 (Some (pair 0 0))
    ∷ spreads 0 2_147_483_649 None
    ∷ spreads 0 2_147_483_647 None
    ∷ spreads 1 2_147_483_649 (Some (pair 0 2))
    ∷ spreads 5 2_147_483_653 (Some (pair 0 10))
    ∷ spreads 4 2_147_483_653 None
    ∷ spreads 2_147_483_648 4_294_967_295 (Some (pair 1 4_294_967_295))
    ∷ spreads 2_147_483_647 4_294_967_295 (Some (pair 0 4_294_967_294))
    ∷ spreads 2_147_483_649 4_294_967_295 None
    ∷ spreads 2_147_483_646 4_294_967_295 None
    ∷ spreads 2_147_483_648 0 None
    ∷ spreads 2_147_483_647 0 None
    ∷ spreads 2_147_483_649 0 None
    ∷ spreads 2_147_483_648 1 (Some (pair 4_294_967_295 1))
    ∷ spreads 2_147_483_647 1 (Some (pair 4_294_967_294 0))
    ∷ spreads 2_147_483_649 1 None
    ∷ spreads 4_294_967_295 4_294_967_295 None
    ∷ spreads 0 0 None
    -- the ends of the ranges, and 0
    ∷ end_is first_day 101
    ∷ end_is last_day 99_991_231
    ∷ end_is nought 2_147_483_648
    ∷ end_is greatest 4_294_967_295
    -- two's complement
    ∷ bits_are 0 2_147_483_648
    ∷ bits_are 1 2_147_483_649
    ∷ bits_are 2_147_482_648 4_294_966_296
    ∷ bits_are 2_147_483_646 4_294_967_294
    ∷ bits_are 2_147_483_647 4_294_967_295
    ∷ bits_are 2_147_483_648 0
    ∷ bits_are 2_147_483_649 1
    ∷ bits_are 2_147_483_650 2
    ∷ bits_are 2_147_484_648 1000
    ∷ bits_are 4_294_967_294 2_147_483_646
    ∷ bits_are 4_294_967_295 2_147_483_647
    ∷ []

pub none_wrong : wrong number_right 0 cases ≡ []
unfolding wrong number_right cases values_compute
none_wrong = refl
