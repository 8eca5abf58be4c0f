-- Words, what each reads as, a Boolean, an integer, a date, a time, a duration, and whether it is good. The expectations are the second implementation's.
-- This file is written by `example_tables write` of second/. Assumes nothing.
use mathlib.Core.Path.{◌≡◌, refl}
use mathlib.Core.Bool.{true, false}
use Rattle.std.specs.Prelude.{None, Some}
use mathlib.Core.List.{List, [], ◌∷◌}
use Rattle.lexis.specs.Text.{bytes}
use Rattle.lexis.proofs.Tables.{wrong}
use Rattle.values.proofs.Computes.{values_compute}
use Rattle.values.proofs.Examples.{WordCase, reads, date, word_right}

pub cases : List WordCase
cases =
    -- Booleans
    reads (bytes "True") (Some 1) None None None None true
    ∷ reads (bytes "False") (Some 2) None None None None true
    ∷ reads (bytes "true") None None None None None false
    ∷ reads (bytes "TRUE") None None None None None false
    ∷ reads (bytes "False1") None None None None None false
    ∷ reads (bytes "Tru") None None None None None false
    ∷ reads (bytes "True.") None None None None None false
    ∷ reads (bytes "Fals") None None None None None false
    ∷ reads (bytes "T") None None None None None false
    ∷ reads [] None None None None None false
    ∷ reads (bytes "FalseTrue") None None None None None false
    -- integers: the range's ends, needless zeros, -0, signs, long runs of digits
    ∷ reads (bytes "0") None (Some 2_147_483_648) None None None true
    ∷ reads (bytes "1") None (Some 2_147_483_649) None None None true
    ∷ reads (bytes "5") None (Some 2_147_483_653) None None None true
    ∷ reads (bytes "9") None (Some 2_147_483_657) None None None true
    ∷ reads (bytes "10") None (Some 2_147_483_658) None (Some 1) None true
    ∷ reads (bytes "24") None (Some 2_147_483_672) None None None true
    ∷ reads (bytes "99") None (Some 2_147_483_747) None None None true
    ∷ reads (bytes "100") None (Some 2_147_483_748) None None None true
    ∷ reads (bytes "-1") None (Some 2_147_483_647) None None None true
    ∷ reads (bytes "-5") None (Some 2_147_483_643) None None None true
    ∷ reads (bytes "-10") None (Some 2_147_483_638) None None None true
    ∷ reads (bytes "2147483646") None (Some 4_294_967_294) None None None true
    ∷ reads (bytes "2147483647") None (Some 4_294_967_295) None None None true
    ∷ reads (bytes "2147483648") None None None None None false
    ∷ reads (bytes "2147483649") None None None None None false
    ∷ reads (bytes "-2147483647") None (Some 1) None None None true
    ∷ reads (bytes "-2147483648") None (Some 0) None None None true
    ∷ reads (bytes "-2147483649") None None None None None false
    ∷ reads (bytes "4294967295") None None None None None false
    ∷ reads (bytes "4294967296") None None None None None false
    ∷ reads (bytes "-4294967296") None None None None None false
    ∷ reads (bytes "9999999999") None None None None None false
    ∷ reads (bytes "99999999999999999999") None None None None None false
    ∷ reads (bytes "-99999999999999999999") None None None None None false
    ∷ reads (bytes "00000000005") None None None None None false
    ∷ reads (bytes "007") None None None None None false
    ∷ reads (bytes "01") None None None (Some 1) None true
    ∷ reads (bytes "000") None None None None None false
    ∷ reads (bytes "-0") None None None None None false
    ∷ reads (bytes "-00") None None None None None false
    ∷ reads (bytes "-01") None None None None None false
    ∷ reads (bytes "-05") None None None None None false
    ∷ reads (bytes "+5") None None None None None false
    ∷ reads (bytes "+0") None None None None None false
    ∷ reads (bytes "--5") None None None None None false
    ∷ reads (bytes "-") None None None None None false
    ∷ reads (bytes "+") None None None None None false
    ∷ reads (bytes "5-") None None None None None false
    ∷ reads (bytes "5.") None None None None None false
    ∷ reads (bytes "5.0") None None None None None false
    ∷ reads (bytes ".5") None None None None None false
    ∷ reads (bytes "1e5") None None None None None false
    ∷ reads (bytes "5a") None None None None None false
    ∷ reads (bytes "a5") None None None None None false
    ∷ reads (bytes "_5") None None None None None false
    ∷ reads (bytes "5_") None None None None None false
    ∷ reads (bytes " 5") None None None None None false
    ∷ reads (bytes "5 ") None None None None None false
    ∷ reads (bytes "1:0") None None None None None false
    ∷ reads (bytes "12/") None None None None None false
    ∷ reads (bytes "1:") None None None None None false
    ∷ reads (bytes "-:") None None None None None false
    ∷ reads (bytes "5-3") None None None None None false
    -- dates: years, months and days, real and others
    ∷ reads (bytes "2004") None (Some 2_147_485_652) (Some (date 1 20_040_101)) None None true
    ∷ reads (bytes "0000") None None (Some (date 1 101)) None None true
    ∷ reads (bytes "9999") None (Some 2_147_493_647) (Some (date 1 99_990_101)) None None true
    ∷ reads (bytes "0004") None None (Some (date 1 40_101)) None None true
    ∷ reads (bytes "1900") None (Some 2_147_485_548) (Some (date 1 19_000_101)) None None true
    ∷ reads (bytes "200") None (Some 2_147_483_848) None None None true
    ∷ reads (bytes "20040") None (Some 2_147_503_688) None None None true
    ∷ reads (bytes "02004") None None None None None false
    ∷ reads (bytes "2004-01") None None (Some (date 2 20_040_101)) None None true
    ∷ reads (bytes "2004-05") None None (Some (date 2 20_040_501)) None None true
    ∷ reads (bytes "2004-12") None None (Some (date 2 20_041_201)) None None true
    ∷ reads (bytes "2004-13") None None None None None false
    ∷ reads (bytes "2004-00") None None None None None false
    ∷ reads (bytes "0000-12") None None (Some (date 2 1201)) None None true
    ∷ reads (bytes "2004-5") None None None None None false
    ∷ reads (bytes "2004-") None None None None None false
    ∷ reads (bytes "2004-005") None None None None None false
    ∷ reads (bytes "2004-1a") None None None None None false
    ∷ reads (bytes "200a-10") None None None None None false
    ∷ reads (bytes "2004-05-20") None None (Some (date 3 20_040_520)) None None true
    ∷ reads (bytes "2004-05-01") None None (Some (date 3 20_040_501)) None None true
    ∷ reads (bytes "2004-05-31") None None (Some (date 3 20_040_531)) None None true
    ∷ reads (bytes "2004-05-32") None None None None None false
    ∷ reads (bytes "2004-05-00") None None None None None false
    ∷ reads (bytes "2004-04-30") None None (Some (date 3 20_040_430)) None None true
    ∷ reads (bytes "2004-04-31") None None None None None false
    ∷ reads (bytes "2000-02-29") None None (Some (date 3 20_000_229)) None None true
    ∷ reads (bytes "1900-02-29") None None None None None false
    ∷ reads (bytes "1900-02-28") None None (Some (date 3 19_000_228)) None None true
    ∷ reads (bytes "2004-02-29") None None (Some (date 3 20_040_229)) None None true
    ∷ reads (bytes "2004-02-30") None None None None None false
    ∷ reads (bytes "2003-02-29") None None None None None false
    ∷ reads (bytes "2003-02-28") None None (Some (date 3 20_030_228)) None None true
    ∷ reads (bytes "2100-02-29") None None None None None false
    ∷ reads (bytes "0000-02-29") None None (Some (date 3 229)) None None true
    ∷ reads (bytes "0000-01-01") None None (Some (date 3 101)) None None true
    ∷ reads (bytes "9999-12-31") None None (Some (date 3 99_991_231)) None None true
    ∷ reads (bytes "9999-12-32") None None None None None false
    ∷ reads (bytes "2004-00-10") None None None None None false
    ∷ reads (bytes "2004-13-10") None None None None None false
    ∷ reads (bytes "2004-99-99") None None None None None false
    ∷ reads (bytes "0000-00-00") None None None None None false
    ∷ reads (bytes "2004-05-2") None None None None None false
    ∷ reads (bytes "2004-05-201") None None None None None false
    ∷ reads (bytes "2004-05-") None None None None None false
    ∷ reads (bytes "2004-05-20-") None None None None None false
    ∷ reads (bytes "2004-5-20") None None None None None false
    ∷ reads (bytes "2004-05-2a") None None None None None false
    ∷ reads (bytes "2004:05:20") None None None None None false
    ∷ reads (bytes "2004-05:20") None None None None None false
    ∷ reads (bytes "2004.05-20") None None None None None false
    ∷ reads (bytes "2004/05/20") None None None None None false
    ∷ reads (bytes "-2004") None (Some 2_147_481_644) None None None true
    ∷ reads (bytes "-2004-05-20") None None None None None false
    ∷ reads (bytes "+2004") None None None None None false
    ∷ reads (bytes "2004-05-20Z") None None None None None false
    ∷ reads (bytes "2004-05-20T10:00:00") None None None None None false
    ∷ reads (bytes "20040520") None (Some 2_167_524_168) None None None true
    ∷ reads (bytes "12004-05-20") None None None None None false
    ∷ reads (bytes "yyyy") None None None None None false
    ∷ reads (bytes "dddd") None None None None None false
    ∷ reads (bytes "dddd-dd-dd") None None None None None false
    ∷ reads (bytes "2004-dd") None None None None None false
    -- times: hours 00 to 23, minutes and seconds 00 to 59
    ∷ reads (bytes "00") None None None (Some 1) None true
    ∷ reads (bytes "08") None None None (Some 1) None true
    ∷ reads (bytes "09") None None None (Some 1) None true
    ∷ reads (bytes "12") None (Some 2_147_483_660) None (Some 1) None true
    ∷ reads (bytes "23") None (Some 2_147_483_671) None (Some 1) None true
    ∷ reads (bytes "24") None (Some 2_147_483_672) None None None true
    ∷ reads (bytes "25") None (Some 2_147_483_673) None None None true
    ∷ reads (bytes "8") None (Some 2_147_483_656) None None None true
    ∷ reads (bytes "1a") None None None None None false
    ∷ reads (bytes "a1") None None None None None false
    ∷ reads (bytes "00:00") None None None (Some 2) None true
    ∷ reads (bytes "08:30") None None None (Some 2) None true
    ∷ reads (bytes "23:59") None None None (Some 2) None true
    ∷ reads (bytes "24:00") None None None None None false
    ∷ reads (bytes "23:60") None None None None None false
    ∷ reads (bytes "08:00") None None None (Some 2) None true
    ∷ reads (bytes "08:99") None None None None None false
    ∷ reads (bytes "8:30") None None None None None false
    ∷ reads (bytes "08:3") None None None None None false
    ∷ reads (bytes "08:") None None None None None false
    ∷ reads (bytes "08:3a") None None None None None false
    ∷ reads (bytes "08:300") None None None None None false
    ∷ reads (bytes "00:00:00") None None None (Some 3) None true
    ∷ reads (bytes "08:30:15") None None None (Some 3) None true
    ∷ reads (bytes "23:59:59") None None None (Some 3) None true
    ∷ reads (bytes "24:00:00") None None None None None false
    ∷ reads (bytes "24:00:01") None None None None None false
    ∷ reads (bytes "23:60:00") None None None None None false
    ∷ reads (bytes "23:59:60") None None None None None false
    ∷ reads (bytes "08:30:99") None None None None None false
    ∷ reads (bytes "08:30:5") None None None None None false
    ∷ reads (bytes "08:30:") None None None None None false
    ∷ reads (bytes "08:30:5a") None None None None None false
    ∷ reads (bytes "08:30:150") None None None None None false
    ∷ reads (bytes "08:30:15:00") None None None None None false
    ∷ reads (bytes "08:30:15.0") None None None None None false
    ∷ reads (bytes "08:30:15,0") None None None None None false
    ∷ reads (bytes "083015") None None None None None false
    ∷ reads (bytes "0830") None None (Some (date 1 8_300_101)) None None true
    ∷ reads (bytes "T08:30") None None None None None false
    ∷ reads (bytes "08-30") None None None None None false
    ∷ reads (bytes "08.30") None None None None None false
    ∷ reads (bytes "08:30.15") None None None None None false
    ∷ reads (bytes ":08:30") None None None None None false
    ∷ reads (bytes "dd") None None None None None false
    ∷ reads (bytes "dd:dd") None None None None None false
    ∷ reads (bytes "08:dd") None None None None None false
    -- zones behind hours, minutes and seconds
    ∷ reads (bytes "08Z") None None None (Some 1) None true
    ∷ reads (bytes "08+00") None None None (Some 1) None true
    ∷ reads (bytes "08+01") None None None (Some 1) None true
    ∷ reads (bytes "08+09") None None None (Some 1) None true
    ∷ reads (bytes "08+12") None None None (Some 1) None true
    ∷ reads (bytes "08+13") None None None (Some 1) None true
    ∷ reads (bytes "08+14") None None None None None false
    ∷ reads (bytes "08+99") None None None None None false
    ∷ reads (bytes "08-00") None None None None None false
    ∷ reads (bytes "08-01") None None None (Some 1) None true
    ∷ reads (bytes "08-11") None None None (Some 1) None true
    ∷ reads (bytes "08-12") None None None (Some 1) None true
    ∷ reads (bytes "08-13") None None None None None false
    ∷ reads (bytes "08-99") None None None None None false
    ∷ reads (bytes "08+00:00") None None None (Some 1) None true
    ∷ reads (bytes "08+00:30") None None None (Some 1) None true
    ∷ reads (bytes "08+05:30") None None None (Some 1) None true
    ∷ reads (bytes "08+12:59") None None None (Some 1) None true
    ∷ reads (bytes "08+13:00") None None None (Some 1) None true
    ∷ reads (bytes "08+13:59") None None None (Some 1) None true
    ∷ reads (bytes "08+13:60") None None None None None false
    ∷ reads (bytes "08+14:00") None None None None None false
    ∷ reads (bytes "08+05:60") None None None None None false
    ∷ reads (bytes "08-00:00") None None None None None false
    ∷ reads (bytes "08-00:01") None None None (Some 1) None true
    ∷ reads (bytes "08-00:30") None None None (Some 1) None true
    ∷ reads (bytes "08-00:59") None None None (Some 1) None true
    ∷ reads (bytes "08-00:60") None None None None None false
    ∷ reads (bytes "08-01:00") None None None (Some 1) None true
    ∷ reads (bytes "08-12:00") None None None (Some 1) None true
    ∷ reads (bytes "08-12:59") None None None (Some 1) None true
    ∷ reads (bytes "08-12:60") None None None None None false
    ∷ reads (bytes "08-13:00") None None None None None false
    ∷ reads (bytes "08+5") None None None None None false
    ∷ reads (bytes "08+0530") None None None None None false
    ∷ reads (bytes "08+05:3") None None None None None false
    ∷ reads (bytes "08+05:") None None None None None false
    ∷ reads (bytes "08+05:300") None None None None None false
    ∷ reads (bytes "08-") None None None None None false
    ∷ reads (bytes "08+") None None None None None false
    ∷ reads (bytes "08:30Z") None None None (Some 2) None true
    ∷ reads (bytes "08:30+13:59") None None None (Some 2) None true
    ∷ reads (bytes "08:30+14:00") None None None None None false
    ∷ reads (bytes "08:30-00:30") None None None (Some 2) None true
    ∷ reads (bytes "08:30-00:00") None None None None None false
    ∷ reads (bytes "08:30-00") None None None None None false
    ∷ reads (bytes "08:30-12") None None None (Some 2) None true
    ∷ reads (bytes "08:30-13") None None None None None false
    ∷ reads (bytes "08:30+0930") None None None None None false
    ∷ reads (bytes "08:30:15Z") None None None (Some 3) None true
    ∷ reads (bytes "08:30:15+13:59") None None None (Some 3) None true
    ∷ reads (bytes "08:30:15+14:00") None None None None None false
    ∷ reads (bytes "08:30:15-00:30") None None None (Some 3) None true
    ∷ reads (bytes "08:30:15-00:00") None None None None None false
    ∷ reads (bytes "08:30:15-00") None None None None None false
    ∷ reads (bytes "08:30:15-12") None None None (Some 3) None true
    ∷ reads (bytes "08:30:15-13") None None None None None false
    ∷ reads (bytes "08:30:15+0930") None None None None None false
    ∷ reads (bytes "12Z") None None None (Some 1) None true
    ∷ reads (bytes "12+13:59") None None None (Some 1) None true
    ∷ reads (bytes "12+14:00") None None None None None false
    ∷ reads (bytes "12-00:30") None None None (Some 1) None true
    ∷ reads (bytes "12-00:00") None None None None None false
    ∷ reads (bytes "12-00") None None None None None false
    ∷ reads (bytes "12-12") None None None (Some 1) None true
    ∷ reads (bytes "12-13") None None None None None false
    ∷ reads (bytes "12+0930") None None None None None false
    ∷ reads (bytes "00:00Z") None None None (Some 2) None true
    ∷ reads (bytes "00:00+13:59") None None None (Some 2) None true
    ∷ reads (bytes "00:00+14:00") None None None None None false
    ∷ reads (bytes "00:00-00:30") None None None (Some 2) None true
    ∷ reads (bytes "00:00-00:00") None None None None None false
    ∷ reads (bytes "00:00-00") None None None None None false
    ∷ reads (bytes "00:00-12") None None None (Some 2) None true
    ∷ reads (bytes "00:00-13") None None None None None false
    ∷ reads (bytes "00:00+0930") None None None None None false
    -- zones without a time, and with something behind them
    ∷ reads (bytes "Z") None None None None None false
    ∷ reads (bytes "z") None None None None None false
    ∷ reads (bytes "+05") None None None None None false
    ∷ reads (bytes "-05:00") None None None None None false
    ∷ reads (bytes "+05:30") None None None None None false
    ∷ reads (bytes "08ZZ") None None None None None false
    ∷ reads (bytes "08Z1") None None None None None false
    ∷ reads (bytes "08+05Z") None None None None None false
    ∷ reads (bytes "08Z+05") None None None None None false
    ∷ reads (bytes "08+05+05") None None None None None false
    ∷ reads (bytes "08:30Z:15") None None None None None false
    ∷ reads (bytes "08z") None None None None None false
    ∷ reads (bytes "2004Z") None None None None None false
    ∷ reads (bytes "5Z") None None None None None false
    ∷ reads (bytes "24Z") None None None None None false
    ∷ reads (bytes "24+05") None None None None None false
    ∷ reads (bytes "True+05") None None None None None false
    ∷ reads (bytes "08:60Z") None None None None None false
    ∷ reads (bytes "08:30:60+05") None None None None None false
    -- durations: each slot alone, in either case, and all of them
    ∷ reads (bytes "P1y") None None None None (Some 1) true
    ∷ reads (bytes "P1m") None None None None (Some 2) true
    ∷ reads (bytes "P1w") None None None None (Some 4) true
    ∷ reads (bytes "P1d") None None None None (Some 8) true
    ∷ reads (bytes "PT1h") None None None None (Some 16) true
    ∷ reads (bytes "PT1m") None None None None (Some 32) true
    ∷ reads (bytes "PT1s") None None None None (Some 64) true
    ∷ reads (bytes "P1Y") None None None None (Some 1) true
    ∷ reads (bytes "P1M") None None None None (Some 2) true
    ∷ reads (bytes "P1W") None None None None (Some 4) true
    ∷ reads (bytes "P1D") None None None None (Some 8) true
    ∷ reads (bytes "PT1H") None None None None (Some 16) true
    ∷ reads (bytes "PT1M") None None None None (Some 32) true
    ∷ reads (bytes "PT1S") None None None None (Some 64) true
    ∷ reads (bytes "P12w3d") None None None None (Some 12) true
    ∷ reads (bytes "P12W3D") None None None None (Some 12) true
    ∷ reads (bytes "P12w3D") None None None None (Some 12) true
    ∷ reads (bytes "-P5d") None None None None (Some 8) true
    ∷ reads (bytes "-PT5m") None None None None (Some 32) true
    ∷ reads (bytes "P1y2m3w4d") None None None None (Some 15) true
    ∷ reads (bytes "PT5h6m7s") None None None None (Some 112) true
    ∷ reads (bytes "P1y2m3w4dT5h6m7s") None None None None (Some 127) true
    ∷ reads (bytes "-P1Y2M3W4DT5H6M7S") None None None None (Some 127) true
    ∷ reads (bytes "P1mT1m") None None None None (Some 34) true
    ∷ reads (bytes "P5M3DT5M3S") None None None None (Some 106) true
    ∷ reads (bytes "PT5M3S") None None None None (Some 96) true
    ∷ reads (bytes "P1yT1s") None None None None (Some 65) true
    ∷ reads (bytes "P1y4d") None None None None (Some 9) true
    -- durations: one to four digits to a slot, nought and leading zeros
    ∷ reads (bytes "P0d") None None None None (Some 8) true
    ∷ reads (bytes "-P0d") None None None None (Some 8) true
    ∷ reads (bytes "P00d") None None None None (Some 8) true
    ∷ reads (bytes "P0005d") None None None None (Some 8) true
    ∷ reads (bytes "P0000d") None None None None (Some 8) true
    ∷ reads (bytes "P9999d") None None None None (Some 8) true
    ∷ reads (bytes "P00005d") None None None None None false
    ∷ reads (bytes "P10000d") None None None None None false
    ∷ reads (bytes "P12345y") None None None None None false
    ∷ reads (bytes "PT00000s") None None None None None false
    ∷ reads (bytes "PT9999s") None None None None (Some 64) true
    ∷ reads (bytes "P1y99999d") None None None None None false
    ∷ reads (bytes "P99999y1d") None None None None None false
    ∷ reads (bytes "P9999y9999m9999w9999dT9999h9999m9999s") None None None None (Some 127) true
    ∷ reads (bytes "-P9999y9999m9999w9999dT9999h9999m9999s") None None None None (Some 127) true
    ∷ reads (bytes "-P9999y9999m9999w9999dT9999h9999m99999s") None None None None None false
    -- no durations: no slot, no digits, no letter, nothing behind a T
    ∷ reads (bytes "P") None None None None None false
    ∷ reads (bytes "PT") None None None None None false
    ∷ reads (bytes "-P") None None None None None false
    ∷ reads (bytes "-PT") None None None None None false
    ∷ reads (bytes "P5") None None None None None false
    ∷ reads (bytes "PT5") None None None None None false
    ∷ reads (bytes "P1y5") None None None None None false
    ∷ reads (bytes "P5dT") None None None None None false
    ∷ reads (bytes "P5dT5") None None None None None false
    ∷ reads (bytes "P5dTh") None None None None None false
    ∷ reads (bytes "Pd") None None None None None false
    ∷ reads (bytes "PTm") None None None None None false
    ∷ reads (bytes "Pwd") None None None None None false
    ∷ reads (bytes "P1wd") None None None None None false
    ∷ reads (bytes "Pw1d") None None None None None false
    ∷ reads (bytes "PTT5m") None None None None None false
    ∷ reads (bytes "PT5mT") None None None None None false
    ∷ reads (bytes "PT5mT5s") None None None None None false
    ∷ reads (bytes "P5dT5mT5s") None None None None None false
    ∷ reads (bytes "P5dP5d") None None None None None false
    ∷ reads (bytes "PP5d") None None None None None false
    ∷ reads (bytes "P1d1") None None None None None false
    ∷ reads (bytes "5d") None None None None None false
    ∷ reads (bytes "T5m") None None None None None false
    ∷ reads (bytes "-T5m") None None None None None false
    ∷ reads (bytes "PT5") None None None None None false
    -- no durations: slots out of order, twice, or on the wrong side of the T
    ∷ reads (bytes "P1d2w") None None None None None false
    ∷ reads (bytes "P1w1w") None None None None None false
    ∷ reads (bytes "P1m1y") None None None None None false
    ∷ reads (bytes "P1w1m") None None None None None false
    ∷ reads (bytes "P1d1y") None None None None None false
    ∷ reads (bytes "P1m1m") None None None None None false
    ∷ reads (bytes "PT1s1h") None None None None None false
    ∷ reads (bytes "PT1m1h") None None None None None false
    ∷ reads (bytes "PT1s1m") None None None None None false
    ∷ reads (bytes "PT1h1h") None None None None None false
    ∷ reads (bytes "PT1s1S") None None None None None false
    ∷ reads (bytes "P1D1d") None None None None None false
    ∷ reads (bytes "P1h") None None None None None false
    ∷ reads (bytes "P1s") None None None None None false
    ∷ reads (bytes "P1d1h") None None None None None false
    ∷ reads (bytes "PT1d") None None None None None false
    ∷ reads (bytes "PT1y") None None None None None false
    ∷ reads (bytes "PT1w") None None None None None false
    ∷ reads (bytes "PT1h1d") None None None None None false
    ∷ reads (bytes "P1h1dT1m") None None None None None false
    ∷ reads (bytes "P1m1d1m") None None None None None false
    ∷ reads (bytes "P1mT1m1m") None None None None None false
    -- no durations: other letters, signs, dots and small letters for P and T
    ∷ reads (bytes "P1.5d") None None None None None false
    ∷ reads (bytes "P1,5d") None None None None None false
    ∷ reads (bytes "P.5d") None None None None None false
    ∷ reads (bytes "P5.d") None None None None None false
    ∷ reads (bytes "+P5d") None None None None None false
    ∷ reads (bytes "--P5d") None None None None None false
    ∷ reads (bytes "P-5d") None None None None None false
    ∷ reads (bytes "P+5d") None None None None None false
    ∷ reads (bytes "P1y-5d") None None None None None false
    ∷ reads (bytes "P5d-") None None None None None false
    ∷ reads (bytes "P5d_") None None None None None false
    ∷ reads (bytes "P5dZ") None None None None None false
    ∷ reads (bytes "P5d.") None None None None None false
    ∷ reads (bytes "P5d:") None None None None None false
    ∷ reads (bytes "P5_d") None None None None None false
    ∷ reads (bytes "_P5d") None None None None None false
    ∷ reads (bytes "Pt5m") None None None None None false
    ∷ reads (bytes "P1dt5m") None None None None None false
    ∷ reads (bytes "p5d") None None None None None false
    ∷ reads (bytes "-p5d") None None None None None false
    ∷ reads (bytes "pT5m") None None None None None false
    ∷ reads (bytes "P5x") None None None None None false
    ∷ reads (bytes "P5q") None None None None None false
    ∷ reads (bytes "P5T") None None None None None false
    ∷ reads (bytes "P5Td") None None None None None false
    ∷ reads (bytes "P5a") None None None None None false
    ∷ reads (bytes "PT5n") None None None None None false
    ∷ reads (bytes "P5e") None None None None None false
    ∷ reads (bytes "P5c") None None None None None false
    ∷ reads (bytes "P5z") None None None None None false
    ∷ reads (bytes "P5P") None None None None None false
    ∷ reads (bytes "P 5d") None None None None None false
    ∷ reads (bytes "P5 d") None None None None None false
    ∷ reads (bytes "P5d ") None None None None None false
    ∷ reads (bytes "P:5d") None None None None None false
    ∷ reads (bytes "P/5d") None None None None None false
    ∷ reads (bytes "D5d") None None None None None false
    ∷ reads (bytes "Q5d") None None None None None false
    ∷ reads (bytes "O5d") None None None None None false
    ∷ reads (bytes "PU5m") None None None None None false
    ∷ reads (bytes "PS5m") None None None None None false
    ∷ reads (bytes "P1dS5m") None None None None None false
    ∷ reads (bytes "P12w3d5") None None None None None false
    ∷ reads (bytes "P1D2") None None None None None false
    ∷ reads (bytes "P5Ä") None None None None None false
    ∷ reads (bytes "P5ä") None None None None None false
    ∷ reads (bytes "P5$") None None None None None false
    ∷ reads (bytes "P5[") None None None None None false
    ∷ []

pub none_wrong : wrong word_right 0 cases ≡ []
unfolding wrong word_right cases values_compute
none_wrong = refl
