-- Words and strings by leaves of every kind. The expectations are the second implementation's.
-- This file is written by `example_tables write` of second/. Assumes nothing.
use mathlib.Core.Path.{◌≡◌, refl}
use mathlib.Core.List.{List, [], ◌∷◌}
use Rattle.lexis.specs.Text.{bytes}
use Rattle.lexis.proofs.Tables.{wrong}
use Rattle.meaning.specs.Constraints.{single, ranges, texts, booleans, integers, date_pattern, dates, time_pattern, duration_pattern}
use Rattle.meaning.specs.Data.{string, word}
use Rattle.meaning.specs.Verdicts.{valid, fails}
use Rattle.meaning.proofs.Computes.{meaning_computes}
use Rattle.meaning.proofs.Trees.{range, item}
use Rattle.meaning.proofs.Examples.{Case, under, right}

pub cases : List Case
cases =
    -- a value of every sort under a leaf of every kind
    under (single booleans 3 1) (word 3 (bytes "True")) valid
    ∷ under (single booleans 3 1) (word 3 (bytes "5")) (fails 20 3 3)
    ∷ under (single booleans 3 1) (word 3 (bytes "2004")) (fails 20 3 3)
    ∷ under (single booleans 3 1) (word 3 (bytes "2004-05")) (fails 20 3 3)
    ∷ under (single booleans 3 1) (word 3 (bytes "2004-05-20")) (fails 20 3 3)
    ∷ under (single booleans 3 1) (word 3 (bytes "08")) (fails 20 3 3)
    ∷ under (single booleans 3 1) (word 3 (bytes "10:30")) (fails 20 3 3)
    ∷ under (single booleans 3 1) (word 3 (bytes "08:30:00Z")) (fails 20 3 3)
    ∷ under (single booleans 3 1) (word 3 (bytes "P4w")) (fails 20 3 3)
    ∷ under (single booleans 3 1) (string 3 (bytes "a")) (fails 20 3 3)
    ∷ under (single booleans 3 1) (string 3 []) (fails 20 3 3)
    ∷ under (ranges integers (range 3 2_147_483_653 2_147_483_653 ∷ [])) (word 3 (bytes "True")) (fails 20 3 3)
    ∷ under (ranges integers (range 3 2_147_483_653 2_147_483_653 ∷ [])) (word 3 (bytes "5")) valid
    ∷ under (ranges integers (range 3 2_147_483_653 2_147_483_653 ∷ [])) (word 3 (bytes "2004")) (fails 24 3 3)
    ∷ under (ranges integers (range 3 2_147_483_653 2_147_483_653 ∷ [])) (word 3 (bytes "2004-05")) (fails 20 3 3)
    ∷ under (ranges integers (range 3 2_147_483_653 2_147_483_653 ∷ [])) (word 3 (bytes "2004-05-20")) (fails 20 3 3)
    ∷ under (ranges integers (range 3 2_147_483_653 2_147_483_653 ∷ [])) (word 3 (bytes "08")) (fails 20 3 3)
    ∷ under (ranges integers (range 3 2_147_483_653 2_147_483_653 ∷ [])) (word 3 (bytes "10:30")) (fails 20 3 3)
    ∷ under (ranges integers (range 3 2_147_483_653 2_147_483_653 ∷ [])) (word 3 (bytes "08:30:00Z")) (fails 20 3 3)
    ∷ under (ranges integers (range 3 2_147_483_653 2_147_483_653 ∷ [])) (word 3 (bytes "P4w")) (fails 20 3 3)
    ∷ under (ranges integers (range 3 2_147_483_653 2_147_483_653 ∷ [])) (string 3 (bytes "a")) (fails 20 3 3)
    ∷ under (ranges integers (range 3 2_147_483_653 2_147_483_653 ∷ [])) (string 3 []) (fails 20 3 3)
    ∷ under (texts (item 3 (bytes "a") ∷ [])) (word 3 (bytes "True")) (fails 20 3 3)
    ∷ under (texts (item 3 (bytes "a") ∷ [])) (word 3 (bytes "5")) (fails 20 3 3)
    ∷ under (texts (item 3 (bytes "a") ∷ [])) (word 3 (bytes "2004")) (fails 20 3 3)
    ∷ under (texts (item 3 (bytes "a") ∷ [])) (word 3 (bytes "2004-05")) (fails 20 3 3)
    ∷ under (texts (item 3 (bytes "a") ∷ [])) (word 3 (bytes "2004-05-20")) (fails 20 3 3)
    ∷ under (texts (item 3 (bytes "a") ∷ [])) (word 3 (bytes "08")) (fails 20 3 3)
    ∷ under (texts (item 3 (bytes "a") ∷ [])) (word 3 (bytes "10:30")) (fails 20 3 3)
    ∷ under (texts (item 3 (bytes "a") ∷ [])) (word 3 (bytes "08:30:00Z")) (fails 20 3 3)
    ∷ under (texts (item 3 (bytes "a") ∷ [])) (word 3 (bytes "P4w")) (fails 20 3 3)
    ∷ under (texts (item 3 (bytes "a") ∷ [])) (string 3 (bytes "a")) valid
    ∷ under (texts (item 3 (bytes "a") ∷ [])) (string 3 []) (fails 24 3 3)
    ∷ under (single date_pattern 3 3) (word 3 (bytes "True")) (fails 20 3 3)
    ∷ under (single date_pattern 3 3) (word 3 (bytes "5")) (fails 20 3 3)
    ∷ under (single date_pattern 3 3) (word 3 (bytes "2004")) valid
    ∷ under (single date_pattern 3 3) (word 3 (bytes "2004-05")) valid
    ∷ under (single date_pattern 3 3) (word 3 (bytes "2004-05-20")) valid
    ∷ under (single date_pattern 3 3) (word 3 (bytes "08")) (fails 20 3 3)
    ∷ under (single date_pattern 3 3) (word 3 (bytes "10:30")) (fails 20 3 3)
    ∷ under (single date_pattern 3 3) (word 3 (bytes "08:30:00Z")) (fails 20 3 3)
    ∷ under (single date_pattern 3 3) (word 3 (bytes "P4w")) (fails 20 3 3)
    ∷ under (single date_pattern 3 3) (string 3 (bytes "a")) (fails 20 3 3)
    ∷ under (single date_pattern 3 3) (string 3 []) (fails 20 3 3)
    ∷ under (ranges dates (range 3 20_040_520 20_040_520 ∷ [])) (word 3 (bytes "True")) (fails 20 3 3)
    ∷ under (ranges dates (range 3 20_040_520 20_040_520 ∷ [])) (word 3 (bytes "5")) (fails 20 3 3)
    ∷ under (ranges dates (range 3 20_040_520 20_040_520 ∷ [])) (word 3 (bytes "2004")) (fails 24 3 3)
    ∷ under (ranges dates (range 3 20_040_520 20_040_520 ∷ [])) (word 3 (bytes "2004-05")) (fails 24 3 3)
    ∷ under (ranges dates (range 3 20_040_520 20_040_520 ∷ [])) (word 3 (bytes "2004-05-20")) valid
    ∷ under (ranges dates (range 3 20_040_520 20_040_520 ∷ [])) (word 3 (bytes "08")) (fails 20 3 3)
    ∷ under (ranges dates (range 3 20_040_520 20_040_520 ∷ [])) (word 3 (bytes "10:30")) (fails 20 3 3)
    ∷ under (ranges dates (range 3 20_040_520 20_040_520 ∷ [])) (word 3 (bytes "08:30:00Z")) (fails 20 3 3)
    ∷ under (ranges dates (range 3 20_040_520 20_040_520 ∷ [])) (word 3 (bytes "P4w")) (fails 20 3 3)
    ∷ under (ranges dates (range 3 20_040_520 20_040_520 ∷ [])) (string 3 (bytes "a")) (fails 20 3 3)
    ∷ under (ranges dates (range 3 20_040_520 20_040_520 ∷ [])) (string 3 []) (fails 20 3 3)
    ∷ under (single time_pattern 3 4) (word 3 (bytes "True")) (fails 20 3 3)
    ∷ under (single time_pattern 3 4) (word 3 (bytes "5")) (fails 20 3 3)
    ∷ under (single time_pattern 3 4) (word 3 (bytes "2004")) (fails 20 3 3)
    ∷ under (single time_pattern 3 4) (word 3 (bytes "2004-05")) (fails 20 3 3)
    ∷ under (single time_pattern 3 4) (word 3 (bytes "2004-05-20")) (fails 20 3 3)
    ∷ under (single time_pattern 3 4) (word 3 (bytes "08")) valid
    ∷ under (single time_pattern 3 4) (word 3 (bytes "10:30")) valid
    ∷ under (single time_pattern 3 4) (word 3 (bytes "08:30:00Z")) valid
    ∷ under (single time_pattern 3 4) (word 3 (bytes "P4w")) (fails 20 3 3)
    ∷ under (single time_pattern 3 4) (string 3 (bytes "a")) (fails 20 3 3)
    ∷ under (single time_pattern 3 4) (string 3 []) (fails 20 3 3)
    ∷ under (single duration_pattern 3 44) (word 3 (bytes "True")) (fails 20 3 3)
    ∷ under (single duration_pattern 3 44) (word 3 (bytes "5")) (fails 20 3 3)
    ∷ under (single duration_pattern 3 44) (word 3 (bytes "2004")) (fails 20 3 3)
    ∷ under (single duration_pattern 3 44) (word 3 (bytes "2004-05")) (fails 20 3 3)
    ∷ under (single duration_pattern 3 44) (word 3 (bytes "2004-05-20")) (fails 20 3 3)
    ∷ under (single duration_pattern 3 44) (word 3 (bytes "08")) (fails 20 3 3)
    ∷ under (single duration_pattern 3 44) (word 3 (bytes "10:30")) (fails 20 3 3)
    ∷ under (single duration_pattern 3 44) (word 3 (bytes "08:30:00Z")) (fails 20 3 3)
    ∷ under (single duration_pattern 3 44) (word 3 (bytes "P4w")) valid
    ∷ under (single duration_pattern 3 44) (string 3 (bytes "a")) (fails 20 3 3)
    ∷ under (single duration_pattern 3 44) (string 3 []) (fails 20 3 3)
    -- Booleans
    ∷ under (single booleans 3 1) (word 3 (bytes "True")) valid
    ∷ under (single booleans 3 1) (word 3 (bytes "False")) (fails 24 3 3)
    ∷ under (single booleans 3 1) (word 3 (bytes "1")) (fails 20 3 3)
    ∷ under (single booleans 3 1) (string 3 (bytes "True")) (fails 20 3 3)
    ∷ under (single booleans 3 1) (string 3 (bytes "False")) (fails 20 3 3)
    ∷ under (single booleans 3 2) (word 3 (bytes "True")) (fails 24 3 3)
    ∷ under (single booleans 3 2) (word 3 (bytes "False")) valid
    ∷ under (single booleans 3 2) (word 3 (bytes "1")) (fails 20 3 3)
    ∷ under (single booleans 3 2) (string 3 (bytes "True")) (fails 20 3 3)
    ∷ under (single booleans 3 2) (string 3 (bytes "False")) (fails 20 3 3)
    ∷ under (single booleans 3 3) (word 3 (bytes "True")) valid
    ∷ under (single booleans 3 3) (word 3 (bytes "False")) valid
    ∷ under (single booleans 3 3) (word 3 (bytes "1")) (fails 20 3 3)
    ∷ under (single booleans 3 3) (string 3 (bytes "True")) (fails 20 3 3)
    ∷ under (single booleans 3 3) (string 3 (bytes "False")) (fails 20 3 3)
    ∷ under (single booleans 3 3) (word 3 (bytes "True")) valid
    ∷ under (single booleans 3 3) (word 3 (bytes "False")) valid
    ∷ under (single booleans 3 3) (word 3 (bytes "1")) (fails 20 3 3)
    ∷ under (single booleans 3 3) (string 3 (bytes "True")) (fails 20 3 3)
    ∷ under (single booleans 3 3) (string 3 (bytes "False")) (fails 20 3 3)
    -- an integer at the edges of an interval
    ∷ under (ranges integers (range 3 2_147_483_643 2_147_483_657 ∷ [])) (word 3 (bytes "-6")) (fails 24 3 3)
    ∷ under (ranges integers (range 3 2_147_483_643 2_147_483_657 ∷ [])) (word 3 (bytes "-5")) valid
    ∷ under (ranges integers (range 3 2_147_483_643 2_147_483_657 ∷ [])) (word 3 (bytes "0")) valid
    ∷ under (ranges integers (range 3 2_147_483_643 2_147_483_657 ∷ [])) (word 3 (bytes "9")) valid
    ∷ under (ranges integers (range 3 2_147_483_643 2_147_483_657 ∷ [])) (word 3 (bytes "10")) (fails 24 3 3)
    ∷ under (ranges integers (range 3 2_147_483_643 2_147_483_657 ∷ [])) (word 3 (bytes "2147483647")) (fails 24 3 3)
    ∷ under (ranges integers (range 3 2_147_483_643 2_147_483_657 ∷ [])) (word 3 (bytes "-2147483648")) (fails 24 3 3)
    ∷ under (ranges integers (range 3 2_147_483_643 2_147_483_657 ∷ [])) (word 3 (bytes "-6")) (fails 24 3 3)
    ∷ under (ranges integers (range 3 2_147_483_643 2_147_483_657 ∷ [])) (word 3 (bytes "-5")) valid
    ∷ under (ranges integers (range 3 2_147_483_643 2_147_483_657 ∷ [])) (word 3 (bytes "0")) valid
    ∷ under (ranges integers (range 3 2_147_483_643 2_147_483_657 ∷ [])) (word 3 (bytes "9")) valid
    ∷ under (ranges integers (range 3 2_147_483_643 2_147_483_657 ∷ [])) (word 3 (bytes "10")) (fails 24 3 3)
    ∷ under (ranges integers (range 3 2_147_483_643 2_147_483_657 ∷ [])) (word 3 (bytes "2147483647")) (fails 24 3 3)
    ∷ under (ranges integers (range 3 2_147_483_643 2_147_483_657 ∷ [])) (word 3 (bytes "-2147483648")) (fails 24 3 3)
    ∷ under (ranges integers (range 3 2_147_483_643 2_147_483_657 ∷ [])) (word 3 (bytes "-6")) (fails 24 3 3)
    ∷ under (ranges integers (range 3 2_147_483_643 2_147_483_657 ∷ [])) (word 3 (bytes "-5")) valid
    ∷ under (ranges integers (range 3 2_147_483_643 2_147_483_657 ∷ [])) (word 3 (bytes "0")) valid
    ∷ under (ranges integers (range 3 2_147_483_643 2_147_483_657 ∷ [])) (word 3 (bytes "9")) valid
    ∷ under (ranges integers (range 3 2_147_483_643 2_147_483_657 ∷ [])) (word 3 (bytes "10")) (fails 24 3 3)
    ∷ under (ranges integers (range 3 2_147_483_643 2_147_483_657 ∷ [])) (word 3 (bytes "2147483647")) (fails 24 3 3)
    ∷ under (ranges integers (range 3 2_147_483_643 2_147_483_657 ∷ [])) (word 3 (bytes "-2147483648")) (fails 24 3 3)
    -- an open interval
    ∷ under (ranges integers (range 3 2_147_483_648 4_294_967_295 ∷ [])) (word 3 (bytes "-2147483648")) (fails 24 3 3)
    ∷ under (ranges integers (range 3 2_147_483_648 4_294_967_295 ∷ [])) (word 3 (bytes "-1")) (fails 24 3 3)
    ∷ under (ranges integers (range 3 2_147_483_648 4_294_967_295 ∷ [])) (word 3 (bytes "0")) valid
    ∷ under (ranges integers (range 3 2_147_483_648 4_294_967_295 ∷ [])) (word 3 (bytes "1")) valid
    ∷ under (ranges integers (range 3 2_147_483_648 4_294_967_295 ∷ [])) (word 3 (bytes "2147483647")) valid
    ∷ under (ranges integers (range 3 2_147_483_648 4_294_967_295 ∷ [])) (word 3 (bytes "-2147483648")) (fails 24 3 3)
    ∷ under (ranges integers (range 3 2_147_483_648 4_294_967_295 ∷ [])) (word 3 (bytes "-1")) (fails 24 3 3)
    ∷ under (ranges integers (range 3 2_147_483_648 4_294_967_295 ∷ [])) (word 3 (bytes "0")) valid
    ∷ under (ranges integers (range 3 2_147_483_648 4_294_967_295 ∷ [])) (word 3 (bytes "1")) valid
    ∷ under (ranges integers (range 3 2_147_483_648 4_294_967_295 ∷ [])) (word 3 (bytes "2147483647")) valid
    ∷ under (ranges integers (range 3 0 2_147_483_647 ∷ [])) (word 3 (bytes "-2147483648")) valid
    ∷ under (ranges integers (range 3 0 2_147_483_647 ∷ [])) (word 3 (bytes "-1")) valid
    ∷ under (ranges integers (range 3 0 2_147_483_647 ∷ [])) (word 3 (bytes "0")) (fails 24 3 3)
    ∷ under (ranges integers (range 3 0 2_147_483_647 ∷ [])) (word 3 (bytes "1")) (fails 24 3 3)
    ∷ under (ranges integers (range 3 0 2_147_483_647 ∷ [])) (word 3 (bytes "2147483647")) (fails 24 3 3)
    ∷ under (ranges integers (range 3 0 2_147_483_647 ∷ [])) (word 3 (bytes "-2147483648")) valid
    ∷ under (ranges integers (range 3 0 2_147_483_647 ∷ [])) (word 3 (bytes "-1")) valid
    ∷ under (ranges integers (range 3 0 2_147_483_647 ∷ [])) (word 3 (bytes "0")) (fails 24 3 3)
    ∷ under (ranges integers (range 3 0 2_147_483_647 ∷ [])) (word 3 (bytes "1")) (fails 24 3 3)
    ∷ under (ranges integers (range 3 0 2_147_483_647 ∷ [])) (word 3 (bytes "2147483647")) (fails 24 3 3)
    -- one value
    ∷ under (ranges integers (range 3 2_147_483_653 2_147_483_653 ∷ [])) (word 3 (bytes "-5")) (fails 24 3 3)
    ∷ under (ranges integers (range 3 2_147_483_653 2_147_483_653 ∷ [])) (word 3 (bytes "0")) (fails 24 3 3)
    ∷ under (ranges integers (range 3 2_147_483_653 2_147_483_653 ∷ [])) (word 3 (bytes "4")) (fails 24 3 3)
    ∷ under (ranges integers (range 3 2_147_483_653 2_147_483_653 ∷ [])) (word 3 (bytes "5")) valid
    ∷ under (ranges integers (range 3 2_147_483_653 2_147_483_653 ∷ [])) (word 3 (bytes "6")) (fails 24 3 3)
    ∷ under (ranges integers (range 3 2_147_483_653 2_147_483_653 ∷ [])) (string 3 (bytes "5")) (fails 20 3 3)
    ∷ under (ranges integers (range 3 2_147_483_653 2_147_483_653 ∷ [])) (word 3 (bytes "05")) (fails 20 3 3)
    ∷ under (ranges integers (range 3 2_147_483_653 2_147_483_653 ∷ [])) (word 3 (bytes "05:00")) (fails 20 3 3)
    ∷ under (ranges integers (range 3 2_147_483_653 2_147_483_653 ∷ [])) (word 3 (bytes "-5")) (fails 24 3 3)
    ∷ under (ranges integers (range 3 2_147_483_653 2_147_483_653 ∷ [])) (word 3 (bytes "0")) (fails 24 3 3)
    ∷ under (ranges integers (range 3 2_147_483_653 2_147_483_653 ∷ [])) (word 3 (bytes "4")) (fails 24 3 3)
    ∷ under (ranges integers (range 3 2_147_483_653 2_147_483_653 ∷ [])) (word 3 (bytes "5")) valid
    ∷ under (ranges integers (range 3 2_147_483_653 2_147_483_653 ∷ [])) (word 3 (bytes "6")) (fails 24 3 3)
    ∷ under (ranges integers (range 3 2_147_483_653 2_147_483_653 ∷ [])) (string 3 (bytes "5")) (fails 20 3 3)
    ∷ under (ranges integers (range 3 2_147_483_653 2_147_483_653 ∷ [])) (word 3 (bytes "05")) (fails 20 3 3)
    ∷ under (ranges integers (range 3 2_147_483_653 2_147_483_653 ∷ [])) (word 3 (bytes "05:00")) (fails 20 3 3)
    ∷ under (ranges integers (range 3 2_147_483_643 2_147_483_643 ∷ [])) (word 3 (bytes "-5")) valid
    ∷ under (ranges integers (range 3 2_147_483_643 2_147_483_643 ∷ [])) (word 3 (bytes "0")) (fails 24 3 3)
    ∷ under (ranges integers (range 3 2_147_483_643 2_147_483_643 ∷ [])) (word 3 (bytes "4")) (fails 24 3 3)
    ∷ under (ranges integers (range 3 2_147_483_643 2_147_483_643 ∷ [])) (word 3 (bytes "5")) (fails 24 3 3)
    ∷ under (ranges integers (range 3 2_147_483_643 2_147_483_643 ∷ [])) (word 3 (bytes "6")) (fails 24 3 3)
    ∷ under (ranges integers (range 3 2_147_483_643 2_147_483_643 ∷ [])) (string 3 (bytes "5")) (fails 20 3 3)
    ∷ under (ranges integers (range 3 2_147_483_643 2_147_483_643 ∷ [])) (word 3 (bytes "05")) (fails 20 3 3)
    ∷ under (ranges integers (range 3 2_147_483_643 2_147_483_643 ∷ [])) (word 3 (bytes "05:00")) (fails 20 3 3)
    ∷ under (ranges integers (range 3 2_147_483_648 2_147_483_648 ∷ [])) (word 3 (bytes "-5")) (fails 24 3 3)
    ∷ under (ranges integers (range 3 2_147_483_648 2_147_483_648 ∷ [])) (word 3 (bytes "0")) valid
    ∷ under (ranges integers (range 3 2_147_483_648 2_147_483_648 ∷ [])) (word 3 (bytes "4")) (fails 24 3 3)
    ∷ under (ranges integers (range 3 2_147_483_648 2_147_483_648 ∷ [])) (word 3 (bytes "5")) (fails 24 3 3)
    ∷ under (ranges integers (range 3 2_147_483_648 2_147_483_648 ∷ [])) (word 3 (bytes "6")) (fails 24 3 3)
    ∷ under (ranges integers (range 3 2_147_483_648 2_147_483_648 ∷ [])) (string 3 (bytes "5")) (fails 20 3 3)
    ∷ under (ranges integers (range 3 2_147_483_648 2_147_483_648 ∷ [])) (word 3 (bytes "05")) (fails 20 3 3)
    ∷ under (ranges integers (range 3 2_147_483_648 2_147_483_648 ∷ [])) (word 3 (bytes "05:00")) (fails 20 3 3)
    -- a list of integers: a value in some item
    ∷ under (ranges integers (range 3 2_147_483_649 2_147_483_649 ∷ range 4 2_147_483_653 2_147_483_657 ∷ range 5 2_147_483_668 2_147_483_668 ∷ [])) (word 3 (bytes "0")) (fails 24 3 3)
    ∷ under (ranges integers (range 3 2_147_483_649 2_147_483_649 ∷ range 4 2_147_483_653 2_147_483_657 ∷ range 5 2_147_483_668 2_147_483_668 ∷ [])) (word 3 (bytes "1")) valid
    ∷ under (ranges integers (range 3 2_147_483_649 2_147_483_649 ∷ range 4 2_147_483_653 2_147_483_657 ∷ range 5 2_147_483_668 2_147_483_668 ∷ [])) (word 3 (bytes "2")) (fails 24 3 3)
    ∷ under (ranges integers (range 3 2_147_483_649 2_147_483_649 ∷ range 4 2_147_483_653 2_147_483_657 ∷ range 5 2_147_483_668 2_147_483_668 ∷ [])) (word 3 (bytes "4")) (fails 24 3 3)
    ∷ under (ranges integers (range 3 2_147_483_649 2_147_483_649 ∷ range 4 2_147_483_653 2_147_483_657 ∷ range 5 2_147_483_668 2_147_483_668 ∷ [])) (word 3 (bytes "5")) valid
    ∷ under (ranges integers (range 3 2_147_483_649 2_147_483_649 ∷ range 4 2_147_483_653 2_147_483_657 ∷ range 5 2_147_483_668 2_147_483_668 ∷ [])) (word 3 (bytes "9")) valid
    ∷ under (ranges integers (range 3 2_147_483_649 2_147_483_649 ∷ range 4 2_147_483_653 2_147_483_657 ∷ range 5 2_147_483_668 2_147_483_668 ∷ [])) (word 3 (bytes "10")) (fails 24 3 3)
    ∷ under (ranges integers (range 3 2_147_483_649 2_147_483_649 ∷ range 4 2_147_483_653 2_147_483_657 ∷ range 5 2_147_483_668 2_147_483_668 ∷ [])) (word 3 (bytes "19")) (fails 24 3 3)
    ∷ under (ranges integers (range 3 2_147_483_649 2_147_483_649 ∷ range 4 2_147_483_653 2_147_483_657 ∷ range 5 2_147_483_668 2_147_483_668 ∷ [])) (word 3 (bytes "20")) valid
    ∷ under (ranges integers (range 3 2_147_483_649 2_147_483_649 ∷ range 4 2_147_483_653 2_147_483_657 ∷ range 5 2_147_483_668 2_147_483_668 ∷ [])) (word 3 (bytes "21")) (fails 24 3 3)
    ∷ under (ranges integers (range 3 2_147_483_649 2_147_483_649 ∷ range 4 2_147_483_653 2_147_483_657 ∷ range 5 2_147_483_668 2_147_483_668 ∷ [])) (word 3 (bytes "True")) (fails 20 3 3)
    ∷ under (ranges integers (range 3 2_147_483_668 2_147_483_668 ∷ range 4 2_147_483_653 2_147_483_657 ∷ range 5 2_147_483_649 2_147_483_649 ∷ [])) (word 3 (bytes "0")) (fails 24 3 3)
    ∷ under (ranges integers (range 3 2_147_483_668 2_147_483_668 ∷ range 4 2_147_483_653 2_147_483_657 ∷ range 5 2_147_483_649 2_147_483_649 ∷ [])) (word 3 (bytes "1")) valid
    ∷ under (ranges integers (range 3 2_147_483_668 2_147_483_668 ∷ range 4 2_147_483_653 2_147_483_657 ∷ range 5 2_147_483_649 2_147_483_649 ∷ [])) (word 3 (bytes "2")) (fails 24 3 3)
    ∷ under (ranges integers (range 3 2_147_483_668 2_147_483_668 ∷ range 4 2_147_483_653 2_147_483_657 ∷ range 5 2_147_483_649 2_147_483_649 ∷ [])) (word 3 (bytes "4")) (fails 24 3 3)
    ∷ under (ranges integers (range 3 2_147_483_668 2_147_483_668 ∷ range 4 2_147_483_653 2_147_483_657 ∷ range 5 2_147_483_649 2_147_483_649 ∷ [])) (word 3 (bytes "5")) valid
    ∷ under (ranges integers (range 3 2_147_483_668 2_147_483_668 ∷ range 4 2_147_483_653 2_147_483_657 ∷ range 5 2_147_483_649 2_147_483_649 ∷ [])) (word 3 (bytes "9")) valid
    ∷ under (ranges integers (range 3 2_147_483_668 2_147_483_668 ∷ range 4 2_147_483_653 2_147_483_657 ∷ range 5 2_147_483_649 2_147_483_649 ∷ [])) (word 3 (bytes "10")) (fails 24 3 3)
    ∷ under (ranges integers (range 3 2_147_483_668 2_147_483_668 ∷ range 4 2_147_483_653 2_147_483_657 ∷ range 5 2_147_483_649 2_147_483_649 ∷ [])) (word 3 (bytes "19")) (fails 24 3 3)
    ∷ under (ranges integers (range 3 2_147_483_668 2_147_483_668 ∷ range 4 2_147_483_653 2_147_483_657 ∷ range 5 2_147_483_649 2_147_483_649 ∷ [])) (word 3 (bytes "20")) valid
    ∷ under (ranges integers (range 3 2_147_483_668 2_147_483_668 ∷ range 4 2_147_483_653 2_147_483_657 ∷ range 5 2_147_483_649 2_147_483_649 ∷ [])) (word 3 (bytes "21")) (fails 24 3 3)
    ∷ under (ranges integers (range 3 2_147_483_668 2_147_483_668 ∷ range 4 2_147_483_653 2_147_483_657 ∷ range 5 2_147_483_649 2_147_483_649 ∷ [])) (word 3 (bytes "True")) (fails 20 3 3)
    -- a list of integers whose items touch
    ∷ under (ranges integers (range 3 2_147_483_649 2_147_483_652 ∷ range 4 2_147_483_653 2_147_483_657 ∷ [])) (word 3 (bytes "0")) (fails 24 3 3)
    ∷ under (ranges integers (range 3 2_147_483_649 2_147_483_652 ∷ range 4 2_147_483_653 2_147_483_657 ∷ [])) (word 3 (bytes "1")) valid
    ∷ under (ranges integers (range 3 2_147_483_649 2_147_483_652 ∷ range 4 2_147_483_653 2_147_483_657 ∷ [])) (word 3 (bytes "4")) valid
    ∷ under (ranges integers (range 3 2_147_483_649 2_147_483_652 ∷ range 4 2_147_483_653 2_147_483_657 ∷ [])) (word 3 (bytes "5")) valid
    ∷ under (ranges integers (range 3 2_147_483_649 2_147_483_652 ∷ range 4 2_147_483_653 2_147_483_657 ∷ [])) (word 3 (bytes "9")) valid
    ∷ under (ranges integers (range 3 2_147_483_649 2_147_483_652 ∷ range 4 2_147_483_653 2_147_483_657 ∷ [])) (word 3 (bytes "10")) (fails 24 3 3)
    ∷ under (ranges integers (range 3 2_147_483_649 2_147_483_652 ∷ range 4 2_147_483_653 2_147_483_657 ∷ [])) (word 3 (bytes "-2147483648")) (fails 24 3 3)
    ∷ under (ranges integers (range 3 2_147_483_649 2_147_483_652 ∷ range 4 2_147_483_653 2_147_483_657 ∷ [])) (word 3 (bytes "2147483647")) (fails 24 3 3)
    ∷ under (ranges integers (range 3 0 2_147_483_647 ∷ range 4 2_147_483_648 2_147_483_648 ∷ range 5 2_147_483_649 4_294_967_295 ∷ [])) (word 3 (bytes "0")) valid
    ∷ under (ranges integers (range 3 0 2_147_483_647 ∷ range 4 2_147_483_648 2_147_483_648 ∷ range 5 2_147_483_649 4_294_967_295 ∷ [])) (word 3 (bytes "1")) valid
    ∷ under (ranges integers (range 3 0 2_147_483_647 ∷ range 4 2_147_483_648 2_147_483_648 ∷ range 5 2_147_483_649 4_294_967_295 ∷ [])) (word 3 (bytes "4")) valid
    ∷ under (ranges integers (range 3 0 2_147_483_647 ∷ range 4 2_147_483_648 2_147_483_648 ∷ range 5 2_147_483_649 4_294_967_295 ∷ [])) (word 3 (bytes "5")) valid
    ∷ under (ranges integers (range 3 0 2_147_483_647 ∷ range 4 2_147_483_648 2_147_483_648 ∷ range 5 2_147_483_649 4_294_967_295 ∷ [])) (word 3 (bytes "9")) valid
    ∷ under (ranges integers (range 3 0 2_147_483_647 ∷ range 4 2_147_483_648 2_147_483_648 ∷ range 5 2_147_483_649 4_294_967_295 ∷ [])) (word 3 (bytes "10")) valid
    ∷ under (ranges integers (range 3 0 2_147_483_647 ∷ range 4 2_147_483_648 2_147_483_648 ∷ range 5 2_147_483_649 4_294_967_295 ∷ [])) (word 3 (bytes "-2147483648")) valid
    ∷ under (ranges integers (range 3 0 2_147_483_647 ∷ range 4 2_147_483_648 2_147_483_648 ∷ range 5 2_147_483_649 4_294_967_295 ∷ [])) (word 3 (bytes "2147483647")) valid
    -- strings: all of its bytes
    ∷ under (texts (item 3 (bytes "a") ∷ [])) (string 3 (bytes "a")) valid
    ∷ under (texts (item 3 (bytes "a") ∷ [])) (string 3 (bytes "ab")) (fails 24 3 3)
    ∷ under (texts (item 3 (bytes "a") ∷ [])) (string 3 (bytes "b")) (fails 24 3 3)
    ∷ under (texts (item 3 (bytes "a") ∷ [])) (string 3 []) (fails 24 3 3)
    ∷ under (texts (item 3 (bytes "a") ∷ [])) (string 3 (bytes "A")) (fails 24 3 3)
    ∷ under (texts (item 3 (bytes "a") ∷ [])) (string 3 (bytes " a")) (fails 24 3 3)
    ∷ under (texts (item 3 (bytes "a") ∷ [])) (string 3 (bytes "a ")) (fails 24 3 3)
    ∷ under (texts (item 3 (bytes "a") ∷ [])) (word 3 (bytes "5")) (fails 20 3 3)
    ∷ under (texts (item 3 (bytes "ab") ∷ [])) (string 3 (bytes "a")) (fails 24 3 3)
    ∷ under (texts (item 3 (bytes "ab") ∷ [])) (string 3 (bytes "ab")) valid
    ∷ under (texts (item 3 (bytes "ab") ∷ [])) (string 3 (bytes "b")) (fails 24 3 3)
    ∷ under (texts (item 3 (bytes "ab") ∷ [])) (string 3 []) (fails 24 3 3)
    ∷ under (texts (item 3 (bytes "ab") ∷ [])) (string 3 (bytes "A")) (fails 24 3 3)
    ∷ under (texts (item 3 (bytes "ab") ∷ [])) (string 3 (bytes " a")) (fails 24 3 3)
    ∷ under (texts (item 3 (bytes "ab") ∷ [])) (string 3 (bytes "a ")) (fails 24 3 3)
    ∷ under (texts (item 3 (bytes "ab") ∷ [])) (word 3 (bytes "5")) (fails 20 3 3)
    ∷ under (texts (item 3 [] ∷ [])) (string 3 (bytes "a")) (fails 24 3 3)
    ∷ under (texts (item 3 [] ∷ [])) (string 3 (bytes "ab")) (fails 24 3 3)
    ∷ under (texts (item 3 [] ∷ [])) (string 3 (bytes "b")) (fails 24 3 3)
    ∷ under (texts (item 3 [] ∷ [])) (string 3 []) valid
    ∷ under (texts (item 3 [] ∷ [])) (string 3 (bytes "A")) (fails 24 3 3)
    ∷ under (texts (item 3 [] ∷ [])) (string 3 (bytes " a")) (fails 24 3 3)
    ∷ under (texts (item 3 [] ∷ [])) (string 3 (bytes "a ")) (fails 24 3 3)
    ∷ under (texts (item 3 [] ∷ [])) (word 3 (bytes "5")) (fails 20 3 3)
    ∷ under (texts (item 3 (bytes "A") ∷ [])) (string 3 (bytes "a")) (fails 24 3 3)
    ∷ under (texts (item 3 (bytes "A") ∷ [])) (string 3 (bytes "ab")) (fails 24 3 3)
    ∷ under (texts (item 3 (bytes "A") ∷ [])) (string 3 (bytes "b")) (fails 24 3 3)
    ∷ under (texts (item 3 (bytes "A") ∷ [])) (string 3 []) (fails 24 3 3)
    ∷ under (texts (item 3 (bytes "A") ∷ [])) (string 3 (bytes "A")) valid
    ∷ under (texts (item 3 (bytes "A") ∷ [])) (string 3 (bytes " a")) (fails 24 3 3)
    ∷ under (texts (item 3 (bytes "A") ∷ [])) (string 3 (bytes "a ")) (fails 24 3 3)
    ∷ under (texts (item 3 (bytes "A") ∷ [])) (word 3 (bytes "5")) (fails 20 3 3)
    ∷ under (texts (item 3 (bytes " a") ∷ [])) (string 3 (bytes "a")) (fails 24 3 3)
    ∷ under (texts (item 3 (bytes " a") ∷ [])) (string 3 (bytes "ab")) (fails 24 3 3)
    ∷ under (texts (item 3 (bytes " a") ∷ [])) (string 3 (bytes "b")) (fails 24 3 3)
    ∷ under (texts (item 3 (bytes " a") ∷ [])) (string 3 []) (fails 24 3 3)
    ∷ under (texts (item 3 (bytes " a") ∷ [])) (string 3 (bytes "A")) (fails 24 3 3)
    ∷ under (texts (item 3 (bytes " a") ∷ [])) (string 3 (bytes " a")) valid
    ∷ under (texts (item 3 (bytes " a") ∷ [])) (string 3 (bytes "a ")) (fails 24 3 3)
    ∷ under (texts (item 3 (bytes " a") ∷ [])) (word 3 (bytes "5")) (fails 20 3 3)
    -- a list of strings
    ∷ under (texts (item 3 (bytes "a") ∷ item 4 [] ∷ item 5 (bytes "bc") ∷ [])) (string 3 (bytes "a")) valid
    ∷ under (texts (item 3 (bytes "a") ∷ item 4 [] ∷ item 5 (bytes "bc") ∷ [])) (string 3 []) valid
    ∷ under (texts (item 3 (bytes "a") ∷ item 4 [] ∷ item 5 (bytes "bc") ∷ [])) (string 3 (bytes "b")) (fails 24 3 3)
    ∷ under (texts (item 3 (bytes "a") ∷ item 4 [] ∷ item 5 (bytes "bc") ∷ [])) (string 3 (bytes "bc")) valid
    ∷ under (texts (item 3 (bytes "a") ∷ item 4 [] ∷ item 5 (bytes "bc") ∷ [])) (string 3 (bytes "bcd")) (fails 24 3 3)
    ∷ under (texts (item 3 (bytes "a") ∷ item 4 [] ∷ item 5 (bytes "bc") ∷ [])) (string 3 (bytes "c")) (fails 24 3 3)
    ∷ under (texts (item 3 (bytes "a") ∷ item 4 [] ∷ item 5 (bytes "bc") ∷ [])) (word 3 (bytes "True")) (fails 20 3 3)
    ∷ under (texts (item 3 (bytes "bc") ∷ item 4 (bytes "b") ∷ [])) (string 3 (bytes "a")) (fails 24 3 3)
    ∷ under (texts (item 3 (bytes "bc") ∷ item 4 (bytes "b") ∷ [])) (string 3 []) (fails 24 3 3)
    ∷ under (texts (item 3 (bytes "bc") ∷ item 4 (bytes "b") ∷ [])) (string 3 (bytes "b")) valid
    ∷ under (texts (item 3 (bytes "bc") ∷ item 4 (bytes "b") ∷ [])) (string 3 (bytes "bc")) valid
    ∷ under (texts (item 3 (bytes "bc") ∷ item 4 (bytes "b") ∷ [])) (string 3 (bytes "bcd")) (fails 24 3 3)
    ∷ under (texts (item 3 (bytes "bc") ∷ item 4 (bytes "b") ∷ [])) (string 3 (bytes "c")) (fails 24 3 3)
    ∷ under (texts (item 3 (bytes "bc") ∷ item 4 (bytes "b") ∷ [])) (word 3 (bytes "True")) (fails 20 3 3)
    -- date patterns: lettered parts must be there, `??` may, `XX` may not
    ∷ under (single date_pattern 3 1) (word 3 (bytes "2004")) (fails 24 3 3)
    ∷ under (single date_pattern 3 1) (word 3 (bytes "2004-05")) (fails 24 3 3)
    ∷ under (single date_pattern 3 1) (word 3 (bytes "2004-05-20")) valid
    ∷ under (single date_pattern 3 1) (word 3 (bytes "0000")) (fails 24 3 3)
    ∷ under (single date_pattern 3 1) (word 3 (bytes "9999-12-31")) valid
    ∷ under (single date_pattern 3 1) (word 3 (bytes "20040520")) (fails 20 3 3)
    ∷ under (single date_pattern 3 1) (string 3 (bytes "2004")) (fails 20 3 3)
    ∷ under (single date_pattern 3 2) (word 3 (bytes "2004")) (fails 24 3 3)
    ∷ under (single date_pattern 3 2) (word 3 (bytes "2004-05")) valid
    ∷ under (single date_pattern 3 2) (word 3 (bytes "2004-05-20")) valid
    ∷ under (single date_pattern 3 2) (word 3 (bytes "0000")) (fails 24 3 3)
    ∷ under (single date_pattern 3 2) (word 3 (bytes "9999-12-31")) valid
    ∷ under (single date_pattern 3 2) (word 3 (bytes "20040520")) (fails 20 3 3)
    ∷ under (single date_pattern 3 2) (string 3 (bytes "2004")) (fails 20 3 3)
    ∷ under (single date_pattern 3 3) (word 3 (bytes "2004")) valid
    ∷ under (single date_pattern 3 3) (word 3 (bytes "2004-05")) valid
    ∷ under (single date_pattern 3 3) (word 3 (bytes "2004-05-20")) valid
    ∷ under (single date_pattern 3 3) (word 3 (bytes "0000")) valid
    ∷ under (single date_pattern 3 3) (word 3 (bytes "9999-12-31")) valid
    ∷ under (single date_pattern 3 3) (word 3 (bytes "20040520")) (fails 20 3 3)
    ∷ under (single date_pattern 3 3) (string 3 (bytes "2004")) (fails 20 3 3)
    ∷ under (single date_pattern 3 4) (word 3 (bytes "2004")) (fails 24 3 3)
    ∷ under (single date_pattern 3 4) (word 3 (bytes "2004-05")) valid
    ∷ under (single date_pattern 3 4) (word 3 (bytes "2004-05-20")) (fails 24 3 3)
    ∷ under (single date_pattern 3 4) (word 3 (bytes "0000")) (fails 24 3 3)
    ∷ under (single date_pattern 3 4) (word 3 (bytes "9999-12-31")) (fails 24 3 3)
    ∷ under (single date_pattern 3 4) (word 3 (bytes "20040520")) (fails 20 3 3)
    ∷ under (single date_pattern 3 4) (string 3 (bytes "2004")) (fails 20 3 3)
    ∷ under (single date_pattern 3 5) (word 3 (bytes "2004")) valid
    ∷ under (single date_pattern 3 5) (word 3 (bytes "2004-05")) valid
    ∷ under (single date_pattern 3 5) (word 3 (bytes "2004-05-20")) (fails 24 3 3)
    ∷ under (single date_pattern 3 5) (word 3 (bytes "0000")) valid
    ∷ under (single date_pattern 3 5) (word 3 (bytes "9999-12-31")) (fails 24 3 3)
    ∷ under (single date_pattern 3 5) (word 3 (bytes "20040520")) (fails 20 3 3)
    ∷ under (single date_pattern 3 5) (string 3 (bytes "2004")) (fails 20 3 3)
    -- time patterns, with every zone
    ∷ under (single time_pattern 3 1) (word 3 (bytes "08")) (fails 24 3 3)
    ∷ under (single time_pattern 3 1) (word 3 (bytes "08:30")) (fails 24 3 3)
    ∷ under (single time_pattern 3 1) (word 3 (bytes "08:30:59")) valid
    ∷ under (single time_pattern 3 1) (word 3 (bytes "23Z")) (fails 24 3 3)
    ∷ under (single time_pattern 3 1) (word 3 (bytes "08:30+05")) (fails 24 3 3)
    ∷ under (single time_pattern 3 1) (word 3 (bytes "08:30:59-12:59")) valid
    ∷ under (single time_pattern 3 1) (word 3 (bytes "24")) (fails 20 3 3)
    ∷ under (single time_pattern 3 1) (word 3 (bytes "2004")) (fails 20 3 3)
    ∷ under (single time_pattern 3 1) (string 3 (bytes "08:30")) (fails 20 3 3)
    ∷ under (single time_pattern 3 2) (word 3 (bytes "08")) (fails 24 3 3)
    ∷ under (single time_pattern 3 2) (word 3 (bytes "08:30")) valid
    ∷ under (single time_pattern 3 2) (word 3 (bytes "08:30:59")) (fails 24 3 3)
    ∷ under (single time_pattern 3 2) (word 3 (bytes "23Z")) (fails 24 3 3)
    ∷ under (single time_pattern 3 2) (word 3 (bytes "08:30+05")) valid
    ∷ under (single time_pattern 3 2) (word 3 (bytes "08:30:59-12:59")) (fails 24 3 3)
    ∷ under (single time_pattern 3 2) (word 3 (bytes "24")) (fails 20 3 3)
    ∷ under (single time_pattern 3 2) (word 3 (bytes "2004")) (fails 20 3 3)
    ∷ under (single time_pattern 3 2) (string 3 (bytes "08:30")) (fails 20 3 3)
    ∷ under (single time_pattern 3 3) (word 3 (bytes "08")) valid
    ∷ under (single time_pattern 3 3) (word 3 (bytes "08:30")) valid
    ∷ under (single time_pattern 3 3) (word 3 (bytes "08:30:59")) (fails 24 3 3)
    ∷ under (single time_pattern 3 3) (word 3 (bytes "23Z")) valid
    ∷ under (single time_pattern 3 3) (word 3 (bytes "08:30+05")) valid
    ∷ under (single time_pattern 3 3) (word 3 (bytes "08:30:59-12:59")) (fails 24 3 3)
    ∷ under (single time_pattern 3 3) (word 3 (bytes "24")) (fails 20 3 3)
    ∷ under (single time_pattern 3 3) (word 3 (bytes "2004")) (fails 20 3 3)
    ∷ under (single time_pattern 3 3) (string 3 (bytes "08:30")) (fails 20 3 3)
    ∷ under (single time_pattern 3 4) (word 3 (bytes "08")) valid
    ∷ under (single time_pattern 3 4) (word 3 (bytes "08:30")) valid
    ∷ under (single time_pattern 3 4) (word 3 (bytes "08:30:59")) valid
    ∷ under (single time_pattern 3 4) (word 3 (bytes "23Z")) valid
    ∷ under (single time_pattern 3 4) (word 3 (bytes "08:30+05")) valid
    ∷ under (single time_pattern 3 4) (word 3 (bytes "08:30:59-12:59")) valid
    ∷ under (single time_pattern 3 4) (word 3 (bytes "24")) (fails 20 3 3)
    ∷ under (single time_pattern 3 4) (word 3 (bytes "2004")) (fails 20 3 3)
    ∷ under (single time_pattern 3 4) (string 3 (bytes "08:30")) (fails 20 3 3)
    -- duration patterns: each slot that is filled must be there, the sign is free
    ∷ under (single duration_pattern 3 12) (word 3 (bytes "P4w")) valid
    ∷ under (single duration_pattern 3 12) (word 3 (bytes "P12W3D")) valid
    ∷ under (single duration_pattern 3 12) (word 3 (bytes "-P3d")) valid
    ∷ under (single duration_pattern 3 12) (word 3 (bytes "PT5m")) (fails 24 3 3)
    ∷ under (single duration_pattern 3 12) (word 3 (bytes "P1w2dT3h")) (fails 24 3 3)
    ∷ under (single duration_pattern 3 12) (word 3 (bytes "P5M")) (fails 24 3 3)
    ∷ under (single duration_pattern 3 12) (word 3 (bytes "P0y4w")) (fails 24 3 3)
    ∷ under (single duration_pattern 3 12) (string 3 (bytes "P4w")) (fails 20 3 3)
    ∷ under (single duration_pattern 3 12) (word 3 (bytes "2004")) (fails 20 3 3)
    ∷ under (single duration_pattern 3 32) (word 3 (bytes "P4w")) (fails 24 3 3)
    ∷ under (single duration_pattern 3 32) (word 3 (bytes "P12W3D")) (fails 24 3 3)
    ∷ under (single duration_pattern 3 32) (word 3 (bytes "-P3d")) (fails 24 3 3)
    ∷ under (single duration_pattern 3 32) (word 3 (bytes "PT5m")) valid
    ∷ under (single duration_pattern 3 32) (word 3 (bytes "P1w2dT3h")) (fails 24 3 3)
    ∷ under (single duration_pattern 3 32) (word 3 (bytes "P5M")) (fails 24 3 3)
    ∷ under (single duration_pattern 3 32) (word 3 (bytes "P0y4w")) (fails 24 3 3)
    ∷ under (single duration_pattern 3 32) (string 3 (bytes "P4w")) (fails 20 3 3)
    ∷ under (single duration_pattern 3 32) (word 3 (bytes "2004")) (fails 20 3 3)
    ∷ under (single duration_pattern 3 2) (word 3 (bytes "P4w")) (fails 24 3 3)
    ∷ under (single duration_pattern 3 2) (word 3 (bytes "P12W3D")) (fails 24 3 3)
    ∷ under (single duration_pattern 3 2) (word 3 (bytes "-P3d")) (fails 24 3 3)
    ∷ under (single duration_pattern 3 2) (word 3 (bytes "PT5m")) (fails 24 3 3)
    ∷ under (single duration_pattern 3 2) (word 3 (bytes "P1w2dT3h")) (fails 24 3 3)
    ∷ under (single duration_pattern 3 2) (word 3 (bytes "P5M")) valid
    ∷ under (single duration_pattern 3 2) (word 3 (bytes "P0y4w")) (fails 24 3 3)
    ∷ under (single duration_pattern 3 2) (string 3 (bytes "P4w")) (fails 20 3 3)
    ∷ under (single duration_pattern 3 2) (word 3 (bytes "2004")) (fails 20 3 3)
    -- a duration pattern of all slots
    ∷ under (single duration_pattern 3 127) (word 3 (bytes "P1y2m3w4dT5h6m7s")) valid
    ∷ under (single duration_pattern 3 127) (word 3 (bytes "-P9999Y9999M9999W9999DT9999H9999M9999S")) valid
    ∷ under (single duration_pattern 3 127) (word 3 (bytes "P0d")) valid
    ∷ under (single duration_pattern 3 127) (word 3 (bytes "PT1s")) valid
    ∷ under (single duration_pattern 3 127) (word 3 (bytes "5")) (fails 20 3 3)
    -- durations under other leaves
    ∷ under (ranges integers (range 3 2_147_483_648 2_147_483_657 ∷ [])) (word 3 (bytes "P4w")) (fails 20 3 3)
    ∷ under (ranges integers (range 3 2_147_483_648 2_147_483_657 ∷ [])) (word 3 (bytes "-PT5M")) (fails 20 3 3)
    ∷ under (ranges integers (range 3 2_147_483_648 2_147_483_657 ∷ [])) (string 3 (bytes "P4w")) (fails 20 3 3)
    ∷ under (texts (item 3 (bytes "P4w") ∷ [])) (word 3 (bytes "P4w")) (fails 20 3 3)
    ∷ under (texts (item 3 (bytes "P4w") ∷ [])) (word 3 (bytes "-PT5M")) (fails 20 3 3)
    ∷ under (texts (item 3 (bytes "P4w") ∷ [])) (string 3 (bytes "P4w")) valid
    ∷ under (single booleans 3 1) (word 3 (bytes "P4w")) (fails 20 3 3)
    ∷ under (single booleans 3 1) (word 3 (bytes "-PT5M")) (fails 20 3 3)
    ∷ under (single booleans 3 1) (string 3 (bytes "P4w")) (fails 20 3 3)
    -- a date at the edges of an interval; a part of a date isn't in any
    ∷ under (ranges dates (range 3 20_031_231 20_040_229 ∷ [])) (word 3 (bytes "2003-12-30")) (fails 24 3 3)
    ∷ under (ranges dates (range 3 20_031_231 20_040_229 ∷ [])) (word 3 (bytes "2003-12-31")) valid
    ∷ under (ranges dates (range 3 20_031_231 20_040_229 ∷ [])) (word 3 (bytes "2004-01-01")) valid
    ∷ under (ranges dates (range 3 20_031_231 20_040_229 ∷ [])) (word 3 (bytes "2004-02-29")) valid
    ∷ under (ranges dates (range 3 20_031_231 20_040_229 ∷ [])) (word 3 (bytes "2004-03-01")) (fails 24 3 3)
    ∷ under (ranges dates (range 3 20_031_231 20_040_229 ∷ [])) (word 3 (bytes "2004")) (fails 24 3 3)
    ∷ under (ranges dates (range 3 20_031_231 20_040_229 ∷ [])) (word 3 (bytes "2004-01")) (fails 24 3 3)
    ∷ under (ranges dates (range 3 20_031_231 20_040_229 ∷ [])) (word 3 (bytes "2004-02")) (fails 24 3 3)
    ∷ under (ranges dates (range 3 20_031_231 20_040_229 ∷ [])) (word 3 (bytes "20040101")) (fails 20 3 3)
    ∷ under (ranges dates (range 3 20_031_231 20_040_229 ∷ [])) (word 3 (bytes "5")) (fails 20 3 3)
    ∷ under (ranges dates (range 3 20_031_231 20_040_229 ∷ [])) (word 3 (bytes "2003-12-30")) (fails 24 3 3)
    ∷ under (ranges dates (range 3 20_031_231 20_040_229 ∷ [])) (word 3 (bytes "2003-12-31")) valid
    ∷ under (ranges dates (range 3 20_031_231 20_040_229 ∷ [])) (word 3 (bytes "2004-01-01")) valid
    ∷ under (ranges dates (range 3 20_031_231 20_040_229 ∷ [])) (word 3 (bytes "2004-02-29")) valid
    ∷ under (ranges dates (range 3 20_031_231 20_040_229 ∷ [])) (word 3 (bytes "2004-03-01")) (fails 24 3 3)
    ∷ under (ranges dates (range 3 20_031_231 20_040_229 ∷ [])) (word 3 (bytes "2004")) (fails 24 3 3)
    ∷ under (ranges dates (range 3 20_031_231 20_040_229 ∷ [])) (word 3 (bytes "2004-01")) (fails 24 3 3)
    ∷ under (ranges dates (range 3 20_031_231 20_040_229 ∷ [])) (word 3 (bytes "2004-02")) (fails 24 3 3)
    ∷ under (ranges dates (range 3 20_031_231 20_040_229 ∷ [])) (word 3 (bytes "20040101")) (fails 20 3 3)
    ∷ under (ranges dates (range 3 20_031_231 20_040_229 ∷ [])) (word 3 (bytes "5")) (fails 20 3 3)
    ∷ under (ranges dates (range 3 20_040_101 20_040_101 ∷ [])) (word 3 (bytes "2003-12-30")) (fails 24 3 3)
    ∷ under (ranges dates (range 3 20_040_101 20_040_101 ∷ [])) (word 3 (bytes "2003-12-31")) (fails 24 3 3)
    ∷ under (ranges dates (range 3 20_040_101 20_040_101 ∷ [])) (word 3 (bytes "2004-01-01")) valid
    ∷ under (ranges dates (range 3 20_040_101 20_040_101 ∷ [])) (word 3 (bytes "2004-02-29")) (fails 24 3 3)
    ∷ under (ranges dates (range 3 20_040_101 20_040_101 ∷ [])) (word 3 (bytes "2004-03-01")) (fails 24 3 3)
    ∷ under (ranges dates (range 3 20_040_101 20_040_101 ∷ [])) (word 3 (bytes "2004")) (fails 24 3 3)
    ∷ under (ranges dates (range 3 20_040_101 20_040_101 ∷ [])) (word 3 (bytes "2004-01")) (fails 24 3 3)
    ∷ under (ranges dates (range 3 20_040_101 20_040_101 ∷ [])) (word 3 (bytes "2004-02")) (fails 24 3 3)
    ∷ under (ranges dates (range 3 20_040_101 20_040_101 ∷ [])) (word 3 (bytes "20040101")) (fails 20 3 3)
    ∷ under (ranges dates (range 3 20_040_101 20_040_101 ∷ [])) (word 3 (bytes "5")) (fails 20 3 3)
    -- an open interval of dates, and the ends of the calendar
    ∷ under (ranges dates (range 3 20_041_231 99_991_231 ∷ [])) (word 3 (bytes "0000-01-01")) (fails 24 3 3)
    ∷ under (ranges dates (range 3 20_041_231 99_991_231 ∷ [])) (word 3 (bytes "2004-12-31")) valid
    ∷ under (ranges dates (range 3 20_041_231 99_991_231 ∷ [])) (word 3 (bytes "2005-01-01")) valid
    ∷ under (ranges dates (range 3 20_041_231 99_991_231 ∷ [])) (word 3 (bytes "9999-12-31")) valid
    ∷ under (ranges dates (range 3 20_041_231 99_991_231 ∷ [])) (word 3 (bytes "9999")) (fails 24 3 3)
    ∷ under (ranges dates (range 3 20_050_101 99_991_231 ∷ [])) (word 3 (bytes "0000-01-01")) (fails 24 3 3)
    ∷ under (ranges dates (range 3 20_050_101 99_991_231 ∷ [])) (word 3 (bytes "2004-12-31")) (fails 24 3 3)
    ∷ under (ranges dates (range 3 20_050_101 99_991_231 ∷ [])) (word 3 (bytes "2005-01-01")) valid
    ∷ under (ranges dates (range 3 20_050_101 99_991_231 ∷ [])) (word 3 (bytes "9999-12-31")) valid
    ∷ under (ranges dates (range 3 20_050_101 99_991_231 ∷ [])) (word 3 (bytes "9999")) (fails 24 3 3)
    ∷ under (ranges dates (range 3 101 20_041_231 ∷ [])) (word 3 (bytes "0000-01-01")) valid
    ∷ under (ranges dates (range 3 101 20_041_231 ∷ [])) (word 3 (bytes "2004-12-31")) valid
    ∷ under (ranges dates (range 3 101 20_041_231 ∷ [])) (word 3 (bytes "2005-01-01")) (fails 24 3 3)
    ∷ under (ranges dates (range 3 101 20_041_231 ∷ [])) (word 3 (bytes "9999-12-31")) (fails 24 3 3)
    ∷ under (ranges dates (range 3 101 20_041_231 ∷ [])) (word 3 (bytes "9999")) (fails 24 3 3)
    ∷ under (ranges dates (range 3 101 20_041_231 ∷ [])) (word 3 (bytes "0000-01-01")) valid
    ∷ under (ranges dates (range 3 101 20_041_231 ∷ [])) (word 3 (bytes "2004-12-31")) valid
    ∷ under (ranges dates (range 3 101 20_041_231 ∷ [])) (word 3 (bytes "2005-01-01")) (fails 24 3 3)
    ∷ under (ranges dates (range 3 101 20_041_231 ∷ [])) (word 3 (bytes "9999-12-31")) (fails 24 3 3)
    ∷ under (ranges dates (range 3 101 20_041_231 ∷ [])) (word 3 (bytes "9999")) (fails 24 3 3)
    -- a list of intervals of dates
    ∷ under (ranges dates (range 3 20_040_101 20_040_131 ∷ range 4 20_050_101 20_050_101 ∷ range 5 20_060_101 99_991_231 ∷ [])) (word 3 (bytes "2003-12-31")) (fails 24 3 3)
    ∷ under (ranges dates (range 3 20_040_101 20_040_131 ∷ range 4 20_050_101 20_050_101 ∷ range 5 20_060_101 99_991_231 ∷ [])) (word 3 (bytes "2004-01-31")) valid
    ∷ under (ranges dates (range 3 20_040_101 20_040_131 ∷ range 4 20_050_101 20_050_101 ∷ range 5 20_060_101 99_991_231 ∷ [])) (word 3 (bytes "2004-02-01")) (fails 24 3 3)
    ∷ under (ranges dates (range 3 20_040_101 20_040_131 ∷ range 4 20_050_101 20_050_101 ∷ range 5 20_060_101 99_991_231 ∷ [])) (word 3 (bytes "2005-01-01")) valid
    ∷ under (ranges dates (range 3 20_040_101 20_040_131 ∷ range 4 20_050_101 20_050_101 ∷ range 5 20_060_101 99_991_231 ∷ [])) (word 3 (bytes "2005-01-02")) (fails 24 3 3)
    ∷ under (ranges dates (range 3 20_040_101 20_040_131 ∷ range 4 20_050_101 20_050_101 ∷ range 5 20_060_101 99_991_231 ∷ [])) (word 3 (bytes "2006-01-01")) valid
    ∷ under (ranges dates (range 3 20_040_101 20_040_131 ∷ range 4 20_050_101 20_050_101 ∷ range 5 20_060_101 99_991_231 ∷ [])) (word 3 (bytes "2005")) (fails 24 3 3)
    ∷ under (ranges dates (range 3 20_040_101 20_040_131 ∷ range 4 20_050_101 20_050_101 ∷ range 5 20_060_101 99_991_231 ∷ [])) (word 3 (bytes "2006-01")) (fails 24 3 3)
    ∷ []

pub none_wrong : wrong right 0 cases ≡ []
unfolding wrong right cases meaning_computes
none_wrong = refl
