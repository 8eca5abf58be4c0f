-- Numbers of four bytes in both orders. The expectations are the second implementation's.
-- This file is written by `example_tables write` of second/. Assumes nothing.
use mathlib.Core.Path.{◌≡◌, refl}
use mathlib.Core.Bool.{true, false}
use mathlib.Core.List.{List, [], ◌∷◌}
use Rattle.lexis.proofs.Tables.{wrong}
use Rattle.table.proofs.Computes.{table_computes}
use Rattle.table.proofs.Hex.{hex}
use Rattle.table.proofs.Examples.{NumberCase, spelled, number_right}

pub cases : List NumberCase
cases =
    -- the lowest byte last, and first
    spelled false 0 (hex "00000000")
    ∷ spelled true 0 (hex "00000000")
    ∷ spelled false 1 (hex "00000001")
    ∷ spelled true 1 (hex "01000000")
    ∷ spelled false 24 (hex "00000018")
    ∷ spelled true 24 (hex "18000000")
    ∷ spelled false 255 (hex "000000FF")
    ∷ spelled true 255 (hex "FF000000")
    ∷ spelled false 256 (hex "00000100")
    ∷ spelled true 256 (hex "00010000")
    ∷ spelled false 257 (hex "00000101")
    ∷ spelled true 257 (hex "01010000")
    ∷ spelled false 65_535 (hex "0000FFFF")
    ∷ spelled true 65_535 (hex "FFFF0000")
    ∷ spelled false 65_536 (hex "00010000")
    ∷ spelled true 65_536 (hex "00000100")
    ∷ spelled false 16_777_216 (hex "01000000")
    ∷ spelled true 16_777_216 (hex "00000001")
    ∷ spelled false 16_909_060 (hex "01020304")
    ∷ spelled true 16_909_060 (hex "04030201")
    ∷ spelled false 2_147_483_648 (hex "80000000")
    ∷ spelled true 2_147_483_648 (hex "00000080")
    ∷ spelled false 2_147_483_647 (hex "7FFFFFFF")
    ∷ spelled true 2_147_483_647 (hex "FFFFFF7F")
    ∷ spelled false 20_040_229 (hex "0131CA25")
    ∷ spelled true 20_040_229 (hex "25CA3101")
    ∷ spelled false 3_232_563_200 (hex "C0AD0000")
    ∷ spelled true 3_232_563_200 (hex "0000ADC0")
    ∷ spelled false 4_294_967_295 (hex "FFFFFFFF")
    ∷ spelled true 4_294_967_295 (hex "FFFFFFFF")
    ∷ []

pub none_wrong : wrong number_right 0 cases ≡ []
unfolding wrong number_right cases table_computes
none_wrong = refl
