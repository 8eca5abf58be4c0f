-- Records of every kind in both orders, and marks. The expectations are the second implementation's.
-- This file is written by `example_tables write` of second/. Assumes nothing.
use mathlib.Core.Path.{◌≡◌, refl}
use mathlib.Core.Bool.{true, false}
use mathlib.Core.List.{List, [], ◌∷◌}
use Rattle.lexis.proofs.Tables.{wrong}
use Rattle.table.proofs.Computes.{table_computes}
use Rattle.table.proofs.Hex.{hex}
use Rattle.table.proofs.Examples.{RecordCase, holds, marked, record_right}

pub cases : List RecordCase
cases =
    -- a record's own mark tells its order
    holds (hex "C0AD0000 00000002 00000001 00000001 00000000 00000000") false 0 0 (2 ∷ 1 ∷ 1 ∷ 0 ∷ 0 ∷ [])
    ∷ holds (hex "ADC00000 02000000 01000000 01000000 00000000 00000000") true 0 0 (2 ∷ 1 ∷ 1 ∷ 0 ∷ 0 ∷ [])
    ∷ holds (hex "C0AD0100 00000000 00000001 00000001 00000003 00000002") false 1 0 (0 ∷ 1 ∷ 1 ∷ 3 ∷ 2 ∷ [])
    ∷ holds (hex "ADC00100 00000000 01000000 01000000 03000000 02000000") true 1 0 (0 ∷ 1 ∷ 1 ∷ 3 ∷ 2 ∷ [])
    ∷ holds (hex "C0AD0201 00000004 0000003F 000007FF 0000012C 00000000") false 2 1 (4 ∷ 63 ∷ 2047 ∷ 300 ∷ 0 ∷ [])
    ∷ holds (hex "ADC00201 04000000 3F000000 FF070000 2C010000 00000000") true 2 1 (4 ∷ 63 ∷ 2047 ∷ 300 ∷ 0 ∷ [])
    ∷ holds (hex "C0AD0303 00000000 00000000 00000000 00000000 00000000") false 3 3 (0 ∷ 0 ∷ 0 ∷ 0 ∷ 0 ∷ [])
    ∷ holds (hex "ADC00303 00000000 00000000 00000000 00000000 00000000") true 3 3 (0 ∷ 0 ∷ 0 ∷ 0 ∷ 0 ∷ [])
    ∷ holds (hex "C0AD0400 FFFFFFFF 7FFFFFFF 00000000 00000000 00000009") false 4 0 (4_294_967_295 ∷ 2_147_483_647 ∷ 0 ∷ 0 ∷ 9 ∷ [])
    ∷ holds (hex "ADC00400 FFFFFFFF FFFFFF7F 00000000 00000000 09000000") true 4 0 (4_294_967_295 ∷ 2_147_483_647 ∷ 0 ∷ 0 ∷ 9 ∷ [])
    ∷ holds (hex "C0AD0500 00003E80 000000FF 00000000 00000000 00011170") false 5 0 (16_000 ∷ 255 ∷ 0 ∷ 0 ∷ 70_000 ∷ [])
    ∷ holds (hex "ADC00500 803E0000 FF000000 00000000 00000000 70110100") true 5 0 (16_000 ∷ 255 ∷ 0 ∷ 0 ∷ 70_000 ∷ [])
    ∷ holds (hex "C0AD0605 00000000 00000000 00000000 00000000 00000000") false 6 5 (0 ∷ 0 ∷ 0 ∷ 0 ∷ 0 ∷ [])
    ∷ holds (hex "ADC00605 00000000 00000000 00000000 00000000 00000000") true 6 5 (0 ∷ 0 ∷ 0 ∷ 0 ∷ 0 ∷ [])
    ∷ holds (hex "C0AD0700 00000065 05F5BEBF 00000000 00000000 00000400") false 7 0 (101 ∷ 99_991_231 ∷ 0 ∷ 0 ∷ 1024 ∷ [])
    ∷ holds (hex "ADC00700 65000000 BFBEF505 00000000 00000000 00040000") true 7 0 (101 ∷ 99_991_231 ∷ 0 ∷ 0 ∷ 1024 ∷ [])
    ∷ holds (hex "C0AD0804 00000000 00000000 00000000 00000000 00000000") false 8 4 (0 ∷ 0 ∷ 0 ∷ 0 ∷ 0 ∷ [])
    ∷ holds (hex "ADC00804 00000000 00000000 00000000 00000000 00000000") true 8 4 (0 ∷ 0 ∷ 0 ∷ 0 ∷ 0 ∷ [])
    ∷ holds (hex "C0AD090C 00000000 00000000 00000000 00000000 00000000") false 9 12 (0 ∷ 0 ∷ 0 ∷ 0 ∷ 0 ∷ [])
    ∷ holds (hex "ADC0090C 00000000 00000000 00000000 00000000 00000000") true 9 12 (0 ∷ 0 ∷ 0 ∷ 0 ∷ 0 ∷ [])
    ∷ holds (hex "C0AD097F 00000000 00000000 00000000 00000000 00000000") false 9 127 (0 ∷ 0 ∷ 0 ∷ 0 ∷ 0 ∷ [])
    ∷ holds (hex "ADC0097F 00000000 00000000 00000000 00000000 00000000") true 9 127 (0 ∷ 0 ∷ 0 ∷ 0 ∷ 0 ∷ [])
    ∷ holds (hex "C0ADFFFE 01020304 05060708 090A0B0C 0D0E0F10 11121314") false 255 254 (16_909_060 ∷ 84_281_096 ∷ 151_653_132 ∷ 219_025_168 ∷ 286_397_204 ∷ [])
    ∷ holds (hex "ADC0FFFE 04030201 08070605 0C0B0A09 100F0E0D 14131211") true 255 254 (16_909_060 ∷ 84_281_096 ∷ 151_653_132 ∷ 219_025_168 ∷ 286_397_204 ∷ [])
    -- the two marks and no other
    ∷ marked (hex "C0AD0100 00000000 00000001 00000000 00000000 00000000") true
    ∷ marked (hex "ADC00100 00000000 01000000 00000000 00000000 00000000") true
    ∷ marked (hex "C0C00100 00000000 00000001 00000000 00000000 00000000") false
    ∷ marked (hex "ADAD0100 00000000 00000001 00000000 00000000 00000000") false
    ∷ marked (hex "00000100 00000000 00000001 00000000 00000000 00000000") false
    ∷ marked (hex "C0AE0100 00000000 00000001 00000000 00000000 00000000") false
    ∷ marked (hex "C1AD0100 00000000 00000001 00000000 00000000 00000000") false
    ∷ marked (hex "ADC10100 00000000 00000001 00000000 00000000 00000000") false
    ∷ marked (hex "ACC00100 00000000 00000001 00000000 00000000 00000000") false
    ∷ marked (hex "FFFF0100 00000000 00000001 00000000 00000000 00000000") false
    ∷ []

pub none_wrong : wrong record_right 0 cases ≡ []
unfolding wrong record_right cases table_computes
none_wrong = refl
