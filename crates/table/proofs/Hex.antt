-- Bytes spelled in hexadecimal digits, as document 01 spells a table's, and the bytes that an output holds before a job. Assumes nothing.
use mathlib.Core.Bool.{cond}
use Rattle.std.specs.Prelude.{Option, None, Some}
use mathlib.Core.List.{List}
use Prim.Native.Nat.{ℕ, zero, suc, ◌+◌, ◌*◌, ◌-◌, ◌%◌}
use Prim.Native.Char.{Char, code}
use Prim.Native.String.{String, [], ◌∷◌}
use lib.Dec.{eqb, ltb}

-- `0` to `9` and `A` to `F`
abbrev pub digit_of : Char → ℕ
digit_of c = cond (ltb (code c) 58) (code c - 48) (code c - 55)

-- the digit that waits for its second behind a character; a blank may stand between two bytes
abbrev pub waiting : Option ℕ → Char → Option ℕ
waiting None c = cond (eqb (code c) 32) None (Some (digit_of c))
waiting (Some d) c = None

abbrev pub emit : Option ℕ → Char → List ℕ → List ℕ
emit None c more = more
emit (Some d) c more = List.◌∷◌ (d * 16 + digit_of c) more

abbrev pub hex_from : Option ℕ → String → List ℕ
hex_from d [] = List.[]
hex_from d (c ∷ s) = emit d c (hex_from (waiting d c) s)

abbrev pub hex : String → List ℕ
hex s = hex_from None s

-- so many bytes of an output before a job: byte i is fill + 151 × i
abbrev pub filling : ℕ → ℕ → List ℕ
filling fill zero = List.[]
filling fill (suc n) = List.◌∷◌ (fill % 256) (filling (fill + 151) n)
