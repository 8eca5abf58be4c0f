-- A text is the list of its bytes. Where a rule or an example spells one out, it is quoted: each character stands for the byte of its number.
-- Assumes nothing.
use Rattle.std.specs.Prelude.{List, ℕ}
use Prim.Native.Char.{Char, code}
use Prim.Native.String.{String, [], ◌∷◌}

abbrev pub byte : Char → ℕ
byte c = code c

abbrev pub bytes : String → List ℕ
bytes [] = List.[]
bytes (c ∷ s) = List.◌∷◌ (byte c) (bytes s)
