-- Byte order. Document 01, 'Table': "a two-byte mark (C0 AD: numbers big-endian; AD C0: little-endian, per record)"; 'What a contract here has to settle':
-- "Byte order is one parameter". Assumes nothing.
use Rattle.std.specs.Prelude.{Bool, true, false, List, [], ◌∷◌, reverse, ℕ, zero, suc, ◌+◌, ◌*◌, ◌/◌, ◌%◌}

-- a number's bytes, so many, the lowest first; and the number that bytes so written are
abbrev pub lowest_first : ℕ → ℕ → List ℕ
lowest_first zero n = []
lowest_first (suc width) n = n % 256 ∷ lowest_first width (n / 256)

abbrev pub bytes_value : List ℕ → ℕ
bytes_value [] = 0
bytes_value (x ∷ xs) = x + 256 * bytes_value xs

-- the order is the one parameter: whether the lowest byte comes first
abbrev pub in_order : Bool → List ℕ → List ℕ
in_order true xs = xs
in_order false xs = reverse xs

abbrev pub put : Bool → ℕ → ℕ → List ℕ
put little width n = in_order little (lowest_first width n)

abbrev pub get : Bool → List ℕ → ℕ
get little xs = bytes_value (in_order little xs)
