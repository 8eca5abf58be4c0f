-- Runs of bytes, and bytes compared with what a rule spells. Assumes nothing.
use Rattle.std.specs.Prelude.{◌≡◌, Bool, true, false, cond, ◌&&◌, ◌||◌, List, [], ◌∷◌, ℕ, ◌+◌, ◌-◌, eqb, length, get_or, take, drop}
use Rattle.lexis.specs.Text.{byte}
use Rattle.lexis.specs.Bytes.{is, digit}

-- the first place from `at` on, of the bytes from there, whose byte does not pass the test
unfoldable pub past : (ℕ → Bool) → ℕ → List ℕ → ℕ
past test at [] = at
past test at (b ∷ bs) = let more = past test (at + 1) bs in cond (test b) more at

-- the byte at a place; 0, which no rule names, behind the text's end
abbrev pub byte_at : List ℕ → ℕ → ℕ
byte_at s at = get_or s at 0

-- the bytes from one place up to another
abbrev pub part : List ℕ → ℕ → ℕ → List ℕ
part s start end = take (end - start) (drop start s)

-- these bytes stand at a place
abbrev pub StandsAt : List ℕ → ℕ → List ℕ → Type 0
StandsAt s at w = take (length w) (drop at s) ≡ w

-- two runs of bytes are the same
unfoldable pub same : List ℕ → List ℕ → Bool
same [] [] = true
same [] (y ∷ ys) = false
same (x ∷ xs) [] = false
same (x ∷ xs) (y ∷ ys) = eqb x y && same xs ys

-- the bytes begin as the word is spelled
unfoldable pub starts_with : List ℕ → List ℕ → Bool
starts_with [] bs = true
starts_with (w ∷ ws) [] = false
starts_with (w ∷ ws) (b ∷ bs) = eqb w b && starts_with ws bs

-- a shape is spelled as the bytes it asks for, with `d` where any digit may stand
abbrev pub any_digit : ℕ
any_digit = byte "d"

abbrev pub allows : ℕ → ℕ → Bool
allows w b = cond (eqb w any_digit) (is digit b) (eqb w b)

-- the bytes begin in that shape
unfoldable pub shaped : List ℕ → List ℕ → Bool
shaped [] bs = true
shaped (w ∷ ws) [] = false
shaped (w ∷ ws) (b ∷ bs) = allows w b && shaped ws bs

-- all bytes pass the test
unfoldable pub all : (ℕ → Bool) → List ℕ → Bool
all test [] = true
all test (b ∷ bs) = test b && all test bs

-- a run of bytes is one of a list
unfoldable pub listed : List ℕ → List (List ℕ) → Bool
listed w [] = false
listed w (x ∷ xs) = same w x || listed w xs
