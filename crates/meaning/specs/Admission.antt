-- What a leaf admits. Document 01, 'Meaning': "Lists admit a value in some item"; 'Numbers of refusal', 20: "leaf unreadable as the kind asked". Assumes nothing.
use Rattle.std.specs.Prelude.{Bool, false, ◌||◌, List, [], ◌∷◌, ℕ}
use Rattle.lexis.specs.Runs.{same}
use Rattle.meaning.specs.Constraints.{Range, Text, Leaf, single, ranges, texts}
use Rattle.meaning.specs.Findings.{Finding, unsuited, found}
use Rattle.meaning.specs.Sorts.{single_row, range_row}

unfoldable pub is_some : List ℕ → List Text → Bool
is_some w [] = false
is_some w (x ∷ xs) = same w x.text || is_some w xs

-- a word under a leaf
unfoldable pub word_under : Leaf → List ℕ → Finding
word_under (single sort n flag) w = (single_row sort).under flag w
word_under (ranges sort l) w = (range_row sort).under l w
word_under (texts l) w = unsuited

-- a string under a leaf
unfoldable pub string_under : Leaf → List ℕ → Finding
string_under (single sort n flag) w = unsuited
string_under (ranges sort l) w = unsuited
string_under (texts l) w = found (is_some w l)

-- the record of a leaf's first item
abbrev pub first_range : List Range → ℕ
first_range [] = 0
first_range (x ∷ xs) = x.number

abbrev pub first_text : List Text → ℕ
first_text [] = 0
first_text (x ∷ xs) = x.number

abbrev pub leaf_number : Leaf → ℕ
leaf_number (single sort n flag) = n
leaf_number (ranges sort l) = first_range l
leaf_number (texts l) = first_text l
