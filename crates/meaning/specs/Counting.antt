-- Records and the pool counted. Document 01, 'Table': "Compiling numbers records and fills the pool in text order (type, then code; no quotes or brackets)".
-- Assumes nothing.
use Rattle.std.specs.Prelude.{List, [], ◌∷◌, ◌++◌, ℕ, zero, suc, ◌+◌, length}
use Rattle.meaning.specs.Constraints.{Range, Text, Leaf, single, ranges, texts, Object, object, Attributes, no_more, attribute, Value, any, nested, leaf}

-- how many records a leaf has: one for each item
abbrev pub leaf_records : Leaf → ℕ
leaf_records (single sort n flag) = 1
leaf_records (ranges sort l) = length l
leaf_records (texts l) = length l

unfoldable mutual
  pub object_records : Object → ℕ
  object_records (object h xs) = suc (attribute_records xs)

  pub attribute_records : Attributes → ℕ
  attribute_records no_more = 0
  attribute_records (attribute h v more) = suc (value_records v + attribute_records more)

  pub value_records : Value → ℕ
  value_records any = 0
  value_records (nested o) = object_records o
  value_records (leaf l) = leaf_records l

-- the bytes that go to the pool, in text order
abbrev pub text_pool : List Text → List ℕ
text_pool [] = []
text_pool (x ∷ xs) = x.text ++ text_pool xs

abbrev pub leaf_pool : Leaf → List ℕ
leaf_pool (single sort n flag) = []
leaf_pool (ranges sort l) = []
leaf_pool (texts l) = text_pool l

unfoldable mutual
  pub object_pool : Object → List ℕ
  object_pool (object h xs) = h.type ++ (h.code ++ attribute_pool xs)

  pub attribute_pool : Attributes → List ℕ
  attribute_pool no_more = []
  attribute_pool (attribute h v more) = h.name ++ (value_pool v ++ attribute_pool more)

  pub value_pool : Value → List ℕ
  value_pool any = []
  value_pool (nested o) = object_pool o
  value_pool (leaf l) = leaf_pool l

-- the numbers of the records, in pre_order: an object before its attributes, an attribute before its value, an item before the next
abbrev pub range_numbers : List Range → List ℕ
range_numbers [] = []
range_numbers (x ∷ xs) = x.number ∷ range_numbers xs

abbrev pub text_numbers : List Text → List ℕ
text_numbers [] = []
text_numbers (x ∷ xs) = x.number ∷ text_numbers xs

abbrev pub leaf_numbers : Leaf → List ℕ
leaf_numbers (single sort n flag) = n ∷ []
leaf_numbers (ranges sort l) = range_numbers l
leaf_numbers (texts l) = text_numbers l

unfoldable mutual
  pub object_numbers : Object → List ℕ
  object_numbers (object h xs) = h.number ∷ attribute_numbers xs

  pub attribute_numbers : Attributes → List ℕ
  attribute_numbers no_more = []
  attribute_numbers (attribute h v more) = h.number ∷ (value_numbers v ++ attribute_numbers more)

  pub value_numbers : Value → List ℕ
  value_numbers any = []
  value_numbers (nested o) = object_numbers o
  value_numbers (leaf l) = leaf_numbers l

-- so many numbers, one after the other, from n on
abbrev pub up_from : ℕ → ℕ → List ℕ
up_from n zero = []
up_from n (suc k) = n ∷ up_from (n + 1) k
