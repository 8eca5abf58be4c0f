-- A tree as a table. Document 01, 'Table': "Compiling numbers records and fills the pool in text order (type, then code; no quotes or brackets); nothing is shared; root 1";
-- the table of kinds. Assumes nothing.
use Rattle.std.specs.Prelude.{List, [], ◌∷◌, ◌++◌, ℕ, ◌+◌, length}
use Rattle.meaning.specs.Constraints.{RangeSort, Range, Text, Leaf, single, ranges, texts, Object, object, Attributes, no_more, attribute, Value, any, nested, leaf}
use Rattle.meaning.specs.Sorts.{single_row, range_row, text_kind}
use Rattle.meaning.specs.Counting.{object_pool, value_pool}
use Rattle.meaning.specs.Admission.{leaf_number, first_range, first_text}
use Rattle.meaning.specs.Judging.{object_number}
use Rattle.table.specs.Records.{Record, Image, make}
use Rattle.table.specs.Rows.{object_kind, attribute_kind}

-- a name's place in the pool: 0 where it has no byte
abbrev pub place_for : List ℕ → ℕ → ℕ
place_for [] pool = 0
place_for (b ∷ bs) pool = pool

-- links: the number of what they lead to, 0 where there is nothing
abbrev pub attributes_link : Attributes → ℕ
attributes_link no_more = 0
attributes_link (attribute h v more) = h.number

abbrev pub value_link : Value → ℕ
value_link any = 0
value_link (nested o) = object_number o
value_link (leaf l) = leaf_number l

-- an item is linked to the next by its last field
abbrev pub range_records : RangeSort → List Range → List Record
range_records sort [] = []
range_records sort (x ∷ xs) =
    let w = range_row sort in
    make w.kind 0 (w.end x.low ∷ w.end x.high ∷ 0 ∷ 0 ∷ first_range xs ∷ []) ∷ range_records sort xs

-- strings, with so many bytes in the pool before them
abbrev pub string_records : ℕ → List Text → List Record
string_records pool [] = []
string_records pool (x ∷ xs) =
    make text_kind 0 (place_for x.text pool ∷ length x.text ∷ 0 ∷ 0 ∷ first_text xs ∷ [])
    ∷ string_records (pool + length x.text) xs

abbrev pub records_of_leaf : ℕ → Leaf → List Record
records_of_leaf pool (single sort n flag) = make (single_row sort).kind flag [] ∷ []
records_of_leaf pool (ranges sort l) = range_records sort l
records_of_leaf pool (texts l) = string_records pool l

-- the records of a tree, with so many bytes in the pool before it
unfoldable mutual
  pub object_table : Object → ℕ → List Record
  object_table (object h xs) pool =
      let code = pool + length h.type in
      make object_kind 0
      (place_for h.type pool ∷ length h.type ∷ place_for h.code code ∷ length h.code ∷ attributes_link xs ∷ [])
      ∷ attributes_table xs (code + length h.code)

  pub attributes_table : Attributes → ℕ → List Record
  attributes_table no_more pool = []
  attributes_table (attribute h v more) pool =
      let behind = pool + length h.name in
      make attribute_kind h.existence
      (place_for h.name pool ∷ length h.name ∷ value_link v ∷ attributes_link more ∷ [])
      ∷ (value_table v behind ++ attributes_table more (behind + length (value_pool v)))

  pub value_table : Value → ℕ → List Record
  value_table any pool = []
  value_table (nested o) pool = object_table o pool
  value_table (leaf l) pool = records_of_leaf pool l

unfoldable pub image_of_tree : Object → Image
image_of_tree o = record { root = 1; pool = object_pool o; records = object_table o 0 }
