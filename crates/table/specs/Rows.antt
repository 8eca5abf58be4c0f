-- What each kind's flag and fields are: document 01, 'Table', the table of kinds, and "A field not named is 0", "Lengths: type and name 1..63, code 0..31, string
-- 0..255", "Every link is .. of the kind it needs (`e` of items: same kind)"; document 02, 1: "New kind 9; .. the flag is 1 to 127". Assumes nothing.
use Rattle.std.specs.Prelude.{Bool, true, false, cond, List, [], ◌∷◌, ℕ, suc, get_or}
use Rattle.refusals.specs.Limits.{name_limit, code_limit, string_limit}
use Rattle.meaning.specs.Constraints.{SingleSort, booleans, date_pattern, time_pattern, duration_pattern, RangeSort, integers, dates}
use Rattle.meaning.specs.Sorts.{single_row, range_row, text_kind}
use Rattle.table.specs.Records.{Image, field_count, padded}

-- what a record is
pub data Shape : Type 0 where
  table_header object attribute text : Shape
  single : SingleSort → Shape
  range : RangeSort → Shape

-- the kinds by their numbers; no record but number 0 is a header
abbrev pub shapes : List Shape
shapes =
    table_header ∷ object ∷ attribute ∷ single booleans ∷ range integers ∷ text ∷ single date_pattern ∷ range dates
    ∷ single time_pattern ∷ single duration_pattern ∷ []

unfoldable pub shape_of : ℕ → Shape
shape_of kind = get_or shapes kind table_header

-- the kinds of objects and attributes; those of leaves belong to their sorts
abbrev pub object_kind : ℕ
object_kind = 1

abbrev pub attribute_kind : ℕ
attribute_kind = 2

abbrev pub kind_of : Shape → ℕ
kind_of table_header = 0
kind_of object = object_kind
kind_of attribute = attribute_kind
kind_of text = text_kind
kind_of (single sort) = (single_row sort).kind
kind_of (range sort) = (range_row sort).kind

-- a kind that a record behind the header may have
abbrev pub is_known : Shape → Bool
is_known table_header = false
is_known object = true
is_known attribute = true
is_known text = true
is_known (single sort) = true
is_known (range sort) = true

-- an item of a leaf
abbrev pub is_item : Shape → Bool
is_item table_header = false
is_item object = false
is_item attribute = false
is_item text = true
is_item (single sort) = true
is_item (range sort) = true

-- an item that leads to the next of its list
abbrev pub is_listed : Shape → Bool
is_listed table_header = false
is_listed object = false
is_listed attribute = false
is_listed text = true
is_listed (single sort) = false
is_listed (range sort) = true

-- the kinds of these shapes, counted from n, that pass a test
abbrev pub kinds_from : ℕ → (Shape → Bool) → List Shape → List ℕ
kinds_from n test [] = []
kinds_from n test (x ∷ xs) = let more = kinds_from (suc n) test xs in cond (test x) (n ∷ more) more

-- the kinds that a leaf's first item may have
abbrev pub items : List ℕ
items = kinds_from 0 is_item shapes

-- what a field is
pub data Use : Type 0 where
  -- not named
  unnamed : Use
  -- a place in the pool, of a length from least to most, which the next field has
  place : (least most : ℕ) → Use
  length : Use
  -- 0, or the number of a record of one of these kinds
  link : (kinds : List ℕ) → Use
  -- the low end of a closed pair, whose high end the next field has
  low : RangeSort → Use
  high : Use

-- a kind's flags, from least to most; what its fields are, which may hang on them; and a rule across the fields of the record with a number
pub record Row : Type 0 where
  pub least : ℕ
  pub most : ℕ
  pub uses : List ℕ → List Use
  pub across : Image → ℕ → List ℕ → Bool

-- a row whose fields are these, the others not named, and with no rule across them
abbrev pub row : ℕ → ℕ → List Use → Row
row least most us =
    record { least = least; most = most; uses = λ xs. padded unnamed field_count us; across = λ m n xs. true }

-- what the fields are where none is named
abbrev pub none_named : List Use
none_named = padded unnamed field_count []

abbrev pub row_for : Shape → Row
row_for table_header = row 0 0 []
row_for object = row 0 0 (place 1 name_limit ∷ length ∷ place 0 code_limit ∷ length ∷ link (attribute_kind ∷ []) ∷ [])
row_for attribute = row 0 2 (place 1 name_limit ∷ length ∷ link (object_kind ∷ items) ∷ link (attribute_kind ∷ []) ∷ [])
row_for text = row 0 0 (place 0 string_limit ∷ length ∷ unnamed ∷ unnamed ∷ link (text_kind ∷ []) ∷ [])
row_for (single sort) = row 1 (single_row sort).greatest []
row_for (range sort) = row 0 0 (low sort ∷ high ∷ unnamed ∷ unnamed ∷ link ((range_row sort).kind ∷ []) ∷ [])

abbrev pub row_of : ℕ → Row
row_of kind = row_for (shape_of kind)
