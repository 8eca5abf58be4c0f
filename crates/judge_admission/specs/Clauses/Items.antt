-- Records and items as a walker of their bytes meets them: the record with a number, the items from link to link, and the leaf that they make; and where they must lie. Assumes
-- nothing.
use Rattle.std.specs.Prelude.{◌≡◌, true, cond, List, [], ◌∷◌, ◌++◌, map, ℕ, zero, suc, ◌+◌, ◌*◌, ◌≤◌, ◌<◌, eqb, length, take, drop}
use Rattle.std.specs.Prelude.{Option, None, Some}
use Rattle.meaning.specs.Constraints.{RangeSort, integers, dates, Range, Text, Leaf, ranges, texts}
use Rattle.meaning.specs.Constraints
use Rattle.meaning.specs.Sorts.{range_row, text_kind}
use Rattle.table.specs.Records.{Record, Image, record_size, field, header, image_of, record_in}
use Rattle.table.specs.Rows.{Shape, table_header, object, attribute, text, single, range, shape_of, is_listed}
use Rattle.table.specs.Check.{table_fault}

-- the bytes of the pool that a record's first two fields name
abbrev pub name_of : List ℕ → Record → List ℕ
name_of pool r = take (field r 1) (drop (field r 0) pool)

-- the numbers of the items from n on, from link to link, up to a link that is 0; `fuel` bounds how many
unfoldable pub record_items : List ℕ → ℕ → ℕ → List ℕ
record_items records zero n = []
record_items records (suc fuel) n =
    let more = record_items records fuel (field (record_in records n) 4) in cond (eqb n 0) [] (n ∷ more)

abbrev pub record_range : RangeSort → ℕ → Record → Range
record_range sort n r =
    record { number = n; low = (range_row sort).end (field r 0); high = (range_row sort).end (field r 1) }

abbrev pub range_in : RangeSort → List ℕ → ℕ → Range
range_in sort records n = record_range sort n (record_in records n)

abbrev pub text_in : List ℕ → List ℕ → ℕ → Text
text_in records pool n = record { number = n; text = name_of pool (record_in records n) }

-- the items of a list of closed pairs, and of strings
abbrev pub ranges_from : RangeSort → List ℕ → ℕ → List Range
ranges_from sort records n = map (range_in sort records) (record_items records (length records) n)

abbrev pub texts_from : List ℕ → List ℕ → ℕ → List Text
texts_from records pool n = map (text_in records pool) (record_items records (length records) n)

-- the leaf of a shape whose first item has a number
abbrev pub leaf_of_shape : List ℕ → List ℕ → ℕ → Shape → Option Leaf
leaf_of_shape records pool n table_header = None
leaf_of_shape records pool n object = None
leaf_of_shape records pool n attribute = None
leaf_of_shape records pool n text = Some (texts (texts_from records pool n))
leaf_of_shape records pool n (single sort) = Some (Constraints.single sort n (record_in records n).flag)
leaf_of_shape records pool n (range sort) = Some (ranges sort (ranges_from sort records n))

abbrev pub record_leaf : List ℕ → List ℕ → ℕ → Option Leaf
record_leaf records pool n = leaf_of_shape records pool n (shape_of (record_in records n).kind)

-- the record with a number lies in the bytes
abbrev pub Lies : List ℕ → ℕ → Type 0
Lies records n = record_size * n + record_size ≤ length records

-- it lies there and is of a kind
pub record OfKind (records : List ℕ) (kind n : ℕ) : Type 0 where
  pub lies : Lies records n
  pub is : (record_in records n).kind ≡ kind

-- items of a kind from n on, if there are any: each leads to none or up to another
pub record Chained (records : List ℕ) (kind n : ℕ) : Type 0 where
  pub here : 0 < n → OfKind records kind n
  pub up : (i : ℕ) → n ≤ i → OfKind records kind i → 0 < field (record_in records i) 4
      → (i < field (record_in records i) 4) × OfKind records kind (field (record_in records i) 4)

-- the texts of strings from n on lie in the pool
pub record Spelled (records pool : List ℕ) (n : ℕ) : Type 0 where
  pub inside : (i : ℕ) → n ≤ i → OfKind records text_kind i
      → field (record_in records i) 0 + field (record_in records i) 1 ≤ length pool

-- a leaf's items from its first on, in the bytes of records and a pool
pub record ItemsGood (records pool : List ℕ) (first : ℕ) : Type 0 where
  pub there : Lies records first
  pub chained : (kind : ℕ) → is_listed (shape_of kind) ≡ true → (record_in records first).kind ≡ kind
      → Chained records kind first
  pub spelled : Spelled records pool first

-- the table that records and a pool make up
abbrev pub image_from : List ℕ → List ℕ → Image
image_from records pool = image_of (records ++ pool)

-- they make up one that passes the check
pub record TableGood (records pool : List ℕ) : Type 0 where
  pub checked : table_fault (records ++ pool) ≡ None
  pub whole : length records ≡ record_size * field (header (records ++ pool)) 0

-- the leaf of an item of a list alone; none of the other shapes
abbrev pub item_of_shape : List ℕ → Record → Shape → Option Leaf
item_of_shape pool r table_header = None
item_of_shape pool r object = None
item_of_shape pool r attribute = None
item_of_shape pool r text = Some (texts (record { number = 0; text = name_of pool r } ∷ []))
item_of_shape pool r (single sort) = None
item_of_shape pool r (range sort) = Some (ranges sort (record_range sort 0 r ∷ []))

abbrev pub item_of : List ℕ → Record → Option Leaf
item_of pool r = item_of_shape pool r (shape_of r.kind)

-- the text of a string lies in the pool
pub record NamedRecord (pool : List ℕ) (r : Record) : Type 0 where
  pub inside : r.kind ≡ text_kind → field r 0 + field r 1 ≤ length pool
