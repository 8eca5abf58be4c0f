-- The tree that a table says from a record on, computed; Says.antt has the rules. Document 01, 'Table': the table of kinds. A record's tree is made of the trees of the records above it, to which its links
-- lead: so the trees are made from the last record down. Assumes nothing.
use Rattle.std.specs.Prelude.{Option, None, Some}
use Rattle.std.specs.Prelude.{List, [], ◌∷◌, ℕ, suc, ◌-◌, get_or, take, drop}
use Rattle.meaning.specs.Constraints.{Range, Text, ObjectHead, AttributeHead, Leaf, ranges, texts, Object, Attributes, no_more, Value, any, nested, leaf}
use Rattle.meaning.specs.Constraints
use Rattle.meaning.specs.Sorts.{range_row}
use Rattle.table.specs.Records.{Record, Image}
use Rattle.table.specs.Rows.{Shape, table_header, object, attribute, text, single, range, shape_of, Use, unnamed, place, length, link, low, high}
use Rattle.table.specs.Check.{uses_of}

-- a field as it is meant: a number, the bytes of a name, or a link as a step up from its own record, 0 where there is none
pub data CellPart : Type 0 where
  number : ℕ → CellPart
  name : List ℕ → CellPart
  step : ℕ → CellPart

-- the field x, before the field next, of the record with number n
abbrev pub part_of : List ℕ → ℕ → Use → ℕ → ℕ → CellPart
part_of pool n unnamed x next = number x
part_of pool n (place least most) x next = name (take next (drop x pool))
part_of pool n length x next = number x
part_of pool n (link ks) x next = step (x - n)
part_of pool n (low sort) x next = number x
part_of pool n high x next = number x

abbrev pub parts_of : List ℕ → ℕ → List Use → List ℕ → List CellPart
parts_of pool n [] xs = []
parts_of pool n (u ∷ us) [] = []
parts_of pool n (u ∷ us) (x ∷ xs) = part_of pool n u x (get_or xs 0 0) ∷ parts_of pool n us xs

-- a record with its fields as they are meant
pub record Cell : Type 0 where
  pub kind : ℕ
  pub flag : ℕ
  pub parts : List CellPart

abbrev pub cell : List ℕ → ℕ → Record → Cell
cell pool n r = record { kind = r.kind; flag = r.flag; parts = parts_of pool n (uses_of r) r.fields }

abbrev pub cells : List ℕ → ℕ → List Record → List Cell
cells pool n [] = []
cells pool n (r ∷ rs) = cell pool n r ∷ cells pool (suc n) rs

unfoldable pub cells_of : Image → List Cell
cells_of m = cells m.pool 1 m.records

-- what stands at a place among the parts
abbrev pub part_at : Cell → ℕ → CellPart
part_at x i = get_or x.parts i (number 0)

abbrev pub number_in : CellPart → ℕ
number_in (number n) = n
number_in (name w) = 0
number_in (step k) = 0

abbrev pub name_in : CellPart → List ℕ
name_in (number n) = []
name_in (name w) = w
name_in (step k) = []

abbrev pub step_in : CellPart → ℕ
step_in (number n) = 0
step_in (name w) = 0
step_in (step k) = k

-- what a record stands for: an object; an attribute with those behind it; an item with those behind it; nothing
pub data Tree : Type 0 where
  nothing : Tree
  of_object : Object → Tree
  of_attributes : Attributes → Tree
  of_leaf : Leaf → Tree

abbrev pub attributes_in : Tree → Attributes
attributes_in nothing = no_more
attributes_in (of_object o) = no_more
attributes_in (of_attributes xs) = xs
attributes_in (of_leaf l) = no_more

abbrev pub value_in : Tree → Value
value_in nothing = any
value_in (of_object o) = nested o
value_in (of_attributes xs) = any
value_in (of_leaf l) = leaf l

-- the items of a leaf
abbrev pub ranges_of : Leaf → List Range
ranges_of (Constraints.single sort n flag) = []
ranges_of (ranges sort l) = l
ranges_of (texts l) = []

abbrev pub texts_of : Leaf → List Text
texts_of (Constraints.single sort n flag) = []
texts_of (ranges sort l) = []
texts_of (texts l) = l

-- the items that a link leads to
abbrev pub items_in : {A : Type 0} → (Leaf → List A) → Tree → List A
items_in items nothing = []
items_in items (of_object o) = []
items_in items (of_attributes xs) = []
items_in items (of_leaf l) = items l

-- what a step up leads to, of the trees of the records above
abbrev pub reach : List Tree → ℕ → Tree
reach above k = get_or (nothing ∷ above) k nothing

-- the tree of a record by what it is and its number, given the trees of the records above it
abbrev pub tree_by : Shape → ℕ → Cell → List Tree → Tree
tree_by table_header n x above = nothing
tree_by object n x above =
    let head : ObjectHead = record { number = n; type = name_in (part_at x 0); code = name_in (part_at x 2) } in
    of_object (Constraints.object head (attributes_in (reach above (step_in (part_at x 4)))))
tree_by attribute n x above =
    let head : AttributeHead = record { number = n; existence = x.flag; name = name_in (part_at x 0) } in
    of_attributes
    (Constraints.attribute head (value_in (reach above (step_in (part_at x 2))))
    (attributes_in (reach above (step_in (part_at x 3)))))
tree_by text n x above =
    of_leaf (texts
    (record { number = n; text = name_in (part_at x 0) } ∷ items_in texts_of (reach above (step_in (part_at x 4)))))
tree_by (single sort) n x above = of_leaf (Constraints.single sort n x.flag)
tree_by (range sort) n x above =
    let end : ℕ → ℕ = λ i. (range_row sort).end (number_in (part_at x i)) in
    of_leaf (ranges sort
    (record { number = n; low = end 0; high = end 1 } ∷ items_in ranges_of (reach above (step_in (part_at x 4)))))

abbrev pub tree_of : ℕ → Cell → List Tree → Tree
tree_of n x above = tree_by (shape_of x.kind) n x above

abbrev pub trees : ℕ → List Cell → List Tree
trees n [] = []
trees n (x ∷ xs) = let above = trees (suc n) xs in tree_of n x above ∷ above

unfoldable pub trees_of : Image → List Tree
trees_of m = trees 1 (cells_of m)

-- the tree of a record
unfoldable pub tree_at : Image → ℕ → Tree
tree_at m n = reach (trees_of m) n

-- an object of the table, by its number
abbrev pub object_in : Tree → Option Object
object_in nothing = None
object_in (of_object o) = Some o
object_in (of_attributes xs) = None
object_in (of_leaf l) = None

abbrev pub object_at : Image → ℕ → Option Object
object_at m n = object_in (tree_at m n)
