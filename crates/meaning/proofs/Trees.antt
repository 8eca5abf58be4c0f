-- Trees as lists of numbers, so that what was read can be compared with what is expected: each part stands behind its length or its sort, so that two
-- trees with the same list are the same. Assumes nothing.
use Rattle.std.specs.Prelude.{Option, None, Some}
use mathlib.Core.List.{List, [], ◌∷◌, ◌++◌}
use Prim.Native.Nat.{ℕ}
use lib.ListN.{length}
use Rattle.meaning.specs.Constraints.{Range, Text, Leaf, single, ranges, texts, Object, object, Attributes, no_more, attribute, Value, any, nested, leaf}
use Rattle.meaning.specs.Sorts.{single_row, range_row, text_kind}
use Rattle.meaning.specs.Data.{Datum, datum, Members, member, Content, string, word, block}
use Rattle.meaning.specs.Data

-- an item of integers or of days, and one of strings, as the tables spell them
abbrev pub range : ℕ → ℕ → ℕ → Range
range number low high = record { number = number; low = low; high = high }

abbrev pub item : ℕ → List ℕ → Text
item number text = record { number = number; text = text }

-- objects and attributes, their heads written out
abbrev pub object_with : (number : ℕ) (type code : List ℕ) → Attributes → Object
object_with number type code xs = object (record { number = number; type = type; code = code }) xs

abbrev pub attribute_with : (number existence : ℕ) (name : List ℕ) → Value → Attributes → Attributes
attribute_with number existence name v more = attribute (record { number = number; existence = existence; name = name }) v more

abbrev pub sized : List ℕ → List ℕ
sized w = length w ∷ w

abbrev pub range_list : List Range → List ℕ
range_list [] = []
range_list (x ∷ xs) = x.number ∷ x.low ∷ x.high ∷ range_list xs

abbrev pub text_list : List Text → List ℕ
text_list [] = []
text_list (x ∷ xs) = x.number ∷ (sized x.text ++ text_list xs)

abbrev pub leaf_list : Leaf → List ℕ
leaf_list (single sort n flag) = (single_row sort).kind ∷ n ∷ flag ∷ []
leaf_list (ranges sort l) = (range_row sort).kind ∷ length l ∷ range_list l
leaf_list (texts l) = text_kind ∷ length l ∷ text_list l

unfoldable mutual
  pub object_list : Object → List ℕ
  object_list (object h xs) = h.number ∷ (sized h.type ++ (sized h.code ++ attributes_list xs))

  pub attributes_list : Attributes → List ℕ
  attributes_list no_more = 0 ∷ []
  attributes_list (attribute h v more) = 1 ∷ h.number ∷ h.existence ∷ (sized h.name ++ (value_list v ++ attributes_list more))

  pub value_list : Value → List ℕ
  value_list any = 0 ∷ []
  value_list (nested o) = 1 ∷ object_list o
  value_list (leaf l) = 2 ∷ leaf_list l

abbrev pub type_list : Option (List ℕ) → List ℕ
type_list None = 0 ∷ []
type_list (Some w) = 1 ∷ sized w

unfoldable mutual
  pub datum_list : Datum → List ℕ
  datum_list (datum p t ms) = p ∷ (type_list t ++ members_list ms)

  pub members_list : Members → List ℕ
  members_list Data.no_more = 0 ∷ []
  members_list (member w x more) = 1 ∷ (sized w ++ (content_list x ++ members_list more))

  pub content_list : Content → List ℕ
  content_list (string p w) = 0 ∷ p ∷ sized w
  content_list (word p w) = 1 ∷ p ∷ sized w
  content_list (block d) = 2 ∷ datum_list d

-- what is made of each tree
abbrev pub each : {A : Type 0} → (Object → A) → List Object → List A
each f [] = []
each f (o ∷ os) = f o ∷ each f os
