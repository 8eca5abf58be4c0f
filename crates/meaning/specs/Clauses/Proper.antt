-- What every tree of a text keeps, and every tree of a table that passes the check: document 01, 'Constraint text' and 'Table', lengths, flags, closed pairs. Assumes nothing.
use Rattle.std.specs.Prelude.{◌≡◌, true, List, [], ◌∷◌, ℕ, ◌≤◌, length}
use Rattle.values.specs.Integers.{greatest}
use Rattle.values.specs.Calendar.{real}
use Rattle.meaning.specs.Constraints.{Range, Text, RangeSort, integers, dates, Leaf, single, ranges, texts, Object, object, Attributes, no_more, attribute, Value, any, nested, leaf}
use Rattle.meaning.specs.Sorts.{single_row}

-- a closed pair of integers, as distances
pub record ProperIntegers (x : Range) : Type 0 where
  pub order : x.low ≤ x.high
  pub most : x.high ≤ greatest

-- a closed pair of days
pub record ProperDates (x : Range) : Type 0 where
  pub order : x.low ≤ x.high
  pub low : real x.low ≡ true
  pub high : real x.high ≡ true

abbrev pub ProperRange : RangeSort → Range → Type 0
ProperRange integers = ProperIntegers
ProperRange dates = ProperDates

abbrev pub ProperString : Text → Type 0
ProperString x = length x.text ≤ 255

-- one item or more, each proper
abbrev pub Each : {A : Type 0} → (A → Type 0) → List A → Type 0
Each P [] = Unit {0}
Each P (x ∷ xs) = P x × Each P xs

abbrev pub Some : {A : Type 0} → (A → Type 0) → List A → Type 0
Some P l = (1 ≤ length l) × Each P l

abbrev pub Flag : ℕ → ℕ → Type 0
Flag most f = (1 ≤ f) × (f ≤ most)

abbrev pub ProperLeaf : Leaf → Type 0
ProperLeaf (single sort n flag) = Flag (single_row sort).greatest flag
ProperLeaf (ranges sort l) = Some (ProperRange sort) l
ProperLeaf (texts l) = Some ProperString l

-- a type or a name
abbrev pub ProperName : List ℕ → Type 0
ProperName w = (1 ≤ length w) × (length w ≤ 63)

unfoldable mutual
  pub ProperObject : Object → Type 0
  ProperObject (object h xs) = ProperName h.type × (length h.code ≤ 31) × ProperAttributes xs

  pub ProperAttributes : Attributes → Type 0
  ProperAttributes no_more = Unit {0}
  ProperAttributes (attribute h v more) =
      (h.existence ≤ 2) × ProperName h.name × ProperValue v × ProperAttributes more

  pub ProperValue : Value → Type 0
  ProperValue any = Unit {0}
  ProperValue (nested o) = ProperObject o
  ProperValue (leaf l) = ProperLeaf l
