-- Constraint trees: what a constraint text says, and what a table says from a record on. Document 01, 'Constraint text': object, attribute, leaf.
-- Each object, attribute and item has the number of its record ('Table'; 'The merges of demand 3': "counted in text order by their first tokens").
-- Assumes nothing.
use Rattle.std.specs.Prelude.{List, ℕ}

-- an item of integers, as distances (values, Integers), or of days, packed (values, Calendar): a closed pair
pub record Range : Type 0 where
  pub number : ℕ
  pub low : ℕ
  pub high : ℕ

-- an item of strings
pub record Text : Type 0 where
  pub number : ℕ
  pub text : List ℕ

-- the sorts of leaves of one record, whose flag says which Booleans or which pattern
pub data SingleSort : Type 0 where
  booleans date_pattern time_pattern duration_pattern : SingleSort

-- the sorts of lists of closed pairs
pub data RangeSort : Type 0 where
  integers dates : RangeSort

-- a leaf by its shape: one record with a flag, a list of closed pairs, a list of strings
pub data Leaf : Type 0 where
  single : (sort : SingleSort) (number flag : ℕ) → Leaf
  ranges : (sort : RangeSort) (items : List Range) → Leaf
  texts : (items : List Text) → Leaf

-- existence: 0 is 0..0, 1 is 0..1, 2 is 1..1
abbrev pub prohibited : ℕ
prohibited = 0

abbrev pub optional : ℕ
optional = 1

abbrev pub required : ℕ
required = 2

-- what an object and an attribute say of themselves
pub record ObjectHead : Type 0 where
  pub number : ℕ
  pub type : List ℕ
  pub code : List ℕ

pub record AttributeHead : Type 0 where
  pub number : ℕ
  pub existence : ℕ
  pub name : List ℕ

-- an object without attributes is the one with `*`
mutual
  pub data Object : Type 0 where
    object : (head : ObjectHead) (attributes : Attributes) → Object

  pub data Attributes : Type 0 where
    no_more : Attributes
    attribute : (head : AttributeHead) (value : Value) (more : Attributes) → Attributes

  pub data Value : Type 0 where
    any : Value
    nested : Object → Value
    leaf : Leaf → Value
