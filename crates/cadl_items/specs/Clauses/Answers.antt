-- What reading a leaf promises of its answer and of the scratch: both together are the reading of the definition, and bounds. Assumes nothing.
use Rattle.std.specs.Prelude.{◌≡◌, List, [], ◌∷◌, ℕ, zero, suc, ◌+◌, ◌≤◌, ◌<◌, length}
use Rattle.std.specs.declared.result.Result.{Result}
use Rattle.std.specs.declared.result.Result.TheVariants.{Ok, Err}
use Rattle.values.specs.Integers.{Pair, pair}
use Rattle.refusals.specs.Limits.{text_limit, record_limit, item_limit}
use Rattle.refusals.specs.Reading.{Reading, refused, got}
use Rattle.refusals.specs.declared.Refusal.{Refusal}
use Rattle.meaning.specs.Constraints.{SingleSort, booleans, date_pattern, time_pattern, duration_pattern, RangeSort, integers, dates, Range, Text, Leaf, single, ranges, texts}
use Rattle.cadl_items.specs.Ranges.{range}
use Rattle.cadl_items.specs.Clauses.Spans.{first_of, second_of, span_at, SpansIn}
use Rattle.cadl_items.specs.declared.leaves.SingleSort as declared
use Rattle.cadl_items.specs.declared.leaves.SingleSort.TheVariants as single_sort
use Rattle.cadl_items.specs.declared.leaves.RangeSort as declared_range
use Rattle.cadl_items.specs.declared.leaves.RangeSort.TheVariants as range_sort
use Rattle.cadl_items.specs.declared.leaves.Leaf as declared_leaf
use Rattle.cadl_items.specs.declared.leaves.Leaf.TheVariants as leaf_read

-- where a leaf is read: a place of a text that is not too long, and the next record's number
pub record LeafRoom (s : List ℕ) (number from : ℕ) : Type 0 where
  pub inside : from ≤ length s
  pub short : length s ≤ text_limit
  pub records : number ≤ record_limit

-- the pair of item i
abbrev pub pair_at : List ℕ → ℕ → Pair
pair_at scratch i = pair (first_of scratch i) (second_of scratch i)

-- an item as a record
abbrev pub range_at : List ℕ → ℕ → ℕ → Range
range_at scratch number i = range number (pair_at scratch i)

abbrev pub text_at : List ℕ → List ℕ → ℕ → ℕ → Text
text_at s scratch number i = record { number = number; text = span_at s scratch i }

-- so many items from item i on, the first of which has the record number given
unfoldable pub items_from : {A : Type 0} → (ℕ → ℕ → A) → ℕ → ℕ → ℕ → List A
items_from item number i zero = []
items_from item number i (suc n) = item number i ∷ items_from item (number + 1) (i + 1) n

-- the sorts that an answer names
abbrev pub single_of : declared.SingleSort → SingleSort
single_of single_sort.Booleans = booleans
single_of single_sort.DatePattern = date_pattern
single_of single_sort.TimePattern = time_pattern
single_of single_sort.DurationPattern = duration_pattern

abbrev pub range_sort_of : declared_range.RangeSort → RangeSort
range_sort_of range_sort.Integers = integers
range_sort_of range_sort.Dates = dates

-- what reading a leaf answers, with the scratch: the leaf, whose items stand in the scratch and whose records are numbered from the number given on
abbrev pub leaf_reading : List ℕ → ℕ → List ℕ → Result declared_leaf.Leaf Refusal → Reading Leaf
leaf_reading s number scratch (Err x) = refused x
leaf_reading s number scratch (Ok (leaf_read.Single sort flag next)) = got (single (single_of sort) number flag) next
leaf_reading s number scratch (Ok (leaf_read.Ranges sort count next)) =
    got (ranges (range_sort_of sort) (items_from (range_at scratch) number 0 count)) next
leaf_reading s number scratch (Ok (leaf_read.Strings count next)) =
    got (texts (items_from (text_at s scratch) number 0 count)) next

-- a leaf of one record that was read from a place on: there is room for the record
pub record Single (s : List ℕ) (number from next : ℕ) : Type 0 where
  pub order : from < next
  pub inside : next ≤ length s
  pub records : number < record_limit

-- so many integers or dates in the scratch: there is room for their records
pub record Listed (s : List ℕ) (number from count next : ℕ) : Type 0 where
  pub order : from < next
  pub inside : next ≤ length s
  pub some : 1 ≤ count
  pub few : count ≤ item_limit
  pub records : number + count ≤ record_limit

-- so many strings in the scratch: there is room for their records, and each span lies in the text
pub record Texts (s : List ℕ) (number : ℕ) (scratch : List ℕ) (count : ℕ) : Type 0 where
  pub some : 1 ≤ count
  pub few : count ≤ item_limit
  pub records : number + count ≤ record_limit
  pub spans : SpansIn s scratch 0 count

pub record StringsLeft (s : List ℕ) (number from : ℕ) (scratch : List ℕ) (count next : ℕ) : Type 0 where
  pub order : from < next
  pub inside : next ≤ length s
  pub texts : Texts s number scratch count

-- where a leaf lies, and the room that it has
abbrev pub LeafPast : List ℕ → ℕ → ℕ → List ℕ → Result declared_leaf.Leaf Refusal → Type 0
LeafPast s number from scratch (Err x) = Unit {0}
LeafPast s number from scratch (Ok (leaf_read.Single sort flag next)) = Single s number from next
LeafPast s number from scratch (Ok (leaf_read.Ranges sort count next)) = Listed s number from count next
LeafPast s number from scratch (Ok (leaf_read.Strings count next)) = StringsLeft s number from scratch count next

-- the answer and the scratch are the reading; nothing is said of the scratch after a refusal, for a leaf of one record, or behind the items
pub record LeafIs (s : List ℕ) (number from : ℕ) (reading : Reading Leaf) (scratch : List ℕ)
    (r : Result declared_leaf.Leaf Refusal) : Type 0 where
  pub is : leaf_reading s number scratch r ≡ reading
  pub past : LeafPast s number from scratch r
