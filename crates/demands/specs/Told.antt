-- What the jobs tell, each by the table of numbers (crates/refusals/specs/Numbers.antt): a refusal has a row of it, with its number, and a place of the sort that the row names, in what the job was
-- given. Document 01, 'Numbers of refusal'; document 02, 1: "New kind 9". Assumes nothing.
use Rattle.std.specs.Prelude.{List, ℕ, ◌≤◌, ◌<◌, length}
use Rattle.lexis.specs.Text.{bytes}
use Rattle.lexis.specs.Runs.{StandsAt}
use Rattle.refusals.specs.Limits.{text_limit}
use Rattle.refusals.specs.Refusals.{number_of}
use Rattle.refusals.specs.Numbers.{PlaceSort, limit, token, text_end, whole_table, table_record, asked, merged, needed, NumberRow, OfDataText}
use Rattle.refusals.specs.declared.Refusal.{Refusal}
use Rattle.table.specs.TableRules.{IsFrame, IsTable, KindAt, ObjectOrItem}
use Rattle.table_merge.specs.Merge.{MergeRequest, MergeRefusal, of_table}
use Rattle.table_merge.specs.MergeRules.{Sizes, BothTables, length_of}

-- a refusal with its row, and its place among the places given
pub record Told (Place : PlaceSort → ℕ → Type 0) (r : Refusal) : Type 0 where
  pub sort : PlaceSort
  pub row : NumberRow r.cause (number_of r.cause) sort
  pub place : Place sort r.place

-- in a text: 16,384 where it is longer, or a place that is at most its length
pub data InText (s : List ℕ) : PlaceSort → ℕ → Type 0 where
  over_long : text_limit < length s → InText s limit text_limit
  inside : {p : ℕ} → p ≤ length s → InText s token p

-- of a data text, for one of its causes
pub record DataTold (form : List ℕ) (r : Refusal) : Type 0 where
  pub told : Told (InText form) r
  pub cause : OfDataText r.cause

-- a text's end
pub data AtEnd (s : List ℕ) : PlaceSort → ℕ → Type 0 where
  at_end : AtEnd s text_end (length s)

-- in a table: 0, or a record's number, above 0 and below the count
pub data InTable (bs : List ℕ) : PlaceSort → ℕ → Type 0 where
  whole : InTable bs whole_table 0
  one_record : {count pool root n : ℕ} → IsFrame bs count pool root → 1 ≤ n → n < count → InTable bs table_record n

-- the number asked
pub data AsAsked (n : ℕ) : PlaceSort → ℕ → Type 0 where
  as_asked : AsAsked n asked n

-- of two tables: 0, or the length needed
pub data OfBoth (q : MergeRequest) : PlaceSort → ℕ → Type 0 where
  joined : OfBoth q merged 0
  joined_length : {z : Sizes} → BothTables q.first q.second z → OfBoth q needed (length_of z)

-- merging names the table for 12 and 13: 1 or 2, else 0
pub data MergeTold (q : MergeRequest) : MergeRefusal → Type 0 where
  of_first : {r : Refusal} → Told (InTable q.first) r → MergeTold q (of_table 1 r)
  of_second : {r : Refusal} → Told (InTable q.second) r → MergeTold q (of_table 2 r)
  of_neither : {r : Refusal} → Told (OfBoth q) r → MergeTold q (of_table 0 r)

-- an item of a leaf, by its kind
pub data IsItem : ℕ → Type 0 where
  boolean : IsItem 3
  integer : IsItem 4
  string : IsItem 5
  date_pattern : IsItem 6
  date_interval : IsItem 7
  time_pattern : IsItem 8
  duration_pattern : IsItem 9

-- 20 to 24, and the kind of the record that is named
pub data ReasonRow : (reason kind : ℕ) → Type 0 where
  -- "block for leaf or leaf for block; leaf unreadable as the kind asked": "record that c names"
  unsuited : {kind : ℕ} → ObjectOrItem kind → ReasonRow 20 kind
  -- "type differs": the object
  type_differs : ReasonRow 21 1
  -- "member missing": the attribute
  missing : ReasonRow 22 2
  -- "member present under 0..0": the attribute
  prohibited : ReasonRow 23 2
  -- "value not admitted": "first item"
  not_admitted : {kind : ℕ} → IsItem kind → ReasonRow 24 kind

-- a failure names a record of the table, of that kind, and a `<` of the data text
pub record FailureTold (table form : List ℕ) (reason number place : ℕ) : Type 0 where
  pub count : ℕ
  pub pool : ℕ
  pub root : ℕ
  pub kind : ℕ
  pub passes : IsTable table count pool root
  pub inside : number < count
  pub named : KindAt table number kind
  pub row : ReasonRow reason kind
  pub opening : StandsAt form place (bytes "<")
