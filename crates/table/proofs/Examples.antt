-- Examples of tables: numbers and records as bytes, the check, names and trees. The cases stand in OrderTable, RecordTable, CheckTable, FaultTable, NameTable, TreeTable and
-- MadeTable. Assumes nothing.
use mathlib.Core.Bool.{Bool, true, false, not, ◌&&◌}
use Rattle.std.specs.Prelude.{Option, None, Some}
use mathlib.Core.List.{List, []}
use Prim.Native.Nat.{ℕ}
use lib.Dec.{eqb}
use Rattle.lexis.specs.Runs.{same}
use Rattle.refusals.proofs.Examples.{is_refusal, is_refused, is_given}
use Rattle.refusals.specs.declared.Refusal.{Refusal}
use Rattle.meaning.specs.Constraints.{Object}
use Rattle.meaning.proofs.Trees.{object_list}
use Rattle.table.specs.Order.{put, get}
use Rattle.table.specs.Records.{Record, number_size, is_little, is_marked, decode, encode, image_of, bytes_of}
use Rattle.table.specs.Check.{table_fault}
use Rattle.table.specs.Names.{name_answer, slice_bytes}
use Rattle.table.specs.Trees.{object_at}

abbrev pub alike : Bool → Bool → Bool
alike true b = b
alike false b = not b

-- numbers
pub data NumberCase : Type 0 where
  spelled : (little : Bool) (number : ℕ) (four : List ℕ) → NumberCase

unfoldable pub number_right : NumberCase → Bool
number_right (spelled little n bs) = same (put little number_size n) bs && eqb (get little bs) n

-- records
pub data RecordCase : Type 0 where
  holds : (bytes : List ℕ) (little : Bool) (kind flag : ℕ) (fields : List ℕ) → RecordCase
  marked : (bytes : List ℕ) (good : Bool) → RecordCase

abbrev pub is_record : Record → ℕ → ℕ → List ℕ → Bool
is_record r kind flag fields = eqb r.kind kind && eqb r.flag flag && same r.fields fields

unfoldable pub record_right : RecordCase → Bool
record_right (holds bs little kind flag fields) =
    alike (is_little bs) little
    && is_record (decode bs) kind flag fields
    && same (encode little (record { kind = kind; flag = flag; fields = fields })) bs
record_right (marked bs good) = alike (is_marked bs) good

-- the check, and a table's bytes written anew in either order
pub data CheckCase : Type 0 where
  passes : List ℕ → CheckCase
  refuses : List ℕ → (number place : ℕ) → CheckCase
  rewrites : List ℕ → (little : Bool) → List ℕ → CheckCase

abbrev pub is_fault : Option Refusal → ℕ → ℕ → Bool
is_fault None number place = false
is_fault (Some r) number place = is_refusal r number place

abbrev pub no_fault : Option Refusal → Bool
no_fault None = true
no_fault (Some r) = false

unfoldable pub check_right : CheckCase → Bool
check_right (passes bs) = no_fault (table_fault bs)
check_right (refuses bs number place) = is_fault (table_fault bs) number place
check_right (rewrites bs little out) = no_fault (table_fault bs) && same (bytes_of little (image_of bs)) out

-- names
pub data NameCase : Type 0 where
  names : List ℕ → (n : ℕ) → (start length : ℕ) → (name : List ℕ) → NameCase
  no_name : List ℕ → (n : ℕ) → (number place : ℕ) → NameCase

unfoldable pub name_right : NameCase → Bool
name_right (names bs n start length name) =
    is_given (name_answer bs n) (λ p. eqb p.start start && eqb p.length length) && same (slice_bytes bs (name_answer bs n)) name
name_right (no_name bs n number place) = is_refused (name_answer bs n) (λ r. is_refusal r number place) && same (slice_bytes bs (name_answer bs n)) []

-- the tree of an object of the table
pub data TreeCase : Type 0 where
  tree : List ℕ → (n : ℕ) → Object → TreeCase
  no_tree : List ℕ → (n : ℕ) → TreeCase

abbrev pub is_tree : Option Object → List ℕ → Bool
is_tree None l = false
is_tree (Some o) l = same (object_list o) l

abbrev pub is_missing : Option Object → Bool
is_missing None = true
is_missing (Some o) = false

unfoldable pub tree_right : TreeCase → Bool
tree_right (tree bs n o) = is_tree (object_at (image_of bs) n) (object_list o)
tree_right (no_tree bs n) = is_missing (object_at (image_of bs) n)
