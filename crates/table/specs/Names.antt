-- Names. Document 01, 'Table': "Asked for a name (an object's type, an attribute's name, a string item) by record number, the build hands out the part of the pool
-- itself; with a refusal, an empty part"; 'Numbers of refusal', 14: "record asked holds no name", at that number; "Name: table, 14". Assumes nothing.
use Rattle.std.specs.Prelude.{Bool, not, List, [], ◌∷◌, ℕ, ◌+◌, ◌*◌, get_or, take, drop}
use Rattle.lexis.specs.Bytes.{among}
use Rattle.meaning.specs.Sorts.{text_kind}
use Rattle.refusals.specs.Refusals.{refusal}
use Rattle.refusals.specs.Outcomes.{Outcome, refused, gave, or_fault, unless}
use Rattle.refusals.specs.declared.Refusal.{Refusal}
use Rattle.refusals.specs.declared.Cause.TheVariants.{NoName}
use Rattle.table.specs.Records.{Record, Image, record_size, field, count, header_of, image_of}
use Rattle.table.specs.Rows.{object_kind, attribute_kind}
use Rattle.table.specs.Check.{kind_at, table_fault}

-- the record with a number
abbrev pub record_at : Image → ℕ → Record
record_at m n = get_or (header_of m ∷ m.records) n (header_of m)

-- objects, attributes and strings have a name
abbrev pub holds_name : Image → ℕ → Bool
holds_name m n = among (kind_at m n) (object_kind ∷ attribute_kind ∷ text_kind ∷ [])

-- the part of a table's bytes that is a record's name
pub record Slice : Type 0 where
  pub start : ℕ
  pub length : ℕ

-- the part that the first two fields of the record with a number name
abbrev pub name_slice : Image → ℕ → Slice
name_slice m n = record { start = record_size * count m + field (record_at m n) 0; length = field (record_at m n) 1 }

abbrev pub name_outcome : Image → ℕ → Outcome Refusal Slice
name_outcome m n = unless (not (holds_name m n)) (refusal NoName n) (gave (name_slice m n))

unfoldable pub name_answer : List ℕ → ℕ → Outcome Refusal Slice
name_answer bs n = or_fault (table_fault bs) (name_outcome (image_of bs) n)

-- the bytes of that part; none with a refusal
abbrev pub slice_bytes : List ℕ → Outcome Refusal Slice → List ℕ
slice_bytes bs (refused r) = []
slice_bytes bs (gave p) = take p.length (drop p.start bs)
