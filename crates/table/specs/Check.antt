-- The check of a table, computed; TableRules.antt has the rules. Document 01, 'Table': "Count 2..2,048, pool to 16,384; the root's kind byte is 1. Kind 0 stands at number 0 only. Every link is 0 or above its own
-- record's number and below the count, and of the kind it needs .. Pool pairs lie in the pool; length 0 has place 0 .. Low ≤ high; dates real, none after 9999-12-31";
-- 'Numbers of refusal', 12: "not a table: length, header, root", 13: "record breaks a rule", at the lowest such record; "12 comes before 13". Assumes nothing.
use Rattle.std.specs.Prelude.{Bool, true, cond, ◌&&◌, ◌||◌, List, [], ◌∷◌, ℕ, suc, ◌+◌, ◌*◌, ◌^◌, eqb, leb, ltb, get_or, take, drop}
use Rattle.std.specs.Prelude.{Option, None, Some}
use Rattle.std.proofs.Math.ListN
use Rattle.lexis.specs.Bytes.{within, among}
use Rattle.values.specs.Integers.{twos_complement}
use Rattle.values.specs.Calendar.{real}
use Rattle.refusals.specs.Limits.{record_limit, pool_limit}
use Rattle.refusals.specs.Refusals.{refusal}
use Rattle.refusals.specs.declared.Refusal.{Refusal}
use Rattle.refusals.specs.declared.Cause.TheVariants.{NotATable, BrokenRecord}
use Rattle.meaning.specs.Constraints.{RangeSort, integers, dates}
use Rattle.table.specs.Records.{Record, Image, record_size, is_marked, field, count, header, image_of}
use Rattle.table.specs.Rows.{shape_of, object_kind, is_known, Use, unnamed, place, length, link, low, high, row_of}

-- the kinds of records
abbrev pub kinds : List Record → List ℕ
kinds [] = []
kinds (r ∷ rs) = r.kind ∷ kinds rs

-- the kind of the record with a number; 0 of the header, and of a number that no record has
abbrev pub kind_at : Image → ℕ → ℕ
kind_at m n = get_or (0 ∷ kinds m.records) n 0

-- the rule of a closed pair
unfoldable pub pair_right : RangeSort → ℕ → ℕ → Bool
pair_right integers x y = ltb x (2 ^ 32) && ltb y (2 ^ 32) && leb (twos_complement x) (twos_complement y)
pair_right dates x y = real x && real y && leb x y

-- the rule of a field x, before the field next, of the record with number n
unfoldable pub field_right : Image → ℕ → Use → ℕ → ℕ → Bool
field_right m n unnamed x next = true
field_right m n (place least most) x next =
    within least most next && cond (eqb next 0) (eqb x 0) (leb (x + next) (ListN.length m.pool))
field_right m n length x next = true
field_right m n (link ks) x next = eqb x 0 || ltb n x && ltb x (count m) && among (kind_at m x) ks
field_right m n (low sort) x next = pair_right sort x next
field_right m n high x next = true

abbrev pub fields_right : Image → ℕ → List Use → List ℕ → Bool
fields_right m n [] xs = true
fields_right m n (u ∷ us) [] = true
fields_right m n (u ∷ us) (x ∷ xs) = field_right m n u x (get_or xs 0 0) && fields_right m n us xs

-- a field that is not named is 0
abbrev pub is_nought : Use → ℕ → Bool
is_nought unnamed x = eqb x 0
is_nought (place least most) x = true
is_nought length x = true
is_nought (link ks) x = true
is_nought (low sort) x = true
is_nought high x = true

abbrev pub rest_nought : List Use → List ℕ → Bool
rest_nought [] xs = true
rest_nought (u ∷ us) [] = true
rest_nought (u ∷ us) (x ∷ xs) = is_nought u x && rest_nought us xs

-- what a record's fields are
abbrev pub uses_of : Record → List Use
uses_of r = (row_of r.kind).uses r.fields

-- the rules of a record's kind and flag
abbrev pub flag_right : ℕ → ℕ → Bool
flag_right kind flag = is_known (shape_of kind) && within (row_of kind).least (row_of kind).most flag

-- the rules of a record: its kind, its flag, each named field and all of them; and that its other fields are 0
unfoldable pub obeys : Image → ℕ → Record → Bool
obeys m n r =
    flag_right r.kind r.flag && fields_right m n (uses_of r) r.fields && (row_of r.kind).across m n r.fields

unfoldable pub clean : Record → Bool
clean r = rest_nought (uses_of r) r.fields

-- a record's bytes, its number and what they decode to: the mark, the rules, the other fields
abbrev pub record_right : Image → ℕ → List ℕ → Record → Bool
record_right m n bs r = is_marked bs && obeys m n r && clean r

-- the lowest record at fault, from number n on, of the records and the bytes from there
unfoldable pub broken : Image → ℕ → List Record → List ℕ → Option ℕ
broken m n [] bs = None
broken m n (r ∷ rs) bs =
    let more = broken m (suc n) rs (drop record_size bs) in
    cond (record_right m n (take record_size bs) r) more (Some n)

-- numbers that are all 0
abbrev pub all_nought : List ℕ → Bool
all_nought [] = true
all_nought (x ∷ xs) = eqb x 0 && all_nought xs

-- the length, the header and the root
unfoldable pub framed : List ℕ → Bool
framed bs =
    let h = header bs in
    leb record_size (ListN.length bs)
    && is_marked bs
    && (eqb h.kind 0 && eqb h.flag 0 && all_nought (drop 3 h.fields))
    && within 2 record_limit (field h 0)
    && leb (field h 1) pool_limit
    && eqb (ListN.length bs) (record_size * field h 0 + field h 1)
    && eqb (kind_at (image_of bs) (field h 2)) object_kind

abbrev pub broken_record : Option ℕ → Option Refusal
broken_record None = None
broken_record (Some n) = Some (refusal BrokenRecord n)

-- the refusal of bytes as a table, if there is one
unfoldable pub table_fault : List ℕ → Option Refusal
table_fault bs =
    cond (framed bs) (broken_record (broken (image_of bs) 1 (image_of bs).records (drop record_size bs)))
    (Some (refusal NotATable 0))
