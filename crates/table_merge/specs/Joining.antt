-- Two tables joined. Document 01, 'Table': "first table's records keep their numbers, the second's gain first count − 1; links other than 0 move so, pool places of
-- length above 0 gain the first pool's bytes. Header: counts summed less one, pools summed, first root". Assumes nothing.
use Rattle.std.specs.Prelude.{cond, List, [], ◌∷◌, ◌++◌, map, ℕ, ◌+◌, eqb, get_or}
use Rattle.std.proofs.Math.ListN
use Rattle.table.specs.Records.{Record, Image}
use Rattle.table.specs.Rows.{Use, unnamed, place, length, link, low, high}
use Rattle.table.specs.Check.{uses_of}

-- how far a merge moves the second table: its records' numbers, and its names' places
pub record Shifts : Type 0 where
  pub records : ℕ
  pub pool : ℕ

-- the field x, before the field next, moved
abbrev pub moved_field : Shifts → Use → ℕ → ℕ → ℕ
moved_field s unnamed x next = x
moved_field s (place least most) x next = cond (eqb next 0) x (s.pool + x)
moved_field s length x next = x
moved_field s (link ks) x next = cond (eqb x 0) 0 (s.records + x)
moved_field s (low sort) x next = x
moved_field s high x next = x

abbrev pub moved_fields : Shifts → List Use → List ℕ → List ℕ
moved_fields s [] xs = xs
moved_fields s (u ∷ us) [] = []
moved_fields s (u ∷ us) (x ∷ xs) = moved_field s u x (get_or xs 0 0) ∷ moved_fields s us xs

abbrev pub moved : Shifts → Record → Record
moved s r = record { kind = r.kind; flag = r.flag; fields = moved_fields s (uses_of r) r.fields }

-- the first table's count less one, and its pool's bytes
abbrev pub shifts_by : Image → Shifts
shifts_by x = record { records = ListN.length x.records; pool = ListN.length x.pool }

unfoldable pub merged : Image → Image → Image
merged x y =
    record { root = x.root; pool = x.pool ++ y.pool; records = x.records ++ map (moved (shifts_by x)) y.records }
