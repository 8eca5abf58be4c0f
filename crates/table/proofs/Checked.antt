-- What a table that passes the check keeps. Assumes nothing.
use mathlib.Core.Path.{◌≡◌}
use mathlib.Core.Bool.{true}
use mathlib.Core.List.{List, [], ◌∷◌}
use Prim.Native.Nat.{ℕ, suc, ◌≤◌}
use lib.ListN.{length}
use Rattle.refusals.specs.Limits.{record_limit, pool_limit}
use Rattle.table.specs.Records.{Record, Image, field_count, count}
use Rattle.table.specs.Check.{kind_at, obeys, clean}

-- a record with its number
pub record RecordGood (m : Image) (n : ℕ) (r : Record) : Type 0 where
  pub counted : length r.fields ≡ field_count
  pub obeyed : obeys m n r ≡ true
  pub cleaned : clean r ≡ true

abbrev pub RecordsGood : Image → ℕ → List Record → Type 0
RecordsGood m n [] = Unit {0}
RecordsGood m n (r ∷ rs) = RecordGood m n r × RecordsGood m (suc n) rs

pub record Checked (m : Image) : Type 0 where
  pub some : 2 ≤ count m
  pub few : count m ≤ record_limit
  pub pool : length m.pool ≤ pool_limit
  pub root : kind_at m m.root ≡ 1
  pub records : RecordsGood m 1 m.records
