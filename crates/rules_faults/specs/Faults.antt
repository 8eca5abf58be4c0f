-- Which fault of a text is told. Document 01, 'Numbers of refusal': "In one text the smallest place wins, then the smallest number; 1 comes before all". Assumes nothing.
use Rattle.std.specs.Prelude.{◌≡◌, ◌≢◌, ◌≤◌, ◌<◌}
use mathlib.Core.List.{List, Memᴰ}
use Rattle.refusals.specs.declared.Refusal.{Refusal}
use Rattle.refusals.specs.Refusals.{number_of}

-- one fault is told rather than another: 1 before all, then the smaller place, then the smaller number
pub data Precedes (x y : Refusal) : Type 0 where
  first : number_of x.cause ≡ 1 → Precedes x y
  smaller_place : number_of y.cause ≢ 1 → x.place < y.place → Precedes x y
  smaller_number : number_of y.cause ≢ 1 → x.place ≡ y.place → number_of x.cause ≤ number_of y.cause
      → Precedes x y

-- the least of some faults
pub record Least (x : Refusal) (fs : List Refusal) : Type 0 where
  pub one : Memᴰ x fs
  pub least : (y : Refusal) → Memᴰ y fs → Precedes x y

-- the same number at the same place
pub record Alike (x y : Refusal) : Type 0 where
  pub number : number_of x.cause ≡ number_of y.cause
  pub place : x.place ≡ y.place
