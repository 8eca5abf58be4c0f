-- What the code of times and zones stands on: shapes reach as far as they are long, and a zone of three bytes spells no minutes. Assumes nothing.
use mathlib.Core.Path.{◌≡◌, refl, sym, ◌∙◌}
use mathlib.Core.Bool.{Bool, true}
use mathlib.Core.List.{List}
use Prim.Native.Nat.{ℕ, ◌≤◌}
use native.Mathlib.Omega.{arith}
use lib.ListN.{length, drop_of_length-le}
use Rattle.lexis.specs.Text.{bytes}
use Rattle.lexis.specs.Runs.{same, shaped, all}
use Rattle.lexis.proofs.Places.{shaped_long}
use Rattle.values.specs.Integers.{value_of}
use Rattle.values.specs.Dates.{digits_at, exactly}
use Rattle.values.proofs.ShapeSteps.{exactly_same}

pub shaped_reaches : (shape w : List ℕ) (r : Bool) (n : ℕ) → r ≡ shaped shape w → r ≡ true → n ≤ length shape
    → n ≤ length w
shaped_reaches shape w r n h q l = let e = shaped_long shape w (sym h ∙ q) in omega arith

pub no_minutes : (z : List ℕ) → length z ≡ 3 → digits_at 4 2 z ≡ 0
unfolding value_of
no_minutes z h = let l : length z ≤ 4 = omega arith in rw (drop_of_length-le z l)

pub zulu_is : (z : List ℕ) → exactly (bytes "Z") z ≡ same (bytes "Z") z
unfolding all
zulu_is z = exactly_same (bytes "Z") z refl
