-- What the patterns admit, by how many parts are there; and how many parts a time has. Assumes nothing.
use mathlib.Core.Path.{◌≡◌, refl}
use mathlib.Core.Bool.{Bool, true, false, ◌&&◌, beq}
use Rattle.std.specs.Prelude.{Some}
use mathlib.Core.List.{List, [], ◌∷◌}
use Prim.Native.Nat.{ℕ, ◌≤◌}
use native.Mathlib.Omega.{arith}
use lib.ListN.{drop}
use Rattle.lexis.specs.Text.{bytes}
use Rattle.lexis.specs.Runs.{shaped}
use Rattle.lexis.proofs.Cases.{either}
use Rattle.lexis.proofs.Tables.{wrong}
use Rattle.values.specs.Patterns.{fits, fits_date, fits_time}
use Rattle.values.specs.Times.{time_of, good_time, hours, minutes, seconds, zone}
use Rattle.values.proofs.Common.{Each, none_each, some_each}

-- a pattern's test, its flag, and whether it admits one part, two parts and three
pub record Row : Type 0 where
  pub admits : ℕ → ℕ → Bool
  pub flag : ℕ
  pub one : Bool
  pub two : Bool
  pub three : Bool

abbrev row : (ℕ → ℕ → Bool) → ℕ → Bool → Bool → Bool → Row
row admits flag one two three = record { admits = admits; flag = flag; one = one; two = two; three = three }

abbrev pub rows : List Row
rows =
    -- yyyy-mm-dd, yyyy-mm-??, yyyy-??-??, yyyy-mm-XX, yyyy-??-XX
    row fits_date 1 false false true
    ∷ row fits_date 2 false true true
    ∷ row fits_date 3 true true true
    ∷ row fits_date 4 false true false
    ∷ row fits_date 5 true true false
    -- Thh:mm:ss, Thh:mm:XX, Thh:??:XX, Thh:??:??
    ∷ row fits_time 1 false false true
    ∷ row fits_time 2 false true false
    ∷ row fits_time 3 true true false
    ∷ row fits_time 4 true true true
    ∷ []

abbrev pub agrees : Row → Bool
agrees r =
    beq (r.admits r.flag 1) r.one && beq (r.admits r.flag 2) r.two && beq (r.admits r.flag 3) r.three

-- all rows hold
pub patterns_hold : wrong agrees 0 rows ≡ []
unfolding wrong fits fits_date fits_time
patterns_hold = refl

-- a time that is read has one part to three
abbrev OneToThree : ℕ → Type 0
OneToThree n = (1 ≤ n) × (n ≤ 3)

good_parts : (b : Bool) (m : ℕ) → OneToThree m → Each OneToThree (good_time b m)
good_parts b m h = either (Each OneToThree) b (some_each OneToThree m h) (none_each _)

pub time_parts : (w : List ℕ) (n : ℕ) → time_of w ≡ Some n → (1 ≤ n) × (n ≤ 3)
unfolding time_of
time_parts w =
    let P = Each OneToThree in
    either P (shaped (bytes "dd:dd:dd") w) (good_parts (hours w && minutes w && seconds w && zone (drop 8 w)) 3 (omega arith))
    (either P (shaped (bytes "dd:dd") w) (good_parts (hours w && minutes w && zone (drop 5 w)) 2 (omega arith))
    (either P (shaped (bytes "dd") w) (good_parts (hours w && zone (drop 2 w)) 1 (omega arith)) (none_each _)))
