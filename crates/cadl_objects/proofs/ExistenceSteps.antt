-- What the reader of an existence's bounds rests on. Assumes nothing.
use mathlib.Core.Path.{◌≡◌, refl}
use mathlib.Core.Bool.{Bool, true, false, ◌&&◌}
use mathlib.Core.List.{List}
use Prim.Native.Nat.{ℕ}
use lib.Dec.{eqb}
use Rattle.lexis.specs.Text.{bytes}
use Rattle.lexis.specs.Runs.{same}
use Rattle.lexis.specs.Tokens.{integer, spelling}
use Rattle.lexis.specs.declared.Token.{Token}
use Rattle.lexis.proofs.TestLaws.{same_eq}
use Rattle.cadl_objects.specs.Existence.{is_zero, is_one}

-- no token spells both
pub not_both : (s : List ℕ) (t : Token) → is_zero s t ≡ true → is_one s t ≡ false
unfolding same
not_both s t h = by (eqb t.sort integer) h
  where
    by : (b : Bool) → (b && same (bytes "0") (spelling s t)) ≡ true → (b && same (bytes "1") (spelling s t)) ≡ false
    by true g = rw (← same_eq (bytes "0") (spelling s t) g)
    by false g = refl
