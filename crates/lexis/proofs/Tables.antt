-- A table of examples is one statement: the list of the numbers of its wrong cases is empty. Assumes nothing.
use mathlib.Core.Bool.{Bool, cond}
use Rattle.std.specs.Prelude.{Option, None, Some}
use mathlib.Core.List.{List, [], ◌∷◌}
use Prim.Native.Nat.{ℕ, ◌+◌}

unfoldable pub wrong : {A : Type 0} → (A → Bool) → ℕ → List A → List ℕ
wrong right n [] = []
wrong right n (x ∷ xs) = let more = wrong right (n + 1) xs in cond (right x) more (n ∷ more)

-- an answer that may be missing, as a list of numbers
abbrev pub or_nothing : Option ℕ → List ℕ
or_nothing None = []
or_nothing (Some n) = n ∷ []
