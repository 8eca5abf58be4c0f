-- Bytes that come from bytes of a text, each from one of its own, in the same order. Assumes nothing.
use Rattle.std.specs.Prelude.{List, [], ◌∷◌, ℕ}

pub data Sub : List ℕ → List ℕ → Type 0 where
  none : Sub [] []
  keep : {x : ℕ} {xs ys : List ℕ} → Sub xs ys → Sub (x ∷ xs) (x ∷ ys)
  pass : {y : ℕ} {xs ys : List ℕ} → Sub xs ys → Sub xs (y ∷ ys)
