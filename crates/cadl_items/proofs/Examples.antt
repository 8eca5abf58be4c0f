-- Examples of leaves, each with what is read or with its refusal's number and place, given the next record's number. The cases
-- stand in the table. Assumes nothing.
use mathlib.Core.Bool.{Bool, false, ◌&&◌}
use mathlib.Core.List.{List}
use Prim.Native.Nat.{ℕ}
use lib.Dec.{eqb}
use Rattle.lexis.specs.Runs.{same}
use Rattle.refusals.specs.Reading.{Reading, refused, got}
use Rattle.refusals.specs.Refusals.{number_of}
use Rattle.meaning.specs.Constraints.{Leaf}
use Rattle.meaning.proofs.Trees.{leaf_list}
use Rattle.cadl_items.specs.Clauses.Told.{leaf}

-- a text, the next record's number, and what is expected: a leaf and the place behind it, or a refusal
pub data Case : Type 0 where
  reads : (text : List ℕ) (next : ℕ) (tree : Leaf) (place : ℕ) → Case
  refuses : (text : List ℕ) (next number place : ℕ) → Case

abbrev pub is_leaf : Reading Leaf → Leaf → ℕ → Bool
is_leaf (refused r) l place = false
is_leaf (got x p) l place = same (leaf_list x) (leaf_list l) && eqb p place

abbrev pub is_refusal : Reading Leaf → ℕ → ℕ → Bool
is_refusal (refused r) number place = eqb (number_of r.cause) number && eqb r.place place
is_refusal (got x p) number place = false

unfoldable pub right : Case → Bool
right (reads s next l place) = is_leaf (leaf s next 0) l place
right (refuses s next number place) = is_refusal (leaf s next 0) number place
