-- Examples of constraint texts, each with its tree or with its refusal's number and place. The cases stand in the tables. Assumes nothing.
use mathlib.Core.Bool.{Bool, false, ◌&&◌}
use mathlib.Core.List.{List}
use Prim.Native.Nat.{ℕ, ◌-◌}
use lib.Dec.{eqb}
use lib.ListN.{length}
use Rattle.lexis.specs.Runs.{same}
use Rattle.refusals.specs.Limits.{level_limit}
use Rattle.refusals.specs.Reading.{Reading, refused, got}
use Rattle.refusals.specs.Refusals.{number_of}
use Rattle.meaning.specs.Constraints.{Object}
use Rattle.meaning.proofs.Trees.{object_list}
use Rattle.cadl_objects.specs.Clauses.Told.{object_from}
use Rattle.cadl_objects.specs.Texts.{constraint_of}

-- a text and what is expected of it; or an object that is no outermost one, from a record's number on
pub data Case : Type 0 where
  accepts : (text : List ℕ) (tree : Object) → Case
  refuses : (text : List ℕ) (number place : ℕ) → Case
  accepts_from : (text : List ℕ) (next : ℕ) (tree : Object) → Case
  refuses_from : (text : List ℕ) (next number place : ℕ) → Case

abbrev pub is_tree : Reading Object → Object → ℕ → Bool
is_tree (refused r) o end = false
is_tree (got x p) o end = same (object_list x) (object_list o) && eqb p end

abbrev pub is_refusal : Reading Object → ℕ → ℕ → Bool
is_refusal (refused r) number place = eqb (number_of r.cause) number && eqb r.place place
is_refusal (got x p) number place = false

-- the place behind a text that was accepted is its end
unfoldable pub right : Case → Bool
right (accepts s o) = is_tree (constraint_of s) o (length s)
right (refuses s number place) = is_refusal (constraint_of s) number place
right (accepts_from s next o) = is_tree (object_from s (level_limit - 1) next 0) o (length s)
right (refuses_from s next number place) = is_refusal (object_from s (level_limit - 1) next 0) number place
