-- Examples of data texts, each with its tree or with its refusal's number and place. The cases stand in the tables. Assumes nothing.
use mathlib.Core.Bool.{Bool, false, ◌&&◌}
use mathlib.Core.List.{List}
use Prim.Native.Nat.{ℕ}
use lib.Dec.{eqb}
use lib.ListN.{length}
use Rattle.lexis.specs.Runs.{same}
use Rattle.refusals.specs.Limits.{level_limit}
use Rattle.refusals.specs.Reading.{Reading, refused, got}
use Rattle.refusals.specs.Refusals.{number_of}
use Rattle.meaning.specs.Data.{Datum}
use Rattle.meaning.proofs.Trees.{datum_list}
use Rattle.dadl.specs.Data.{datum_of}

-- a text and what is expected of it
pub data Case : Type 0 where
  accepts : (text : List ℕ) (tree : Datum) → Case
  refuses : (text : List ℕ) (number place : ℕ) → Case

abbrev pub is_tree : Reading Datum → Datum → ℕ → Bool
is_tree (refused r) d end = false
is_tree (got x p) d end = same (datum_list x) (datum_list d) && eqb p end

abbrev pub is_refusal : Reading Datum → ℕ → ℕ → Bool
is_refusal (refused r) number place = eqb (number_of r.cause) number && eqb r.place place
is_refusal (got x p) number place = false

-- the place behind a text that was accepted is its end
unfoldable pub right : Case → Bool
right (accepts s d) = is_tree (datum_of level_limit s) d (length s)
right (refuses s number place) = is_refusal (datum_of level_limit s) number place
