-- The steps of reading the next token of a text: a lemma for each way out. Assumes nothing.
use mathlib.Core.Path.{◌≡◌, refl}
use mathlib.Core.Bool.{Bool, true, false}
use mathlib.Core.List.{List}
use Prim.Native.Nat.{ℕ, ◌≤◌, ◌<◌}
use native.Mathlib.Omega.{arith}
use lib.ListN.{length, drop_of_length-le}
use borrow.Author.Tests.{le-leb}
use Rattle.lexis.specs.Blanks.{skip, token_start}
use Rattle.lexis.specs.Tokens.{token, text_end, token_on, token_at}
use Rattle.lexis.specs.DataTokens.{run_sort, type_sort, data_token_on, data_token_at, type_token_at}
use Rattle.lexis.specs.Clauses.Answers.{PlaceIs, token_by}
use Rattle.lexis.specs.declared.Token.{Token}
use Rattle.lexis.specs.declared.reader.Tokens.{Tokens}
use Rattle.lexis.specs.declared.reader.Tokens.TheVariants.{Constraint, Data, Behind}

-- the sort of a run behind `(`, or else of one anywhere
abbrev pub sorting : Bool → List ℕ → ℕ → ℕ
sorting true = type_sort
sorting false = run_sort

-- the tokens are those behind `(`
abbrev pub behind_of : Tokens → Bool
behind_of Constraint = false
behind_of Data = false
behind_of Behind = true

module _ (s : List ℕ) (from : ℕ) where
  -- behind the text's end
  pub next_end : (k : Tokens) → length s < from → token text_end from from ≡ token_by k s from
  unfolding skip token_on token_at data_token_on data_token_at type_token_at
  next_end Constraint h = let l : length s ≤ from = omega arith in rw (drop_of_length-le s l, le-leb (length s) from l)
  next_end Data h = let l : length s ≤ from = omega arith in rw (drop_of_length-le s l, le-leb (length s) from l)
  next_end Behind h = let l : length s ≤ from = omega arith in rw (drop_of_length-le s l, le-leb (length s) from l)

  module _ (at : ℕ) (k : Tokens) (t : Token) (p : PlaceIs s from (token_start s from) at) where
    pub next_constraint : k ≡ Constraint → t ≡ token_on s at → t ≡ token_by k s from
    unfolding token_at
    next_constraint e q = rw e (rw p.is at q)

    pub next_anywhere : k ≡ Data → t ≡ data_token_on run_sort s at → t ≡ token_by k s from
    unfolding data_token_at
    next_anywhere e q = rw e (rw p.is at q)

    pub next_behind : k ≡ Behind → t ≡ data_token_on type_sort s at → t ≡ token_by k s from
    unfolding type_token_at
    next_behind e q = rw e (rw p.is at q)

    -- of data text, behind `(` or elsewhere: the choice is one of the last two
    pub next_data : (b : Bool) → (k ≡ Constraint → ⊥) → b ≡ behind_of k → t ≡ data_token_on (sorting b) s at
        → t ≡ token_by k s from
    unfolding data_token_at type_token_at
    next_data b n e q = by_kind k n (rw (p.is, e) at q)
      where
        by_kind : (k : Tokens) → (k ≡ Constraint → ⊥)
            → t ≡ data_token_on (sorting (behind_of k)) s (token_start s from) → t ≡ token_by k s from
        by_kind Constraint n q = absurd (n refl)
        by_kind Data n q = q
        by_kind Behind n q = q

pub ruleset of_texts = (next_end, next_constraint, next_anywhere, next_behind)
