-- Datum trees: what a data text says. Document 01, 'Data text': "Datum: optional `(`TYPE`)`, `<`, members, `>`. Member: NAME `=` then a datum, or
-- `<` leaf `>` with no type." The place is that of the `<`. Assumes nothing.
use Rattle.std.specs.Prelude.{List, ℕ}
use Rattle.std.specs.Prelude.{Option}

mutual
  pub data Datum : Type 0 where
    datum : (place : ℕ) (type : Option (List ℕ)) (members : Members) → Datum

  pub data Members : Type 0 where
    no_more : Members
    member : (name : List ℕ) (content : Content) (more : Members) → Members

  pub data Content : Type 0 where
    string : (place : ℕ) (text : List ℕ) → Content
    word : (place : ℕ) (text : List ℕ) → Content
    block : Datum → Content
