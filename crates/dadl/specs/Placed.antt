-- A data text's tree with places for its names, types and values: where they stand in the text. Spelled out, it is the datum tree. Assumes nothing.
use Rattle.std.specs.Prelude.{List, ℕ}
use Rattle.std.specs.Prelude.{Option, option_map as map}
use Rattle.lexis.specs.Runs.{part}
use Rattle.meaning.specs.Data.{Datum, datum, Members, member}
use Rattle.meaning.specs.Data

-- from a place up to another
pub record Span : Type 0 where
  pub start : ℕ
  pub end : ℕ

abbrev pub span : ℕ → ℕ → Span
span start end = record { start = start; end = end }

mutual
  pub data Block : Type 0 where
    block : (place : ℕ) (type : Option Span) (members : Entries) → Block

  pub data Entries : Type 0 where
    no_more : Entries
    entry : (name : Span) (content : PlacedContent) (more : Entries) → Entries

  pub data PlacedContent : Type 0 where
    string : (place : ℕ) (text : Span) → PlacedContent
    word : (place : ℕ) (text : Span) → PlacedContent
    inside : Block → PlacedContent

abbrev pub spelled_span : List ℕ → Span → List ℕ
spelled_span s x = part s x.start x.end

unfoldable mutual
  pub spelled_block : Block → List ℕ → Datum
  spelled_block (block p t ms) s = datum p (map (spelled_span s) t) (spelled_entries ms s)

  pub spelled_entries : Entries → List ℕ → Members
  spelled_entries no_more s = Data.no_more
  spelled_entries (entry w c more) s = member (spelled_span s w) (spelled_content c s) (spelled_entries more s)

  pub spelled_content : PlacedContent → List ℕ → Data.Content
  spelled_content (string p x) s = Data.string p (spelled_span s x)
  spelled_content (word p x) s = Data.word p (spelled_span s x)
  spelled_content (inside b) s = Data.block (spelled_block b s)
