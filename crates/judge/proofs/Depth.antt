-- A data text's datum has at most the levels of blocks that are allowed: the levels left fall from block to block where it is read. Assumes nothing.
use mathlib.Core.Path.{◌≡◌}
use mathlib.Core.Bool.{not}
use Rattle.std.specs.Prelude.{Option, None, Some}
use mathlib.Core.List.{List, [], ◌∷◌}
use Prim.Native.Nat.{ℕ, zero, suc, ◌+◌}
use lib.Dec.{eqb, ltb}
use lib.ListN.{length}
use Rattle.lexis.specs.Spelling.{less, greater}
use Rattle.lexis.specs.Tokens.{text_end, name, spelling, inner}
use Rattle.lexis.specs.Tokens
use Rattle.lexis.specs.DataTokens.{data_token_at, open_round, word_run}
use Rattle.lexis.specs.declared.Token.{Token}
use Rattle.lexis.proofs.Cases.{either}
use Rattle.values.specs.Words.{good}
use Rattle.refusals.specs.Limits.{text_limit, string_limit}
use Rattle.refusals.specs.Reading.{got}
use Rattle.refusals.specs.Parsing.{Parse, parsed, and_then}
use Rattle.refusals.proofs.Parses.{Yields, then_yields, any_yields, yielded}
use Rattle.dadl.specs.Placed.{Span, Block, Entries, PlacedContent, inside, spelled_block, spelled_entries, spelled_content}
use Rattle.dadl.specs.Data.{expect_data, type_from, leaf_from, Down, typed, content_from, name_from, members, block_from, outermost, datum_alone, data_text, block_of}
use Rattle.judge_tape.specs.Clauses.Rows.{DatumWithin, MembersWithin, ContentWithin}

module _ (s : List ℕ) (levels : ℕ) where
  -- blocks, members and contents of at most so many levels, spelled out
  abbrev BlockIn : Block → ℕ → Type 0
  BlockIn b p = DatumWithin (spelled_block b s) levels

  abbrev EntriesIn : Entries → ℕ → Type 0
  EntriesIn ms p = MembersWithin (spelled_entries ms s) levels

  abbrev ContentIn : PlacedContent → ℕ → Type 0
  ContentIn c p = ContentWithin (spelled_content c s) levels

  -- a leaf has no level
  leaf_in : (place : ℕ) (t : Token) → Yields ContentIn (leaf_from s place t)
  unfolding leaf_from Yields ContentWithin spelled_content
  leaf_in place t =
      either (Yields ContentIn) (eqb t.sort Tokens.string)
      (either (Yields ContentIn) (ltb string_limit (length (inner s t))) tt (any_yields ContentIn (expect_data s greater t.end) _ (λ u p. tt)))
      (either (Yields ContentIn) (not (good (spelling s t))) tt (any_yields ContentIn (expect_data s greater t.end) _ (λ u p. tt)))

  module _ (down : Down)
      (below : (place : ℕ) (type : Option Span) (from : ℕ) → Yields BlockIn (down place type from)) where
    typed_in : (from : ℕ) → Yields BlockIn (typed s down from)
    unfolding typed
    typed_in from = any_yields BlockIn (type_from s from) _ (λ w p. any_yields BlockIn (expect_data s less p) _ (λ t q. below t.start (Some w) q))

    inside_in : (r : Parse Block) → Yields BlockIn r → Yields ContentIn (and_then r (λ d q. parsed (inside d) q))
    unfolding Yields ContentWithin spelled_content
    inside_in r h = then_yields ContentIn BlockIn r _ h (λ d q x. x)

    content_in_lem : (from : ℕ) → Yields ContentIn (content_from s down from)
    unfolding content_from Yields
    content_in_lem from =
        let t = data_token_at s from in
        let u = data_token_at s t.end in
        either (Yields ContentIn) (eqb t.sort open_round)
        (inside_in (typed s down t.end) (typed_in t.end))
        (either (Yields ContentIn) (eqb t.sort less)
        (either (Yields ContentIn) (eqb u.sort Tokens.string) (leaf_in t.start u)
        (either (Yields ContentIn) (eqb u.sort word_run) (leaf_in t.start u)
        (inside_in (down t.start None t.end) (below t.start None t.end))))
        tt)

    members_in : (fuel : ℕ) (seen : List (List ℕ)) (from : ℕ) → Yields EntriesIn (members s down fuel seen from)
    unfolding members Yields MembersWithin spelled_entries
    members_in zero seen from = tt
    members_in (suc fuel) seen from =
        let t = data_token_at s from in
        either (Yields EntriesIn) (eqb t.sort greater) tt
        (either (Yields EntriesIn) (eqb t.sort name)
        (any_yields EntriesIn (name_from s seen t) _ (λ w p.
        then_yields EntriesIn ContentIn (content_from s down p) _ (content_in_lem p) (λ x q h.
        then_yields EntriesIn EntriesIn (members s down fuel (spelling s t ∷ seen) q) _ (members_in fuel (spelling s t ∷ seen) q) (λ ms r k. (h, k)))))
        tt)

-- a block read with so many levels left has at most so many
block_in : (s : List ℕ) (levels place : ℕ) (type : Option Span) (from : ℕ)
    → Yields (BlockIn s levels) (block_from s levels place type from)
unfolding block_from Yields DatumWithin spelled_block
block_in s zero place type from = tt
block_in s (suc levels) place type from =
    then_yields (BlockIn s (suc levels)) (EntriesIn s levels) (members s (block_from s levels) (length s + 1) [] from) _
    (members_in s levels (block_from s levels) (λ p t f. block_in s levels p t f) (length s + 1) [] from) (λ ms p h. h)

-- so has the outermost block
outermost_in : (levels : ℕ) (s : List ℕ) → Yields (BlockIn s levels) (outermost levels s)
unfolding outermost
outermost_in levels s =
    let P = BlockIn s levels in
    let t = data_token_at s 0 in
    either (Yields P) (eqb t.sort open_round)
    (typed_in s levels (block_from s levels) (block_in s levels) t.end)
    (any_yields P (expect_data s less 0) _ (λ u p. block_in s levels u.start None p))

text_in : (levels : ℕ) (s : List ℕ) → Yields (BlockIn s levels) (data_text levels s)
unfolding data_text datum_alone Yields
text_in levels s =
    let P = BlockIn s levels in
    either (Yields P) (ltb text_limit (length s)) tt
    (then_yields P P (outermost levels s) _ (outermost_in levels s) (λ d p h. any_yields P (expect_data s text_end p) _ (λ t q. h)))

-- the block of a text that is read has at most so many levels
pub text_within : (levels : ℕ) (s : List ℕ) (b : Block) (end : ℕ) → block_of levels s ≡ got b end
    → DatumWithin (spelled_block b s) levels
unfolding block_of
text_within levels s b end e = yielded (BlockIn s levels) (data_text levels s) b end (text_in levels s) e
