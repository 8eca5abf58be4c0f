-- Why a data text is refused: each fault that parsing it finds is 1 to 5 or 9. Assumes nothing.
use mathlib.Core.Bool.{not}
use Rattle.std.specs.Prelude.{Option, None, Some}
use mathlib.Core.List.{List, [], ◌∷◌}
use Prim.Native.Nat.{ℕ, zero, suc, ◌+◌}
use lib.Dec.{eqb, ltb}
use lib.ListN.{length}
use Rattle.lexis.specs.Runs.{listed}
use Rattle.lexis.specs.Spelling.{less, greater}
use Rattle.lexis.specs.Tokens.{spelling, inner, type_name, name, text_end}
use Rattle.lexis.specs.Tokens
use Rattle.lexis.specs.DataTokens.{data_token_at, type_token_at, equals, open_round, close_round, word_run}
use Rattle.lexis.specs.declared.Token.{Token}
use Rattle.values.specs.Words.{good}
use Rattle.refusals.specs.Limits.{text_limit, name_limit, string_limit}
use Rattle.refusals.specs.Numbers.{OfDataText}
use Rattle.refusals.specs.Numbers
use Rattle.refusals.specs.Parsing.{Parse, parsed, and_then}
use Rattle.refusals.specs.declared.Cause.TheVariants.{TextTooLong, TooLong, BadWord, RepeatedName}
use Rattle.refusals.proofs.FaultCauses.{FaultsOf, of_stopped, of_flawed, of_parsed, faults_cond, faults-noting, faults_then, syntax_of_data, taken_of_data}
use Rattle.dadl.specs.Placed.{Span, Block, string, word, inside}
use Rattle.dadl.specs.Data.{expect_data, span_of, inner_span, type_from, leaf_from, Down, typed, content_from, name_from, members, block_by, deeper_block, block_from, outermost, datum_alone, data_text}

-- what blocks inside are parsed by has such faults
abbrev DownOf : Down → Type 0
DownOf down = (place : ℕ) (type : Option Span) (from : ℕ) → FaultsOf OfDataText (down place type from)

module _ (s : List ℕ) where
  expect_of : (sort from : ℕ) → FaultsOf OfDataText (expect_data s sort from)
  unfolding expect_data
  expect_of sort from = taken_of_data (data_token_at s from) sort

  -- a token of the sort asked for, and what it ends
  ends_of : {A : Type 0} (sort from : ℕ) (a : A)
      → FaultsOf OfDataText (and_then (expect_data s sort from) (λ u p. parsed a p))
  ends_of sort from a = faults_then OfDataText (expect_data s sort from) _ (expect_of sort from) (λ u p. of_parsed)

  type_of_lem : (from : ℕ) → FaultsOf OfDataText (type_from s from)
  unfolding type_from
  type_of_lem from =
      let t = type_token_at s from in
      faults_cond OfDataText (eqb t.sort type_name) _ _
      (faults-noting OfDataText (ltb name_limit (length (spelling s t))) TooLong t.start _ Numbers.too_long (ends_of close_round t.end (span_of t)))
      (syntax_of_data t)

  leaf_of_lem : (place : ℕ) (t : Token) → FaultsOf OfDataText (leaf_from s place t)
  unfolding leaf_from
  leaf_of_lem place t =
      faults_cond OfDataText (eqb t.sort Tokens.string) _ _
      (faults-noting OfDataText (ltb string_limit (length (inner s t))) TooLong t.start _ Numbers.too_long (ends_of greater t.end (string place (inner_span t))))
      (faults-noting OfDataText (not (good (spelling s t))) BadWord t.start _ Numbers.bad_word (ends_of greater t.end (word place (span_of t))))

  name_of : (seen : List (List ℕ)) (t : Token) → FaultsOf OfDataText (name_from s seen t)
  unfolding name_from
  name_of seen t =
      faults-noting OfDataText (ltb name_limit (length (spelling s t))) TooLong t.start _ Numbers.too_long
      (faults-noting OfDataText (listed (spelling s t) seen) RepeatedName t.start _ Numbers.repeated_name (ends_of equals t.end (span_of t)))

  module _ (down : Down) (h : DownOf down) where
    typed_of : (from : ℕ) → FaultsOf OfDataText (typed s down from)
    unfolding typed
    typed_of from =
        faults_then OfDataText (type_from s from) _ (type_of_lem from) (λ w p.
        faults_then OfDataText (expect_data s less p) _ (expect_of less p) (λ t q. h t.start (Some w) q))

    -- a block is what a member holds
    inside_of : (w : Parse Block) → FaultsOf OfDataText w → FaultsOf OfDataText (and_then w (λ d q. parsed (inside d) q))
    inside_of w k = faults_then OfDataText w _ k (λ d q. of_parsed)

    content_of_lem : (from : ℕ) → FaultsOf OfDataText (content_from s down from)
    unfolding content_from
    content_of_lem from =
        let t = data_token_at s from in
        let u = data_token_at s t.end in
        faults_cond OfDataText (eqb t.sort open_round) _ _ (inside_of (typed s down t.end) (typed_of t.end))
        (faults_cond OfDataText (eqb t.sort less) _ _
        (faults_cond OfDataText (eqb u.sort Tokens.string) _ _ (leaf_of_lem t.start u)
        (faults_cond OfDataText (eqb u.sort word_run) _ _ (leaf_of_lem t.start u)
        (inside_of (down t.start None t.end) (h t.start None t.end))))
        (syntax_of_data t))

    members_of_lem : (fuel : ℕ) (seen : List (List ℕ)) (from : ℕ) → FaultsOf OfDataText (members s down fuel seen from)
    unfolding members
    members_of_lem zero seen from = of_stopped Numbers.ends_early
    members_of_lem (suc fuel) seen from =
        let t = data_token_at s from in
        faults_cond OfDataText (eqb t.sort greater) _ _ of_parsed
        (faults_cond OfDataText (eqb t.sort name) _ _
        (faults_then OfDataText (name_from s seen t) _ (name_of seen t) (λ w p.
        faults_then OfDataText (content_from s down p) _ (content_of_lem p) (λ x q.
        faults_then OfDataText (members s down fuel (spelling s t ∷ seen) q) _ (members_of_lem fuel (spelling s t ∷ seen) q) (λ ms r. of_parsed))))
        (syntax_of_data t))

    block_of : DownOf (block_by s down)
    block_of place type from = faults_then OfDataText (members s down (length s + 1) [] from) _ (members_of_lem (length s + 1) [] from) (λ ms p. of_parsed)

  deeper_of : (fuel : ℕ) → DownOf (deeper_block s fuel)
  unfolding deeper_block
  deeper_of zero place type from = of_stopped Numbers.ends_early
  deeper_of (suc fuel) place type from = block_of (deeper_block s fuel) (deeper_of fuel) place type from

  blocks_of : (levels : ℕ) → DownOf (block_from s levels)
  unfolding block_from
  blocks_of zero place type from = of_flawed Numbers.too_deep (deeper_of (length s + 1) place type from)
  blocks_of (suc levels) place type from = block_of (block_from s levels) (blocks_of levels) place type from

  outermost_of : (levels : ℕ) → FaultsOf OfDataText (outermost levels s)
  unfolding outermost
  outermost_of levels =
      let t = data_token_at s 0 in
      faults_cond OfDataText (eqb t.sort open_round) _ _
      (typed_of (block_from s levels) (blocks_of levels) t.end)
      (faults_then OfDataText (expect_data s less 0) _ (expect_of less 0) (λ u p. blocks_of levels u.start None p))

  -- each fault of a data text
  pub text_of : (levels : ℕ) → FaultsOf OfDataText (data_text levels s)
  unfolding data_text datum_alone
  text_of levels =
      faults-noting OfDataText (ltb text_limit (length s)) TextTooLong text_limit _ Numbers.text_too_long
      (faults_then OfDataText (outermost levels s) _ (outermost_of levels) (λ d p. ends_of text_end p d))
