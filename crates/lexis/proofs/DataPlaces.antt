-- Places of data text's tokens. Assumes nothing.
use mathlib.Core.Path.{◌≡◌}
use mathlib.Core.Bool.{true}
use mathlib.Core.List.{List}
use Prim.Native.Nat.{ℕ, ◌≤◌, ◌<◌}
use native.Mathlib.Omega.{arith}
use lib.Dec.{eqb, leb}
use lib.ListN.{length, drop}
use borrow.Author.Tests.{leb-false}
use Rattle.lexis.specs.Text.{byte}
use Rattle.lexis.specs.Bytes.{run_byte}
use Rattle.lexis.specs.Runs.{past, byte_at}
use Rattle.lexis.specs.Blanks.{token_start}
use Rattle.lexis.specs.Tokens.{no_token}
use Rattle.lexis.specs.DataTokens.{data_marks, run, run_sort, type_sort, data_token_on, data_token_at, type_token_at}
use Rattle.lexis.proofs.Places.{Spans, Found, spans_cond, none_spans, end_spans, to_spans, spelled_spans, quoted_spans, run-between, run_strict, start_between, found_by}

module _ (sorted : List ℕ → ℕ → ℕ) (s : List ℕ) where
  run_spans : (at : ℕ) → at < length s → run_byte (byte_at s at) ≡ true → Spans s at (run sorted s at)
  run_spans at h e =
      let b = run-between s at (omega arith) run_byte in
      to_spans s at _ (past run_byte at (drop at s)) (run_strict s at run_byte h e) b.most

  pub data_spans : (at : ℕ) → at ≤ length s → Spans s at (data_token_on sorted s at)
  unfolding data_token_on
  data_spans at h =
      spans_cond s at (leb (length s) at) _ _ (λ e. end_spans s at h) (λ e.
      let l : at < length s = leb-false _ _ e in
      spans_cond s at (run_byte (byte_at s at)) _ _ (run_spans at l) (λ f.
      spans_cond s at (eqb (byte_at s at) (byte "\"")) _ _ (λ g. quoted_spans s at l)
      (λ g. spelled_spans s at data_marks (no_token at) h (omega arith) (none_spans s at h))))

  pub data_found : (from : ℕ) → from ≤ length s → Found s from (data_token_on sorted s (token_start s from))
  data_found from h =
      let b = start_between s from h in
      found_by s from _ h (data_spans (token_start s from) b.most)

pub data_token-found : (s : List ℕ) (from : ℕ) → from ≤ length s → Found s from (data_token_at s from)
unfolding data_token_at
data_token-found s from h = data_found run_sort s from h

pub type_token-found : (s : List ℕ) (from : ℕ) → from ≤ length s → Found s from (type_token_at s from)
unfolding type_token_at
type_token-found s from h = data_found type_sort s from h
