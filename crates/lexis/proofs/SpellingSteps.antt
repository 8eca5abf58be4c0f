-- The steps of telling the tokens that are spelled in one way: a lemma for each way out. Assumes nothing.
use mathlib.Core.Path.{◌≡◌, sym, ◌∙◌}
use mathlib.Core.Bool.{false}
use mathlib.Core.List.{List, [], ◌∷◌}
use Prim.Native.Nat.{ℕ, ◌+◌, ◌<◌}
use lib.Dec.{eqb}
use lib.ListN.{length, drop}
use borrow.Author.Tests.{ne_eqb}
use Rattle.lexis.specs.Text.{bytes}
use Rattle.lexis.specs.Runs.{byte_at, starts_with}
use Rattle.lexis.specs.Spelling.{literal_of, mark_spellings, date_pattern_spellings, time_pattern_spellings}
use Rattle.lexis.specs.Tokens.{token, no_token, spelled}
use Rattle.lexis.specs.DataTokens.{data_marks}
use Rattle.lexis.specs.declared.Token.{Token}
use Rattle.lexis.proofs.Places.{drop_in}

-- a byte of the text decides
module _ (s : List ℕ) (at : ℕ) (h : at < length s) where
  other : (w : ℕ) → (byte_at s at ≡ w → ⊥) → eqb w (byte_at s at) ≡ false
  other w n = ne_eqb w (byte_at s at) (λ e. n (sym e))

  pub mark_open : byte_at s at ≡ 123 → token 12 at (at + 1) ≡ spelled mark_spellings at (drop at s) (no_token at)
  unfolding spelled starts_with
  mark_open e = rw (drop_in s at h, e)

  pub mark_close : byte_at s at ≡ 125 → token 13 at (at + 1) ≡ spelled mark_spellings at (drop at s) (no_token at)
  unfolding spelled starts_with
  mark_close e = rw (drop_in s at h, e)

  pub mark_comma : byte_at s at ≡ 44 → token 14 at (at + 1) ≡ spelled mark_spellings at (drop at s) (no_token at)
  unfolding spelled starts_with
  mark_comma e = rw (drop_in s at h, e)

  pub mark_star : byte_at s at ≡ 42 → token 15 at (at + 1) ≡ spelled mark_spellings at (drop at s) (no_token at)
  unfolding spelled starts_with
  mark_star e = rw (drop_in s at h, e)

  pub mark_bar : byte_at s at ≡ 124 → token 16 at (at + 1) ≡ spelled mark_spellings at (drop at s) (no_token at)
  unfolding spelled starts_with
  mark_bar e = rw (drop_in s at h, e)

  pub mark_dots : byte_at s at ≡ 46 → spelled (literal_of 17 (bytes "..") ∷ []) at (drop at s) (no_token at)
      ≡ spelled mark_spellings at (drop at s) (no_token at)
  unfolding spelled starts_with
  mark_dots e = rw (drop_in s at h, e)

  pub mark_less : byte_at s at ≡ 60 → spelled (literal_of 20 (bytes "<=") ∷ []) at (drop at s) (token 18 at (at + 1))
      ≡ spelled mark_spellings at (drop at s) (no_token at)
  unfolding spelled starts_with
  mark_less e = rw (drop_in s at h, e)

  pub mark_greater : (t u : Token) → byte_at s at ≡ 62 → u ≡ token 19 at (at + 1)
      → t ≡ spelled (literal_of 21 (bytes ">=") ∷ []) at (drop at s) u → t ≡ spelled mark_spellings at (drop at s) (no_token at)
  unfolding spelled starts_with
  mark_greater t u e p q = q ∙ rw (p, drop_in s at h, e)

  pub mark_plus_minus : byte_at s at ≡ 43 → spelled (literal_of 22 (bytes "+/-") ∷ []) at (drop at s) (no_token at)
      ≡ spelled mark_spellings at (drop at s) (no_token at)
  unfolding spelled starts_with
  mark_plus_minus e = rw (drop_in s at h, e)

  pub mark_none : (byte_at s at ≡ 123 → ⊥) → (byte_at s at ≡ 125 → ⊥) → (byte_at s at ≡ 44 → ⊥) → (byte_at s at ≡ 42 → ⊥)
      → (byte_at s at ≡ 124 → ⊥) → (byte_at s at ≡ 46 → ⊥) → (byte_at s at ≡ 60 → ⊥) → (byte_at s at ≡ 62 → ⊥)
      → (byte_at s at ≡ 43 → ⊥) → no_token at ≡ spelled mark_spellings at (drop at s) (no_token at)
  unfolding spelled starts_with
  mark_none a b c d e i f g j = rw (drop_in s at h, other 123 a, other 125 b, other 44 c, other 42 d, other 124 e, other 60 f, other 62 g, other 46 i, other 43 j)

  pub data_less : byte_at s at ≡ 60 → token 18 at (at + 1) ≡ spelled data_marks at (drop at s) (no_token at)
  unfolding spelled starts_with
  data_less e = rw (drop_in s at h, e)

  pub data_greater : byte_at s at ≡ 62 → token 19 at (at + 1) ≡ spelled data_marks at (drop at s) (no_token at)
  unfolding spelled starts_with
  data_greater e = rw (drop_in s at h, e)

  pub data_equals : byte_at s at ≡ 61 → token 23 at (at + 1) ≡ spelled data_marks at (drop at s) (no_token at)
  unfolding spelled starts_with
  data_equals e = rw (drop_in s at h, e)

  pub data_open : byte_at s at ≡ 40 → token 24 at (at + 1) ≡ spelled data_marks at (drop at s) (no_token at)
  unfolding spelled starts_with
  data_open e = rw (drop_in s at h, e)

  pub data_close : byte_at s at ≡ 41 → token 25 at (at + 1) ≡ spelled data_marks at (drop at s) (no_token at)
  unfolding spelled starts_with
  data_close e = rw (drop_in s at h, e)

  pub data_none : (byte_at s at ≡ 60 → ⊥) → (byte_at s at ≡ 62 → ⊥) → (byte_at s at ≡ 61 → ⊥) → (byte_at s at ≡ 40 → ⊥)
      → (byte_at s at ≡ 41 → ⊥) → no_token at ≡ spelled data_marks at (drop at s) (no_token at)
  unfolding spelled starts_with
  data_none a b c d e = rw (drop_in s at h, other 60 a, other 62 b, other 61 c, other 40 d, other 41 e)

  -- no pattern begins with another byte
  pub date_other : (t : Token) → (byte_at s at ≡ 121 → ⊥) → t ≡ spelled date_pattern_spellings at (drop at s) t
  unfolding spelled starts_with
  date_other t n = rw (drop_in s at h, other 121 n)

  pub time_other : (t : Token) → (byte_at s at ≡ 84 → ⊥) → t ≡ spelled time_pattern_spellings at (drop at s) t
  unfolding spelled starts_with
  time_other t n = rw (drop_in s at h, other 84 n)

pub ruleset marks = (mark_open, mark_close, mark_comma, mark_star, mark_bar, mark_dots, mark_less, mark_greater, mark_plus_minus, mark_none)

pub ruleset of_data = (data_less, data_greater, data_equals, data_open, data_close, data_none)
