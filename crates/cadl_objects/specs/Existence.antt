-- Existence. Document 01, 'Constraint text': "optional `existence matches {` `0`, `1`, `0..0`, `0..1` or `1..1` `}`"; "`0` is 0..0, `1` is 1..1; no existence
-- means 1..1". Assumes nothing.
use Rattle.std.specs.Prelude.{Bool, cond, ◌&&◌, List, ℕ, eqb}
use Rattle.lexis.specs.Text.{bytes}
use Rattle.lexis.specs.Runs.{same}
use Rattle.lexis.specs.Spelling.{matches, existence, open_brace, close_brace, dots}
use Rattle.lexis.specs.Tokens.{token_at, integer, spelling}
use Rattle.lexis.specs.declared.Token.{Token}
use Rattle.meaning.specs.Constraints.{prohibited, optional, required}
use Rattle.refusals.specs.Reading.{Reading, got, read_then}
use Rattle.refusals.specs.Expecting.{expect, syntax_fault}

-- `matches {`
unfoldable pub opening : List ℕ → ℕ → Reading Token
opening s from = read_then (expect s matches from) (λ t p. expect s open_brace p)

abbrev pub is_zero : List ℕ → Token → Bool
is_zero s t = eqb t.sort integer && same (bytes "0") (spelling s t)

abbrev pub is_one : List ℕ → Token → Bool
is_one s t = eqb t.sort integer && same (bytes "1") (spelling s t)

-- behind `0`: nothing more, `..0` or `..1`
unfoldable pub from_nought : List ℕ → ℕ → Reading ℕ
from_nought s from =
    let t = token_at s from in
    let u = token_at s t.end in
    cond (eqb t.sort dots)
    (cond (is_zero s u) (got prohibited u.end) (cond (is_one s u) (got optional u.end) (syntax_fault u)))
    (got prohibited from)

-- behind `1`: nothing more or `..1`
unfoldable pub from_one : List ℕ → ℕ → Reading ℕ
from_one s from =
    let t = token_at s from in
    let u = token_at s t.end in
    cond (eqb t.sort dots) (cond (is_one s u) (got required u.end) (syntax_fault u)) (got required from)

-- what stands between the braces
unfoldable pub bounds : List ℕ → ℕ → Reading ℕ
bounds s from =
    let t = token_at s from in
    cond (is_zero s t) (from_nought s t.end) (cond (is_one s t) (from_one s t.end) (syntax_fault t))

-- the existence from a place behind a NAME on, where there is one
unfoldable pub existence_from : List ℕ → ℕ → Reading ℕ
existence_from s from =
    let t = token_at s from in
    cond (eqb t.sort existence)
    (read_then (opening s t.end)
    (λ u p. read_then (bounds s p) (λ e q. read_then (expect s close_brace q) (λ v r. got e r))))
    (got required from)
