-- Blanks and comments. Document 01, 'Constraint text': "space, tab, CR, LF and `--` with any bytes up to the next CR or LF separate";
-- 'Data text': "same blanks and comments (a comment starts only where a token may)". Assumes nothing.
use Rattle.std.specs.Prelude.{Bool, true, false, cond, not, ◌&&◌, ◌||◌, List, [], ◌∷◌, ℕ, ◌+◌, eqb, get_or, drop}
use Rattle.lexis.specs.Text.{byte}
use Rattle.lexis.specs.Bytes.{is, blank, line_end}

-- `--` stands here: b, and then the bytes bs
abbrev pub opens_comment : ℕ → List ℕ → Bool
opens_comment b bs = eqb b (byte "-") && eqb (get_or bs 0 0) (byte "-")

-- the first place from `at` on, of the bytes from there, where a token may start; `inside` says that a comment is open
unfoldable pub skip : Bool → ℕ → List ℕ → ℕ
skip true at [] = at
skip false at [] = at
skip true at (b ∷ bs) = skip (not (line_end b)) (at + 1) bs
skip false at (b ∷ bs) =
    let more = skip (opens_comment b bs) (at + 1) bs in
    cond (is blank b || opens_comment b bs) more at

-- where the next token starts, from a place of the text on
abbrev pub token_start : List ℕ → ℕ → ℕ
token_start s from = skip false from (drop from s)
