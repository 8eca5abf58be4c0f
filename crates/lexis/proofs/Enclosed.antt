-- Strings have both their quotes and codes both their brackets. Assumes nothing.
use mathlib.Core.Path.{◌≡◌, refl}
use mathlib.Core.Logic.{◌≢◌}
use mathlib.Core.Bool.{Bool, true, false, not, ◌&&◌, ◌||◌, false≢true}
use mathlib.Core.List.{List, [], ◌∷◌}
use Prim.Native.Nat.{ℕ, ◌+◌, ◌≤◌}
use native.Mathlib.Omega.{arith}
use lib.Dec.{eqb, leb}
use lib.ListN.{length, drop}
use borrow.Author.Tests.{eqb-false, not-true}
use Rattle.lexis.specs.Bytes.{is, digit, small, capital, mark, string_byte}
use Rattle.lexis.specs.Text.{byte}
use Rattle.lexis.specs.Runs.{past, byte_at, same, shaped, starts_with}
use Rattle.lexis.specs.Blanks.{token_start}
use Rattle.lexis.specs.Spelling.{Literal, word_sort, mark_spellings, keywords, element_sign, booleans, date_pattern_spellings, time_pattern_spellings, code_start, date_shape}
use Rattle.lexis.specs.Tokens.{no_token, spelled, code_end, token_on, token_at, type_name, name, string, code}
use Rattle.lexis.specs.declared.Token.{Token}
use Rattle.lexis.proofs.Cases.{either, by_cond, and_left, and_right}
use Rattle.lexis.proofs.Places.{past_between, code-between}

-- the sorts of tokens that stand between two bytes of their own
abbrev pub enclosed : ℕ → Bool
enclosed sort = eqb sort string || eqb sort code

-- such a token has at least these two bytes
abbrev Two : Token → Type 0
Two t = enclosed t.sort ≡ true → t.start + 2 ≤ t.end

-- no spelling of a list is of such a sort
unfoldable others : List Literal → Bool
others [] = true
others (l ∷ ls) = not (enclosed l.sort) && others ls

other_first : (l : Literal) (ls : List Literal) → others (l ∷ ls) ≡ true → enclosed l.sort ≢ true
unfolding others
other_first l ls o e = false≢true (rw (not-true (enclosed l.sort) (and_left _ _ o)) at e)

other_rest : (l : Literal) (ls : List Literal) → others (l ∷ ls) ≡ true → others ls ≡ true
unfolding others
other_rest l ls o = and_right (not (enclosed l.sort)) _ o

spelled_two : (ls : List Literal) (at : ℕ) (bs : List ℕ) (t : Token) → others ls ≡ true → Two t
    → Two (spelled ls at bs t)
unfolding spelled
spelled_two [] at bs t o h = h
spelled_two (l ∷ ls) at bs t o h = either Two (starts_with l.spelling bs) (λ e. absurd (other_first l ls o e)) (spelled_two ls at bs t (other_rest l ls o) h)

word-other : (ls : List Literal) (w : List ℕ) (sort : ℕ) → others ls ≡ true → enclosed sort ≢ true
    → enclosed (word_sort ls w sort) ≢ true
unfolding word_sort
word-other [] w sort o h = h
word-other (l ∷ ls) w sort o h = either (λ x. enclosed x ≢ true) (same l.spelling w) (other_first l ls o) (word-other ls w sort (other_rest l ls o) h)

on_two : (s : List ℕ) (at : ℕ) → Two (token_on s at)
unfolding token_on others
on_two s at =
    let b = past_between string_byte (at + 1) (drop (at + 1) s) in
    let none : Two (no_token at) = λ e. absurd (false≢true e) in
    either Two (leb (length s) at) (λ e. absurd (false≢true e))
    (either Two (is capital (byte_at s at)) (spelled_two time_pattern_spellings at (drop at s) _ refl (λ e. absurd (word-other booleans _ type_name refl false≢true e)))
    (either Two (is small (byte_at s at)) (spelled_two date_pattern_spellings at (drop at s) _ refl (λ e. absurd (word-other keywords _ name refl false≢true e)))
    (either Two (is digit (byte_at s at)) (either Two (shaped date_shape (drop at s)) (λ e. absurd (false≢true e)) (λ e. absurd (false≢true e)))
    (either Two (is mark (byte_at s at))
    (either Two (eqb (byte_at s at) (byte "-") && is digit (byte_at s (at + 1))) (λ e. absurd (false≢true e)) (spelled_two mark_spellings at (drop at s) (no_token at) refl none))
    (either Two (eqb (byte_at s at) (byte "\"")) (either Two (eqb (byte_at s (past string_byte (at + 1) (drop (at + 1) s))) (byte "\"")) (λ e. omega arith) none)
    (either Two (eqb (byte_at s at) (byte "["))
    (either Two (starts_with code_start (drop at s))
    (by_cond Two (eqb (code_end false (at + 3) (drop (at + 3) s)) 0) (λ f. none) (λ f e. let k = code-between (drop (at + 3) s) false (at + 3) (eqb-false _ 0 f) in omega arith)) none)
    (spelled_two element_sign at (drop at s) (no_token at) refl none)))))))

pub token_two : (s : List ℕ) (from : ℕ) → enclosed (token_at s from).sort ≡ true
    → (token_at s from).start + 2 ≤ (token_at s from).end
unfolding token_at
token_two s from = on_two s (token_start s from)
