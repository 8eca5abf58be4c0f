-- One token after another. Document 01, 'Numbers of refusal', 2: "first token that can't follow, or unreadable", at the token; "text end is a token".
-- Assumes nothing.
use Rattle.std.specs.Prelude.{cond, List, ℕ, eqb}
use Rattle.lexis.specs.Tokens.{token_at, text_end, unreadable}
use Rattle.lexis.specs.declared.Token.{Token}
use Rattle.refusals.specs.declared.Cause.{Cause}
use Rattle.refusals.specs.declared.Cause.TheVariants.{Unreadable, CannotFollow, EndsEarly}
use Rattle.refusals.specs.Reading.{Reading, got, refuse}

-- why a token is a syntax fault
abbrev pub syntax_cause : Token → Cause
syntax_cause t = cond (eqb t.sort text_end) EndsEarly (cond (eqb t.sort unreadable) Unreadable CannotFollow)

abbrev pub syntax_fault : {A : Type 0} → Token → Reading A
syntax_fault t = refuse (syntax_cause t) t.start

-- a token, where one of a sort is asked for
abbrev pub taken : Token → ℕ → Reading Token
taken t sort = cond (eqb t.sort sort) (got t t.end) (syntax_fault t)

-- a token of constraint text of the sort asked for
unfoldable pub expect : List ℕ → ℕ → ℕ → Reading Token
expect s sort from = taken (token_at s from) sort
