-- What the functions of this crate promise of their answers: a token asked for as a reading, and the places of it. Assumes nothing.
use Rattle.std.specs.Prelude.{◌≡◌, cond, List, ℕ, ◌≤◌, ◌<◌, eqb, length}
use Rattle.lexis.specs.Tokens.{text_end, unreadable}
use Rattle.lexis.specs.declared.Token.{Token}
use Rattle.refusals.specs.declared.Cause.{Cause}
use Rattle.refusals.specs.declared.Cause.TheVariants.{Unreadable, CannotFollow, EndsEarly}
use Rattle.refusals.specs.Reading.{Reading, refused, got}
use Rattle.refusals.specs.Refusals.{refusal}
use Rattle.refusals.specs.declared.Refusal.{Refusal}
use Rattle.std.specs.declared.result.Result.{Result}
use Rattle.std.specs.declared.result.Result.TheVariants.{Ok, Err}

-- why a token of a sort is a syntax fault
abbrev pub cause_of : ℕ → Cause
cause_of sort = cond (eqb sort text_end) EndsEarly (cond (eqb sort unreadable) Unreadable CannotFollow)

-- a token asked for as a reading
abbrev pub token_reading : Result Token Refusal → Reading Token
token_reading (Err x) = refused x
token_reading (Ok t) = got t t.end

-- what is answered of a token, where one of a sort is asked for
abbrev pub expected_of : Token → ℕ → Result Token Refusal
expected_of t sort = cond (eqb t.sort sort) (Ok t) (Err (refusal (cause_of t.sort) t.start))

-- a token taken from a place on lies in the text; one of a sort from 2 on has a byte
abbrev pub TokenPast : List ℕ → ℕ → ℕ → Result Token Refusal → Type 0
TokenPast s sort from (Err x) = Unit {0}
TokenPast s sort from (Ok t) =
    (from ≤ t.start) × (t.start ≤ t.end) × (t.end ≤ length s) × (1 < sort → t.start < t.end)

-- the answer is the reading, a token of the sort asked for from a place on, or a refusal
pub record ExpectIs (s : List ℕ) (sort from : ℕ) (reading : Reading Token) (r : Result Token Refusal) : Type 0 where
  pub is : token_reading r ≡ reading
  pub past : TokenPast s sort from r
