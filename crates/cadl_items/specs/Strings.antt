-- Lists of strings. Document 01, 'Constraint text': "string: `\"`, bytes 20 to 7E hex except `\"` and `\\`, `\"`"; "items by comma"; 'Numbers of refusal',
-- 4, 7, 8 and 9 at the string. Its bytes are kept without the quotes. Assumes nothing.
use Rattle.std.specs.Prelude.{Bool, true, false, cond, ◌&&◌, List, [], ◌∷◌, ℕ, zero, suc, ◌+◌, eqb, ltb, length}
use Rattle.lexis.specs.Runs.{listed}
use Rattle.lexis.specs.Spelling.{comma}
use Rattle.lexis.specs.Tokens.{token_at, string, inner}
use Rattle.lexis.specs.declared.Token.{Token}
use Rattle.refusals.specs.Limits.{record_limit, string_limit}
use Rattle.refusals.specs.declared.Cause.TheVariants.{EndsEarly, TooLong, TooManyItems, TooManyRecords, Overlap}
use Rattle.refusals.specs.Refusals.{refusal}
use Rattle.refusals.specs.Parsing.{Parse, stopped, parsed, and_then, soundly, noting, wanted}
use Rattle.meaning.specs.Constraints.{Text}

-- a string, which may be too long
unfoldable pub start_string : List ℕ → ℕ → Parse Token
start_string s from =
    and_then (wanted s string from)
    (λ t p. noting (ltb string_limit (length (inner s t))) TooLong t.start (parsed t p))

-- behind a string: a comma and more strings, or the list's end
abbrev pub go_on_strings : List ℕ → Text → (ℕ → Parse (List Text)) → ℕ → Parse (List Text)
go_on_strings s x more p =
    let t = token_at s p in
    cond (eqb t.sort comma) (and_then (more t.end) (λ l q. parsed (x ∷ l) q)) (parsed (x ∷ []) p)

-- the strings from a place on, given the next record's number and the strings before them
abbrev pub Strings : Type 0
Strings = ℕ → List (List ℕ) → ℕ → Parse (List Text)

-- a string, which may be one too many, and those behind it: one that is too long equals no other
abbrev pub string_by : List ℕ → Bool → Strings → Strings
string_by s full more number seen from =
    soundly (start_string s from) (λ short t p.
    noting full TooManyItems t.start
    (noting (eqb number record_limit) TooManyRecords t.start
    (noting (short && listed (inner s t) seen) Overlap t.start
    (go_on_strings s (record { number = number; text = inner s t }) (more (number + 1) (inner s t ∷ seen)) p))))

-- strings behind those that are allowed; `fuel` bounds how many, and its end, told behind the text's end, is no fault of any text
unfoldable pub further_strings : List ℕ → ℕ → Strings
further_strings s zero number seen from = stopped (refusal EndsEarly (length s + 1))
further_strings s (suc fuel) number seen from = string_by s false (further_strings s fuel) number seen from

-- strings of which so many are allowed; the first that is not is a fault
unfoldable pub strings : List ℕ → ℕ → Strings
strings s zero number seen from = string_by s true (further_strings s (length s + 1)) number seen from
strings s (suc left) number seen from = string_by s false (strings s left) number seen from
