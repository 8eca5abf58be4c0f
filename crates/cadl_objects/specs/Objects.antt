-- Objects and attributes. Document 01, 'Constraint text': "object: TYPE, optional [code], `matches {`, then `*` or one or more attributes, `}`"; "attribute:
-- NAME, optional `existence matches {` .. `matches {`, then `*`, one object or one leaf, `}`"; 'Numbers of refusal', 2, 3, 4 and 8 at the TYPE, 4 at the code,
-- 2, 4, 8 and 9 at the NAME; document 02, 1: "Where a leaf may stand, a token such as Pd, a TYPE too, is the pattern exactly when `}` .. follows". Assumes nothing.
use Rattle.std.specs.Prelude.{cond, List, [], ◌∷◌, ℕ, zero, suc, ◌+◌, eqb, ltb, length}
use Rattle.lexis.specs.Runs.{listed}
use Rattle.lexis.specs.Spelling.{close_brace, star}
use Rattle.lexis.specs.Tokens.{token_at, content_token_at, type_name, name, code, spelling, inner}
use Rattle.lexis.specs.declared.Token.{Token}
use Rattle.refusals.specs.Limits.{record_limit, name_limit, code_limit}
use Rattle.refusals.specs.declared.Cause.TheVariants.{EndsEarly, TooDeep, TooLong, TooManyRecords, RepeatedName}
use Rattle.refusals.specs.Refusals.{refusal}
use Rattle.refusals.specs.Parsing.{Parse, stopped, parsed, and_then, noting, as_read, wanted}
use Rattle.meaning.specs.Constraints.{Object, object, AttributeHead, Attributes, no_more, attribute, Value, any, nested, leaf}
use Rattle.cadl_items.specs.Leaves
use Rattle.meaning.specs.Counting.{value_records}
use Rattle.cadl_objects.specs.Existence.{opening, existence_from}

-- a TYPE that starts an object, where so many levels are left; `next` is the next record's number
unfoldable pub object_type : List ℕ → ℕ → ℕ → ℕ → Parse Token
object_type s levels next from =
    and_then (wanted s type_name from) (λ t p.
    noting (eqb levels 0) TooDeep t.start
    (noting (ltb name_limit (length (spelling s t))) TooLong t.start
    (noting (eqb next record_limit) TooManyRecords t.start
    (parsed t p))))

-- a code without its brackets, empty where there is none
unfoldable pub object_code : List ℕ → ℕ → Parse (List ℕ)
object_code s from =
    let t = token_at s from in
    cond (eqb t.sort code)
    (noting (ltb code_limit (length (inner s t))) TooLong t.start
    (parsed (inner s t) t.end))
    (parsed [] from)

-- a NAME that starts an attribute; `seen` are the names before it in its object
unfoldable pub attribute_name : List ℕ → List (List ℕ) → ℕ → ℕ → Parse Token
attribute_name s seen next from =
    and_then (wanted s name from) (λ t p.
    noting (ltb name_limit (length (spelling s t))) TooLong t.start
    (noting (eqb next record_limit) TooManyRecords t.start
    (noting (listed (spelling s t) seen) RepeatedName t.start
    (parsed t p))))

-- what stands between an attribute's braces, given how an object one level down is parsed
abbrev pub value : List ℕ → (ℕ → ℕ → Parse Object) → ℕ → ℕ → Parse Value
value s down next from =
    let t = content_token_at s from in
    cond (eqb t.sort star) (parsed any t.end)
    (cond (eqb t.sort type_name) (and_then (down next from) (λ o p. parsed (nested o) p))
    (and_then (Leaves.leaf s next from) (λ l p. parsed (leaf l) p)))

-- an attribute that was read
pub record Attribute : Type 0 where
  pub existence : ℕ
  pub name : List ℕ
  pub value : Value

-- one attribute
unfoldable pub attribute_from : List ℕ → (ℕ → ℕ → Parse Object) → List (List ℕ) → ℕ → ℕ → Parse Attribute
attribute_from s down seen next from =
    and_then (attribute_name s seen next from) (λ t p.
    and_then (as_read (existence_from s p)) (λ e q.
    and_then (as_read (opening s q)) (λ u r.
    and_then (value s down (next + 1) r) (λ v x.
    and_then (wanted s close_brace x) (λ w y.
    parsed (record { existence = e; name = spelling s t; value = v }) y)))))

-- the next record's number behind an attribute
abbrev pub past_attribute : ℕ → Attribute → ℕ
past_attribute next a = next + 1 + value_records a.value

-- the head of an attribute whose record has a number
abbrev pub head_of : ℕ → Attribute → AttributeHead
head_of next a = record { number = next; existence = a.existence; name = a.name }

-- behind an attribute: the object's `}`, or more attributes
abbrev pub go_on_attributes : List ℕ → ℕ → Attribute → (ℕ → Parse Attributes) → ℕ → Parse Attributes
go_on_attributes s next a more p =
    let t = token_at s p in
    cond (eqb t.sort close_brace) (parsed (attribute (head_of next a) a.value no_more) t.end)
    (and_then (more p) (λ xs q. parsed (attribute (head_of next a) a.value xs) q))

-- one or more attributes and the object's `}`; `fuel` bounds how many, and its end, told behind the text's end, is no fault of any text
unfoldable pub attributes : List ℕ → (ℕ → ℕ → Parse Object) → ℕ → List (List ℕ) → ℕ → ℕ → Parse Attributes
attributes s down zero seen next from = stopped (refusal EndsEarly (length s + 1))
attributes s down (suc fuel) seen next from =
    and_then (attribute_from s down seen next from) (λ a p.
    go_on_attributes s next a (attributes s down fuel (a.name ∷ seen) (past_attribute next a)) p)

-- what stands between an object's braces, and the `}`
abbrev pub body : List ℕ → (ℕ → ℕ → Parse Object) → ℕ → ℕ → Parse Attributes
body s down next from =
    let t = token_at s from in
    cond (eqb t.sort star) (and_then (wanted s close_brace t.end) (λ u p. parsed no_more p))
    (attributes s down (length s + 1) [] next from)

-- an object from its TYPE on, given how an object one level down is parsed
abbrev pub object_by : List ℕ → ℕ → (ℕ → ℕ → Parse Object) → ℕ → ℕ → Parse Object
object_by s levels down next from =
    and_then (object_type s levels next from) (λ t p.
    and_then (object_code s p) (λ k q.
    and_then (as_read (opening s q)) (λ u r.
    and_then (body s down (next + 1) r) (λ xs x.
    parsed (object (record { number = next; type = spelling s t; code = k }) xs) x))))

-- an object below the levels that are allowed; `fuel` bounds how many levels there are, and its end is no fault of any text
unfoldable pub deeper_object : List ℕ → ℕ → ℕ → ℕ → Parse Object
deeper_object s zero next from = stopped (refusal EndsEarly (length s + 1))
deeper_object s (suc fuel) next from = object_by s 1 (deeper_object s fuel) next from

-- an object, of at most so many levels; the first level that is not allowed is a fault
unfoldable pub object_from : List ℕ → ℕ → ℕ → ℕ → Parse Object
object_from s zero next from = object_by s 0 (deeper_object s (length s + 1)) next from
object_from s (suc levels) next from = object_by s (suc levels) (object_from s levels) next from
