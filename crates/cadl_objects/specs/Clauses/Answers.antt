-- What the functions of this crate promise of their answers: each answer as the reading of the definitions, and bounds. Assumes nothing.
use Rattle.std.specs.Prelude.{◌≡◌, cond, List, ℕ, ◌-◌, ◌≤◌, ◌<◌, eqb, ltb, length}
use Rattle.lexis.specs.Runs.{part}
use Rattle.lexis.specs.Spelling.{close_brace}
use Rattle.lexis.specs.Tokens.{spelling}
use Rattle.lexis.specs.declared.Token.{Token}
use Rattle.refusals.specs.Limits.{record_limit, name_limit}
use Rattle.refusals.specs.Reading.{Reading, refused, got, read_then}
use Rattle.refusals.specs.Refusals.{refusal}
use Rattle.refusals.specs.Expecting.{syntax_cause, expect}
use Rattle.refusals.specs.Clauses.Answers.{token_reading}
use Rattle.refusals.specs.declared.Cause.TheVariants.{TooLong, TooManyRecords}
use Rattle.refusals.specs.declared.Refusal.{Refusal}
use Rattle.std.specs.declared.result.Result.{Result}
use Rattle.std.specs.declared.result.Result.TheVariants.{Ok, Err}
use Rattle.cadl_objects.specs.Existence.{opening, is_zero, is_one, bounds, existence_from}
use Rattle.cadl_objects.specs.Clauses.Told.{object_type, object_code, attribute_name}
use Rattle.cadl_objects.specs.declared.existence.Existence.{Existence}
use Rattle.cadl_objects.specs.declared.heads.Code.{Code}
use Rattle.cadl_objects.specs.declared.heads.ObjectHead.{ObjectHead}
use Rattle.cadl_objects.specs.declared.heads.AttributeHead.{AttributeHead}

-- the bound that a token spells
abbrev pub bound_of : List ℕ → Token → Result ℕ Refusal
bound_of s t = cond (is_zero s t) (Ok 0) (cond (is_one s t) (Ok 1) (Err (refusal (syntax_cause t) t.start)))

-- an existence as a reading
abbrev pub existence_reading : Result Existence Refusal → Reading ℕ
existence_reading (Err x) = refused x
existence_reading (Ok e) = got e.flag e.next

abbrev pub ExistencePast : List ℕ → ℕ → Result Existence Refusal → Type 0
ExistencePast s from (Err x) = Unit {0}
ExistencePast s from (Ok e) = (e.flag ≤ 2) × (from ≤ e.next) × (e.next ≤ length s)

pub record ExistenceIs (s : List ℕ) (from : ℕ) (reading : Reading ℕ) (r : Result Existence Refusal) : Type 0 where
  pub is : existence_reading r ≡ reading
  pub past : ExistencePast s from r

-- an existence with its braces
unfoldable pub braced : List ℕ → ℕ → Reading ℕ
braced s from =
    read_then (opening s from) (λ u p. read_then (bounds s p) (λ e q. read_then (expect s close_brace q) (λ v r. got e r)))

-- where an object or an attribute is read: a place of the text, and the next record's number
pub record Counted (s : List ℕ) (next from : ℕ) : Type 0 where
  pub inside : from ≤ length s
  pub records : next ≤ record_limit

-- a TYPE or NAME that was taken: it has a byte, and there is room for its record
pub record Roomy (s : List ℕ) (next from : ℕ) (t : Token) : Type 0 where
  pub start : from ≤ t.start
  pub order : t.start < t.end
  pub inside : t.end ≤ length s
  pub records : next < record_limit

-- the answer on a TYPE or NAME that stands in its place
abbrev pub fitting_of : Token → ℕ → Result Token Refusal
fitting_of t next =
    cond (ltb name_limit (t.end - t.start)) (Err (refusal TooLong t.start))
    (cond (eqb next record_limit) (Err (refusal TooManyRecords t.start)) (Ok t))

abbrev pub WordPast : List ℕ → ℕ → ℕ → Result Token Refusal → Type 0
WordPast s next from (Err x) = Unit {0}
WordPast s next from (Ok t) = Roomy s next from t

pub record WordIs (s : List ℕ) (next from : ℕ) (reading : Reading Token) (r : Result Token Refusal) : Type 0 where
  pub is : token_reading r ≡ reading
  pub past : WordPast s next from r

-- a code as a reading
abbrev pub code_reading : List ℕ → Result Code Refusal → Reading (List ℕ)
code_reading s (Err x) = refused x
code_reading s (Ok k) = got (part s k.start k.end) k.next

-- its bytes stand between the place before it and the place behind it
abbrev pub CodePast : List ℕ → ℕ → Result Code Refusal → Type 0
CodePast s from (Err x) = Unit {0}
CodePast s from (Ok k) = (from ≤ k.start) × (k.start ≤ k.end) × (k.end ≤ k.next) × (k.next ≤ length s)

pub record CodeIs (s : List ℕ) (from : ℕ) (r : Result Code Refusal) : Type 0 where
  pub is : code_reading s r ≡ object_code s from
  pub past : CodePast s from r

-- what an object begins with: its type and its code, up to its opening brace
pub record Typed : Type 0 where
  pub type : List ℕ
  pub code : List ℕ

unfoldable pub object_head : List ℕ → ℕ → ℕ → ℕ → Reading Typed
object_head s levels next from =
    read_then (object_type s levels next from) (λ t p.
    read_then (object_code s p) (λ k q.
    read_then (opening s q) (λ u r.
    got (record { type = spelling s t; code = k }) r)))

-- what an attribute begins with: its name and its existence, up to its opening brace
pub record NamedAttribute : Type 0 where
  pub name : List ℕ
  pub existence : ℕ

unfoldable pub attribute_head : List ℕ → List (List ℕ) → ℕ → ℕ → Reading NamedAttribute
attribute_head s seen next from =
    read_then (attribute_name s seen next from) (λ t p.
    read_then (existence_from s p) (λ e q.
    read_then (opening s q) (λ u r.
    got (record { name = spelling s t; existence = e }) r)))

-- an object's head as a reading
abbrev pub typed_reading : List ℕ → Result ObjectHead Refusal → Reading Typed
typed_reading s (Err x) = refused x
typed_reading s (Ok h) = got (record { type = part s h.type_start h.type_end; code = part s h.code_start h.code_end }) h.next

-- the bytes of its type and of its code stand one behind the other between the place before it and the place behind it; there is room for its record
pub record TypedPast (s : List ℕ) (next from type_start type_end code_start code_end behind : ℕ) : Type 0 where
  pub records : next < record_limit
  pub first : from ≤ type_start
  pub type : type_start < type_end
  pub second : type_end ≤ code_start
  pub code : code_start ≤ code_end
  pub order : code_end < behind
  pub inside : behind ≤ length s

abbrev pub ObjectHeadPast : List ℕ → ℕ → ℕ → Result ObjectHead Refusal → Type 0
ObjectHeadPast s next from (Err x) = Unit {0}
ObjectHeadPast s next from (Ok h) = TypedPast s next from h.type_start h.type_end h.code_start h.code_end h.next

pub record ObjectHeadIs (s : List ℕ) (levels next from : ℕ) (r : Result ObjectHead Refusal) : Type 0 where
  pub is : typed_reading s r ≡ object_head s levels next from
  pub past : ObjectHeadPast s next from r

-- an attribute's head as a reading
abbrev pub named_reading : List ℕ → Result AttributeHead Refusal → Reading NamedAttribute
named_reading s (Err x) = refused x
named_reading s (Ok h) = got (record { name = part s h.name_start h.name_end; existence = h.existence }) h.next

-- the bytes of its name stand between the place before it and the place behind it; there is room for its record
pub record NamedPast (s : List ℕ) (next from name_start name_end existence behind : ℕ) : Type 0 where
  pub records : next < record_limit
  pub first : from ≤ name_start
  pub name : name_start < name_end
  pub flag : existence ≤ 2
  pub order : name_end < behind
  pub inside : behind ≤ length s

abbrev pub AttributeHeadPast : List ℕ → ℕ → ℕ → Result AttributeHead Refusal → Type 0
AttributeHeadPast s next from (Err x) = Unit {0}
AttributeHeadPast s next from (Ok h) = NamedPast s next from h.name_start h.name_end h.existence h.next

pub record AttributeHeadIs (s : List ℕ) (seen : List (List ℕ)) (next from : ℕ) (r : Result AttributeHead Refusal) : Type 0 where
  pub is : named_reading s r ≡ attribute_head s seen next from
  pub past : AttributeHeadPast s next from r
