-- Examples of causes with their numbers, of limits, and of tokens asked for, each with what is expected. The cases stand in the table. Assumes nothing.
use mathlib.Core.Bool.{Bool, false, ◌&&◌}
use mathlib.Core.List.{List}
use Prim.Native.Nat.{ℕ}
use lib.Dec.{eqb}
use Rattle.lexis.specs.declared.Token.{Token}
use Rattle.refusals.specs.declared.Refusal.{Refusal}
use Rattle.refusals.specs.declared.Cause.{Cause}
use Rattle.refusals.specs.declared.Cause.TheVariants.{TextTooLong, Unreadable, CannotFollow, EndsEarly, TooDeep, TooLong, Impossible, OutOfRange, BadWord, EmptyInterval, TooManyItems, TooManyRecords, Overlap, RepeatedName, PoolTooLarge, OutputTooShort, NotATable, BrokenRecord, NotAnObject, NoName}
use Rattle.refusals.specs.Refusals.{number_of}
use Rattle.refusals.specs.Reading.{Reading, refused, got}
use Rattle.refusals.specs.Outcomes
use Rattle.refusals.specs.Outcomes.{Outcome, gave}
use Rattle.refusals.specs.Expecting.{expect}

-- a cause and its number, a limit and its value, a sort asked for from a place of a text on and the token taken, or the fault
pub data Case : Type 0 where
  numbered : (cause : Cause) (number : ℕ) → Case
  limit_is : (limit value : ℕ) → Case
  takes : (text : List ℕ) (sort from start end : ℕ) → Case
  faults : (text : List ℕ) (sort from : ℕ) (cause : Cause) (place : ℕ) → Case

-- which cause it is, so that two can be compared
unfoldable pub which : Cause → ℕ
which TextTooLong = 0
which Unreadable = 1
which CannotFollow = 2
which EndsEarly = 3
which TooDeep = 4
which TooLong = 5
which Impossible = 6
which OutOfRange = 7
which BadWord = 8
which EmptyInterval = 9
which TooManyItems = 10
which TooManyRecords = 11
which Overlap = 12
which RepeatedName = 13
which PoolTooLarge = 14
which OutputTooShort = 15
which NotATable = 16
which BrokenRecord = 17
which NotAnObject = 18
which NoName = 19

abbrev pub is_token : Reading Token → ℕ → ℕ → ℕ → Bool
is_token (refused r) sort start end = false
is_token (got t p) sort start end = eqb t.sort sort && eqb t.start start && eqb t.end end && eqb p end

abbrev pub is_fault : Reading Token → Cause → ℕ → Bool
is_fault (refused r) cause place = eqb (which r.cause) (which cause) && eqb r.place place
is_fault (got t p) cause place = false

unfoldable pub right : Case → Bool
right (numbered cause number) = eqb (number_of cause) number
right (limit_is limit value) = eqb limit value
right (takes s sort from start end) = is_token (expect s sort from) sort start end
right (faults s sort from cause place) = is_fault (expect s sort from) cause place

-- the number and the place of a refusal; and tests of an outcome, of its refusal and of what it gives
abbrev pub is_refusal : Refusal → ℕ → ℕ → Bool
is_refusal r number place = eqb (number_of r.cause) number && eqb r.place place

abbrev pub is_refused : {E A : Type 0} → Outcome E A → (E → Bool) → Bool
is_refused (Outcomes.refused e) test = test e
is_refused (gave a) test = false

abbrev pub is_given : {E A : Type 0} → Outcome E A → (A → Bool) → Bool
is_given (Outcomes.refused e) test = false
is_given (gave a) test = test a
