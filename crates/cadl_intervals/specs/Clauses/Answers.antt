-- What the functions of this crate promise of their answers: each answer as the reading of the definitions, and bounds. Assumes nothing.
use Rattle.std.specs.Prelude.{◌≡◌, ◌≢◌, Bool, false, true, cond, ◌||◌, List, ℕ, ◌≤◌, ◌<◌, eqb, length}
use Rattle.std.specs.declared.result.Result.{Result}
use Rattle.std.specs.declared.result.Result.TheVariants.{Ok, Err}
use Rattle.lexis.specs.Spelling.{greater, less, at_most, at_least}
use Rattle.lexis.specs.Tokens.{integer, date}
use Rattle.values.specs.Integers.{Pair, pair}
use Rattle.values.specs.Calendar.{first_day, last_day}
use Rattle.refusals.specs.Reading.{Reading, refused, got}
use Rattle.refusals.specs.declared.Refusal.{Refusal}
use Rattle.cadl_intervals.specs.Intervals.{undecided, ends, least, most, empty}
use Rattle.cadl_intervals.specs.Intervals as text
use Rattle.cadl_intervals.specs.Clauses.Told.{literal, above, from}
use Rattle.cadl_intervals.specs.declared.literals.Literal.{Literal}
use Rattle.cadl_intervals.specs.declared.ends.High.{High}
use Rattle.cadl_intervals.specs.declared.ends.High.TheVariants as high
use Rattle.cadl_intervals.specs.declared.ends.Ends.{Ends}
use Rattle.cadl_intervals.specs.declared.ends.Interval.{Interval}

-- a literal
abbrev pub literal_reading : Result Literal Refusal → Reading ℕ
literal_reading (Err x) = refused x
literal_reading (Ok l) = got l.value l.next

abbrev pub LiteralPast : List ℕ → ℕ → Result Literal Refusal → Type 0
LiteralPast s kind (Err x) = Unit {0}
LiteralPast s kind (Ok l) = (kind ≡ date → l.value ≤ last_day) × (l.next ≤ length s)

pub record LiteralIs (s : List ℕ) (kind from : ℕ) (r : Result Literal Refusal) : Type 0 where
  pub is : literal_reading r ≡ literal s kind from
  pub past : LiteralPast s kind r

-- the ends of an interval, by the value of the high end and whether all stay below it
abbrev pub value_of : High → ℕ
value_of (high.At b) = b
value_of (high.Below b) = b

abbrev pub is_below : High → Bool
is_below (high.At b) = false
is_below (high.Below b) = true

abbrev pub ends_of : Ends → text.Ends
ends_of e = ends e.kind e.low (value_of e.high) (is_below e.high)

abbrev pub ends_reading : Result Ends Refusal → Reading text.Ends
ends_reading (Err x) = refused x
ends_reading (Ok e) = got (ends_of e) e.next

-- a value that has a next one: a day up to the last
abbrev pub HasAfter : ℕ → ℕ → Type 0
HasAfter kind a = kind ≡ date → a ≤ last_day

-- a value that has one before it
pub record HasBefore (kind b : ℕ) : Type 0 where
  pub some : 0 < b
  pub day : kind ≡ date → first_day < b

-- what a literal behind a mark, or behind none, makes
unfoldable pub ends_by : List ℕ → ℕ → ℕ → ℕ → ℕ → Reading text.Ends
ends_by s mark kind a p =
    cond (eqb mark greater) (above s kind a p)
    (cond (eqb mark less) (got (ends kind (least kind) a true) p)
    (cond (eqb mark at_most) (got (ends kind (least kind) a false) p)
    (cond (eqb mark at_least) (got (ends kind a (most kind) false) p)
    (from s kind a p))))

-- a mark with which an interval may begin
abbrev pub opens_ends : ℕ → Bool
opens_ends mark = eqb mark greater || eqb mark less || eqb mark at_most || eqb mark at_least

-- a list's kind: integers or dates, or open
abbrev pub Asked : ℕ → Type 0
Asked kind = kind ≢ undecided → kind ≢ date → kind ≡ integer

-- a place of the text, and the kind of the list that is read there
pub record At (s : List ℕ) (kind from : ℕ) : Type 0 where
  pub inside : from ≤ length s
  pub asked : Asked kind

-- an interval by its kind and its pair
abbrev pub shut : ℕ → Pair → text.Interval
shut kind p = record { kind = kind; pair = p }

abbrev pub interval_reading : Result Interval Refusal → Reading text.Interval
interval_reading (Err x) = refused x
interval_reading (Ok i) = got (shut i.kind (pair i.low i.high)) i.next

abbrev pub IntervalPast : List ℕ → Result Interval Refusal → Type 0
IntervalPast s (Err x) = Unit {0}
IntervalPast s (Ok i) = (i.next ≤ length s) × Asked i.kind

pub record IntervalIs (s : List ℕ) (reading : Reading text.Interval) (r : Result Interval Refusal) : Type 0 where
  pub is : interval_reading r ≡ reading
  pub past : IntervalPast s r

-- ends between which a value lies, and before whose high end a day stands
pub record NotEmpty (e : Ends) : Type 0 where
  pub some : empty (ends_of e) ≡ false
  pub day : e.kind ≡ date → e.low < value_of e.high → first_day < value_of e.high
