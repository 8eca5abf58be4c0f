-- Intervals. Document 01, 'Constraint text': "`|a|`, `|a..b|`, `|a..<b|`, `|>a..b|`, `|>a..<b|`, `|a+/-d|`, `|<a|`, `|>a|`, `|<=a|`, `|>=a|`. Date items
-- are intervals only, the same without `+/-`"; "Intervals become closed pairs; an open end moves by one (one calendar day for dates); a missing end is the
-- range's end"; 'Numbers of refusal', 5 at the literal (d for `+/-`) and 6 at the closing bar. Nothing is told of what an impossible literal would make. Assumes nothing.
use Rattle.std.specs.Prelude.{Bool, true, false, cond, ◌&&◌, List, ℕ, ◌+◌, ◌-◌, eqb, leb, ltb}
use Rattle.std.specs.Prelude.{Option, None, Some, option_map as map}
use Rattle.lexis.specs.Spelling.{bar, dots, less, greater, at_most, at_least, plus_minus}
use Rattle.lexis.specs.Tokens.{token_at, integer, date, spelling}
use Rattle.lexis.specs.declared.Token.{Token}
use Rattle.values.specs.Integers.{integer_of, Pair, pair, inside, around}
use Rattle.values.specs.Integers
use Rattle.values.specs.Calendar.{day_after, day_before, first_day, last_day}
use Rattle.values.specs.declared.dates.Date.{Date}
use Rattle.values.specs.Dates.{date_of}
use Rattle.refusals.specs.declared.Cause.TheVariants.{Impossible, OutOfRange, EmptyInterval}
use Rattle.refusals.specs.Refusals.{refusal}
use Rattle.refusals.specs.Parsing.{Parse, flawed, parsed, and_then, soundly, noting, syntax, wanted}

-- a list's kind is the sort of its literals, integer or date; `undecided` before its first literal is read
abbrev pub undecided : ℕ
undecided = 0

abbrev pub kind_by : ℕ → Token → ℕ
kind_by kind t = cond (eqb kind undecided) (cond (eqb t.sort date) date integer) kind

-- the ends of the range, and one step from a value
abbrev pub least : ℕ → ℕ
least kind = cond (eqb kind date) first_day 0

abbrev pub most : ℕ → ℕ
most kind = cond (eqb kind date) last_day Integers.greatest

abbrev pub after : ℕ → ℕ → ℕ
after kind a = cond (eqb kind date) (day_after a) (a + 1)

abbrev pub before : ℕ → ℕ → ℕ
before kind b = cond (eqb kind date) (day_before b) (b - 1)

-- the value that a literal of that kind spells
abbrev pub literal_value : ℕ → List ℕ → Option ℕ
literal_value kind w = cond (eqb kind date) (map (λ (d : Date). d.day) (date_of w)) (integer_of w)

-- its value; 0 stands for that of an impossible one
abbrev pub possible : Token → Option ℕ → Parse ℕ
possible t None = flawed (refusal Impossible t.start) (parsed 0 t.end)
possible t (Some v) = parsed v t.end

-- a literal of that kind
unfoldable pub literal : List ℕ → ℕ → ℕ → Parse ℕ
literal s kind from = and_then (wanted s kind from) (λ t p. possible t (literal_value kind (spelling s t)))

-- an interval before it is closed: its kind, its low end, and its high end or, where `below` says so, the value that it must stay below
pub record Ends : Type 0 where
  pub kind : ℕ
  pub low : ℕ
  pub high : ℕ
  pub below : Bool

abbrev pub ends : ℕ → ℕ → ℕ → Bool → Ends
ends kind low high below = record { kind = kind; low = low; high = high; below = below }

-- no value lies in it
abbrev pub empty : Ends → Bool
empty e = cond e.below (leb e.high e.low) (ltb e.high e.low)

-- the closed pair
abbrev pub closed : Ends → Pair
closed e = pair e.low (cond e.below (before e.kind e.high) e.high)

-- the high end behind `..`
unfoldable pub up_to : List ℕ → ℕ → ℕ → ℕ → Parse Ends
up_to s kind low from =
    let t = token_at s from in
    cond (eqb t.sort less)
    (and_then (literal s kind t.end) (λ b p. parsed (ends kind low b true) p))
    (and_then (literal s kind from) (λ b p. parsed (ends kind low b false) p))

-- what stands behind `|>a`
unfoldable pub above : List ℕ → ℕ → ℕ → ℕ → Parse Ends
above s kind a from =
    let t = token_at s from in
    cond (eqb t.sort dots) (up_to s kind (after kind a) t.end)
    (parsed (ends kind (after kind a) (most kind) false) from)

-- the d of `+/-`, behind an a that is possible or not
unfoldable pub spread : List ℕ → Bool → ℕ → ℕ → Parse Ends
spread s known a from =
    let t = token_at s from in
    soundly (literal s integer from) (λ sound d p.
    noting (sound && known && cond (inside a d) false true) OutOfRange t.start
    (parsed (ends integer (around a d).low (around a d).high false) p))

-- what stands behind `|a`, where a is possible or not
unfoldable pub from : List ℕ → Bool → ℕ → ℕ → ℕ → Parse Ends
from s known kind a at =
    let t = token_at s at in
    cond (eqb t.sort dots) (up_to s kind a t.end)
    (cond (eqb t.sort plus_minus) (cond (eqb kind date) (syntax t) (spread s known a t.end))
    (parsed (ends kind a a false) at))

-- a literal of the kind wanted, or of either where that is open, and what is made of it
abbrev pub with_literal : List ℕ → ℕ → ℕ → (Bool → ℕ → ℕ → ℕ → Parse Ends) → Parse Ends
with_literal s kind at go =
    let k = kind_by kind (token_at s at) in
    soundly (literal s k at) (λ known a p. go known k a p)

-- what stands between the bars
unfoldable pub between : List ℕ → ℕ → ℕ → Parse Ends
between s kind at =
    let t = token_at s at in
    cond (eqb t.sort greater) (with_literal s kind t.end (λ known. above s))
    (cond (eqb t.sort less) (with_literal s kind t.end (λ known k a p. parsed (ends k (least k) a true) p))
    (cond (eqb t.sort at_most) (with_literal s kind t.end (λ known k a p. parsed (ends k (least k) a false) p))
    (cond (eqb t.sort at_least) (with_literal s kind t.end (λ known k a p. parsed (ends k a (most k) false) p))
    (with_literal s kind at (from s)))))

-- an interval that was read: its kind and its closed pair
pub record Interval : Type 0 where
  pub kind : ℕ
  pub pair : Pair

-- an interval, from behind its opening bar on
unfoldable pub interval : List ℕ → ℕ → ℕ → Parse Interval
interval s kind at =
    soundly (between s kind at) (λ sound e p.
    and_then (wanted s bar p) (λ t q.
    noting (sound && empty e) EmptyInterval t.start
    (parsed (record { kind = e.kind; pair = closed e }) q)))
