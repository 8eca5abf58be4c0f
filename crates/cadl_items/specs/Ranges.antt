-- Lists of integer items and of date intervals. Document 01, 'Constraint text': "items by comma, all integer, all string or all date interval";
-- "An integer item is a value or an interval"; 'Numbers of refusal', 7 at the 17th item's first token, 8 at the token that starts the record, 9 at the later item's first
-- token; "an item with a fault of its own, syntax too, overlaps nothing". Assumes nothing.
use Rattle.std.specs.Prelude.{Bool, true, false, cond, not, ◌&&◌, ◌||◌, List, [], ◌∷◌, ℕ, zero, suc, ◌+◌, eqb, leb, length}
use Rattle.lexis.specs.Spelling.{bar, comma}
use Rattle.lexis.specs.Tokens.{token_at, integer, date}
use Rattle.values.specs.Integers.{Pair, pair}
use Rattle.refusals.specs.Limits.{record_limit}
use Rattle.refusals.specs.declared.Cause.TheVariants.{EndsEarly, TooManyItems, TooManyRecords, Overlap}
use Rattle.refusals.specs.Refusals.{refusal}
use Rattle.refusals.specs.Parsing.{Parse, stopped, parsed, and_then, soundly, noting, syntax}
use Rattle.meaning.specs.Constraints.{Range}
use Rattle.cadl_intervals.specs.Intervals.{Interval, interval, literal}

-- an item's first token: its place, and whether it is a value, with the value
pub record Start : Type 0 where
  pub place : ℕ
  pub single : Bool
  pub value : ℕ

-- the first token of an integer or date item
unfoldable pub start : List ℕ → ℕ → ℕ → Parse Start
start s kind from =
    let t = token_at s from in
    cond (eqb t.sort bar) (parsed (record { place = t.start; single = false; value = 0 }) t.end)
    (cond (eqb t.sort integer && not (eqb kind date))
    (and_then (literal s integer from) (λ v p. parsed (record { place = t.start; single = true; value = v }) p))
    (syntax t))

-- the whole item, from behind its first token on
abbrev pub item : List ℕ → ℕ → Start → ℕ → Parse Interval
item s kind x p =
    cond x.single (parsed (record { kind = integer; pair = pair x.value x.value }) p) (interval s kind p)

-- two pairs share a value
abbrev pub meet : Pair → Pair → Bool
meet x y = leb x.low y.high && leb y.low x.high

abbrev pub overlaps : Pair → List Pair → Bool
overlaps x [] = false
overlaps x (y ∷ ys) = meet x y || overlaps x ys

-- a list that was read: its kind and its items
pub record Ranges : Type 0 where
  pub kind : ℕ
  pub items : List Range

abbrev pub range : ℕ → Pair → Range
range number p = record { number = number; low = p.low; high = p.high }

-- behind an item: a comma and more items, or the list's end
abbrev pub go_on_ranges : List ℕ → ℕ → Interval → (ℕ → Parse Ranges) → ℕ → Parse Ranges
go_on_ranges s number i more p =
    let t = token_at s p in
    cond (eqb t.sort comma)
    (and_then (more t.end) (λ l q. parsed (record { kind = l.kind; items = range number i.pair ∷ l.items }) q))
    (parsed (record { kind = i.kind; items = range number i.pair ∷ [] }) p)

-- the items from a place on, given the list's kind, the next record's number and the pairs before them
abbrev pub Items : Type 0
Items = ℕ → ℕ → List Pair → ℕ → Parse Ranges

-- an item, which may be one too many, and those behind it: only one without a fault of its own overlaps others
abbrev pub item_by : List ℕ → Bool → Items → Items
item_by s full more kind number seen from =
    soundly (start s kind from) (λ begun x p.
    noting full TooManyItems x.place
    (noting (eqb number record_limit) TooManyRecords x.place
    (soundly (item s kind x p) (λ ended i q.
    noting (ended && begun && overlaps i.pair seen) Overlap x.place
    (go_on_ranges s number i (more i.kind (number + 1) (cond (ended && begun) (i.pair ∷ seen) seen)) q)))))

-- items behind those that are allowed; `fuel` bounds how many, and its end, told behind the text's end, is no fault of any text
unfoldable pub further : List ℕ → ℕ → Items
further s zero kind number seen from = stopped (refusal EndsEarly (length s + 1))
further s (suc fuel) kind number seen from = item_by s false (further s fuel) kind number seen from

-- items of which so many are allowed; the first that is not is a fault
unfoldable pub ranges : List ℕ → ℕ → Items
ranges s zero kind number seen from = item_by s true (further s (length s + 1)) kind number seen from
ranges s (suc left) kind number seen from = item_by s false (ranges s left) kind number seen from
