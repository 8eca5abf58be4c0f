-- What the functions under the reader of leaves promise of their answers: each answer as the reading of the definitions, and bounds. Assumes nothing.
use Rattle.std.specs.Prelude.{◌≡◌, cond, is_some, unwrap_or, List, [], ◌∷◌, ℕ, ◌+◌, ◌*◌, ◌-◌, ◌≤◌, ◌<◌, eqb, length, get_or}
use Rattle.std.specs.declared.result.Result.{Result}
use Rattle.std.specs.declared.result.Result.TheVariants.{Ok, Err}
use Rattle.lexis.specs.Runs.{listed}
use Rattle.lexis.specs.Spelling
use Rattle.lexis.specs.Durations
use Rattle.lexis.specs.Tokens.{inner}
use Rattle.lexis.specs.declared.Token.{Token}
use Rattle.values.specs.Integers.{Pair}
use Rattle.refusals.specs.Limits.{text_limit, record_limit, item_limit}
use Rattle.refusals.specs.declared.Cause.TheVariants.{TooManyItems, TooManyRecords, Overlap}
use Rattle.refusals.specs.Reading.{Reading, refused, got, read_then, read_unless}
use Rattle.refusals.specs.Refusals.{refusal}
use Rattle.refusals.specs.Expecting.{syntax_fault}
use Rattle.refusals.specs.Clauses.Answers.{token_reading}
use Rattle.refusals.specs.declared.Refusal.{Refusal}
use Rattle.meaning.specs.Constraints.{Text, date_pattern, time_pattern, duration_pattern, Leaf, texts}
use Rattle.cadl_intervals.specs.Intervals.{undecided, Interval}
use Rattle.cadl_intervals.specs.Clauses.Answers.{Asked}
use Rattle.cadl_items.specs.Ranges.{Start, overlaps, Ranges}
use Rattle.cadl_items.specs.Clauses.Told.{start, with_first, go_on_ranges, ranges, with_text, go_on_strings, strings, start_string, second_boolean, boolean_list, pattern_leaf}
use Rattle.cadl_items.specs.Leaves.{is_boolean, range_leaf, is_pattern}
use Rattle.cadl_items.specs.Clauses.Spans.{latest, earlier, SpansIn}
use Rattle.cadl_items.specs.declared.ranges.Start as declared_start
use Rattle.cadl_items.specs.declared.ranges.RangeEnd.{RangeEnd}
use Rattle.cadl_items.specs.declared.ranges.RangeEnd.TheVariants as range_end
use Rattle.cadl_items.specs.declared.ranges.Ranges as declared_ranges
use Rattle.cadl_items.specs.declared.strings.StringEnd.{StringEnd}
use Rattle.cadl_items.specs.declared.strings.StringEnd.TheVariants as string_end
use Rattle.cadl_items.specs.declared.strings.Strings.{Strings}
use Rattle.cadl_items.specs.declared.leaves.SingleSort as declared
use Rattle.cadl_items.specs.declared.leaves.Leaf as declared_leaf
use Rattle.cadl_items.specs.declared.leaves.Leaf.TheVariants as leaf_read
use Rattle.cadl_items.specs.Clauses.Answers.{pair_at, range_at, text_at, items_from, Texts, leaf_reading}

-- an item's first token
abbrev pub start_of : declared_start.Start → Start
start_of x = record { place = x.place; single = is_some x.value; value = unwrap_or x.value 0 }

abbrev pub start_reading : Result declared_start.Start Refusal → Reading Start
start_reading (Err x) = refused x
start_reading (Ok x) = got (start_of x) x.next

-- an item's first token, if there is room for one more item and one more record
unfoldable pub roomy : {A : Type 0} → (A → ℕ) → ℕ → ℕ → Reading A → Reading A
roomy place number count r =
    read_then r (λ x p.
    read_unless (eqb count item_limit) TooManyItems (place x)
    (read_unless (eqb number record_limit) TooManyRecords (place x) (got x p)))

-- whether there is room for one more record, and for one more item and one more record
abbrev pub record_left : ℕ → ℕ → Result (Unit {0}) Refusal
record_left number place = cond (eqb number record_limit) (Err (refusal TooManyRecords place)) (Ok tt)

abbrev pub room_left : ℕ → ℕ → ℕ → Result (Unit {0}) Refusal
room_left number count place =
    cond (eqb count item_limit) (Err (refusal TooManyItems place)) (record_left number place)

-- where an item is read, behind so many others
pub record Before (s : List ℕ) (number count from : ℕ) : Type 0 where
  pub inside : from ≤ length s
  pub few : count ≤ item_limit
  pub records : number ≤ record_limit

abbrev pub StartPast : List ℕ → ℕ → ℕ → ℕ → Result declared_start.Start Refusal → Type 0
StartPast s kind number count (Err x) = Unit {0}
StartPast s kind number count (Ok x) =
    (x.next ≤ length s) × (count < item_limit) × (number < record_limit)

pub record StartIs (s : List ℕ) (kind number count from : ℕ) (r : Result declared_start.Start Refusal) : Type 0 where
  pub is : start_reading r ≡ roomy (λ x. x.place) number count (start s kind from)
  pub past : StartPast s kind number count r

-- the pairs of the first items, the latest first
abbrev pub pairs_of : List ℕ → ℕ → List Pair
pairs_of scratch count = latest (pair_at scratch) 0 count

-- an item that was read behind so many, and the items that are read behind it
abbrev pub range_reading : List ℕ → ℕ → ℕ → List ℕ → Result RangeEnd Refusal → Reading Ranges
range_reading s number count scratch (Err x) = refused x
range_reading s number count scratch (Ok (range_end.Last kind next)) =
    got (record { kind = kind; items = range_at scratch number count ∷ [] }) next
range_reading s number count scratch (Ok (range_end.More kind next)) =
    with_first (range_at scratch number count)
    (ranges s (item_limit - (count + 1)) kind (number + 1) (pairs_of scratch (count + 1)) next)

-- an item, from behind its last token on
unfoldable pub kept_range : List ℕ → ℕ → ℕ → List Pair → ℕ → Interval → ℕ → Reading Ranges
kept_range s number count seen place i q =
    read_unless (overlaps i.pair seen) Overlap place
    (go_on_ranges s number i (ranges s (item_limit - (count + 1)) i.kind (number + 1) (i.pair ∷ seen)) q)

-- the same with the list's kind, and where an item that was read is kept
pub record ItemRoom (s : List ℕ) (kind number count from : ℕ) : Type 0 where
  pub before : Before s number count from
  pub asked : Asked kind

pub record KeepRoom (s : List ℕ) (kind number count from : ℕ) : Type 0 where
  pub inside : from ≤ length s
  pub asked : Asked kind
  pub few : count < item_limit
  pub records : number < record_limit

abbrev pub RangePast : List ℕ → ℕ → ℕ → Result RangeEnd Refusal → Type 0
RangePast s number count (Err x) = Unit {0}
RangePast s number count (Ok (range_end.Last kind next)) = (count < item_limit) × (number < record_limit) × (next ≤ length s)
RangePast s number count (Ok (range_end.More kind next)) =
    (count < item_limit) × (number < record_limit) × (next ≤ length s) × Asked kind

-- the first items stay as they were
pub record Kept (count : ℕ) (before after : List ℕ) : Type 0 where
  pub same : (j : ℕ) → j < 2 * count → get_or after j 0 ≡ get_or before j 0

pub record RangeIs (s : List ℕ) (number count : ℕ) (reading : Reading Ranges) (before after : List ℕ)
    (r : Result RangeEnd Refusal) : Type 0 where
  pub is : range_reading s number count after r ≡ reading
  pub kept : Kept count before after
  pub past : RangePast s number count r

-- a list of ranges
abbrev pub ranges_reading : ℕ → List ℕ → Result declared_ranges.Ranges Refusal → Reading Ranges
ranges_reading number scratch (Err x) = refused x
ranges_reading number scratch (Ok l) =
    got (record { kind = l.kind; items = items_from (range_at scratch) number 0 l.count }) l.next

abbrev pub RangesPast : List ℕ → ℕ → Result declared_ranges.Ranges Refusal → Type 0
RangesPast s number (Err x) = Unit {0}
RangesPast s number (Ok l) =
    (1 ≤ l.count) × (l.count ≤ item_limit) × (number + l.count ≤ record_limit)

pub record RangesIs (s : List ℕ) (number from : ℕ) (scratch : List ℕ) (r : Result declared_ranges.Ranges Refusal) : Type 0 where
  pub is : ranges_reading number scratch r ≡ ranges s item_limit undecided number [] from
  pub past : RangesPast s number r

-- a string that was read behind so many, and the strings that are read behind it
abbrev pub string_reading : List ℕ → ℕ → ℕ → List ℕ → Result StringEnd Refusal → Reading (List Text)
string_reading s number count scratch (Err x) = refused x
string_reading s number count scratch (Ok (string_end.Last next)) = got (text_at s scratch number count ∷ []) next
string_reading s number count scratch (Ok (string_end.More next)) =
    with_text (text_at s scratch number count)
    (strings s (item_limit - (count + 1)) (number + 1) (earlier s scratch 0 (count + 1)) next)

-- a string, from behind it on
unfoldable pub kept_string : List ℕ → ℕ → ℕ → List (List ℕ) → Token → ℕ → Reading (List Text)
kept_string s number count seen t p =
    read_unless (listed (inner s t) seen) Overlap t.start
    (go_on_strings s (record { number = number; text = inner s t })
    (strings s (item_limit - (count + 1)) (number + 1) (inner s t ∷ seen)) p)

-- a string's token, in quotes
pub record QuotedToken (s : List ℕ) (t : Token) : Type 0 where
  pub order : t.start + 2 ≤ t.end
  pub inside : t.end ≤ length s

-- a string's token, if there is room for one more item and one more record
abbrev pub StringStartPast : List ℕ → ℕ → ℕ → Result Token Refusal → Type 0
StringStartPast s number count (Err x) = Unit {0}
StringStartPast s number count (Ok t) = QuotedToken s t × (count < item_limit) × (number < record_limit)

pub record StringStartIs (s : List ℕ) (number count from : ℕ) (r : Result Token Refusal) : Type 0 where
  pub is : token_reading r ≡ roomy (λ t. t.start) number count (start_string s from)
  pub past : StringStartPast s number count r

-- where a string is read, behind so many others, and where one that was read is kept
pub record StringRoom (s : List ℕ) (number count from : ℕ) (scratch : List ℕ) : Type 0 where
  pub before : Before s number count from
  pub short : length s ≤ text_limit
  pub spans : SpansIn s scratch 0 count

pub record KeepString (s : List ℕ) (number count : ℕ) (t : Token) (scratch : List ℕ) : Type 0 where
  pub quoted : QuotedToken s t
  pub few : count < item_limit
  pub records : number < record_limit
  pub short : length s ≤ text_limit
  pub spans : SpansIn s scratch 0 count

-- a string that is kept is span `count` of the scratch
pub record StringKept (s : List ℕ) (number count : ℕ) (scratch : List ℕ) (next : ℕ) : Type 0 where
  pub few : count < item_limit
  pub records : number < record_limit
  pub spans : SpansIn s scratch 0 (count + 1)
  pub inside : next ≤ length s

abbrev pub StringPast : List ℕ → ℕ → ℕ → List ℕ → Result StringEnd Refusal → Type 0
StringPast s number count scratch (Err x) = Unit {0}
StringPast s number count scratch (Ok (string_end.Last next)) = StringKept s number count scratch next
StringPast s number count scratch (Ok (string_end.More next)) = StringKept s number count scratch next

pub record StringIs (s : List ℕ) (number count : ℕ) (reading : Reading (List Text)) (before after : List ℕ)
    (r : Result StringEnd Refusal) : Type 0 where
  pub is : string_reading s number count after r ≡ reading
  pub kept : Kept count before after
  pub past : StringPast s number count after r

-- a list of strings
abbrev pub strings_reading : List ℕ → ℕ → List ℕ → Result Strings Refusal → Reading (List Text)
strings_reading s number scratch (Err x) = refused x
strings_reading s number scratch (Ok l) =
    got (items_from (text_at s scratch) number 0 l.count) l.next

abbrev pub StringsPast : List ℕ → ℕ → List ℕ → Result Strings Refusal → Type 0
StringsPast s number scratch (Err x) = Unit {0}
StringsPast s number scratch (Ok l) = Texts s number scratch l.count

pub record StringsIs (s : List ℕ) (number from : ℕ) (scratch : List ℕ) (r : Result Strings Refusal) : Type 0 where
  pub is : strings_reading s number scratch r ≡ strings s item_limit number [] from
  pub past : StringsPast s number scratch r

-- where a list of integers or of dates is read
pub record ListRoom (s : List ℕ) (number from : ℕ) : Type 0 where
  pub inside : from ≤ length s
  pub records : number ≤ record_limit

-- a leaf of one record, if it is a leaf
abbrev pub OneRecord : Result declared_leaf.Leaf Refusal → Type 0
OneRecord (Err x) = Unit {0}
OneRecord (Ok (leaf_read.Single sort flag next)) = Unit {0}
OneRecord (Ok (leaf_read.Ranges sort count next)) = ⊥
OneRecord (Ok (leaf_read.Strings count next)) = ⊥

-- Booleans, as what a record's number makes of them
unfoldable pub second_by : List ℕ → ℕ → ℕ → ℕ → Reading Leaf
second_by s flag from number = second_boolean s number flag from

unfoldable pub booleans_by : List ℕ → Token → ℕ → Reading Leaf
booleans_by s t number = boolean_list s number t

-- an answer that is the reading for every record's number, and for one
pub record EveryIs (s : List ℕ) (reading : ℕ → Reading Leaf) (r : Result declared_leaf.Leaf Refusal) : Type 0 where
  pub is : (number : ℕ) (scratch : List ℕ) → leaf_reading s number scratch r ≡ reading number
  pub one : OneRecord r

pub record OneIs (s : List ℕ) (number : ℕ) (reading : Reading Leaf) (r : Result declared_leaf.Leaf Refusal) : Type 0 where
  pub is : (scratch : List ℕ) → leaf_reading s number scratch r ≡ reading
  pub one : OneRecord r

-- a pattern of a sort and a flag, if there is room for its record
abbrev pub pattern : ℕ → Token → declared.SingleSort → ℕ → Result declared_leaf.Leaf Refusal
pattern number t sort flag =
    cond (eqb number record_limit) (Err (refusal TooManyRecords t.start)) (Ok (leaf_read.Single sort flag t.end))

-- Booleans or a pattern, whose first token is t
unfoldable pub single_leaf : List ℕ → ℕ → Token → Reading Leaf
single_leaf s number t =
    cond (is_boolean t) (read_unless (eqb number record_limit) TooManyRecords t.start (boolean_list s number t))
    (cond (is_pattern date_pattern Spelling.date_pattern t) (pattern_leaf date_pattern Spelling.date_pattern number t)
    (cond (is_pattern time_pattern Spelling.time_pattern t) (pattern_leaf time_pattern Spelling.time_pattern number t)
    (cond (is_pattern duration_pattern Durations.duration_pattern t)
    (pattern_leaf duration_pattern Durations.duration_pattern number t)
    (syntax_fault t))))

-- a list of integers or of dates
unfoldable pub ranges_leaf : List ℕ → ℕ → ℕ → Reading Leaf
ranges_leaf s number from = read_then (ranges s item_limit undecided number [] from) (λ l p. got (range_leaf l) p)

-- a list of strings
unfoldable pub string_leaf : List ℕ → ℕ → ℕ → Reading Leaf
string_leaf s number from = read_then (strings s item_limit number [] from) (λ l p. got (texts l) p)
