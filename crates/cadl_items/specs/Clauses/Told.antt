-- What reading tells of the parts of a leaf. Assumes nothing.
use Rattle.std.specs.Prelude.{cond, List, [], ◌∷◌, ℕ, eqb}
use Rattle.lexis.specs.Spelling.{comma}
use Rattle.lexis.specs.Tokens.{token_at, integer}
use Rattle.lexis.specs.declared.Token.{Token}
use Rattle.values.specs.Integers.{Pair, pair}
use Rattle.refusals.specs.Limits.{record_limit}
use Rattle.refusals.specs.declared.Cause.TheVariants.{TooManyRecords}
use Rattle.refusals.specs.Reading.{Reading, got, read_then, read_unless}
use Rattle.refusals.specs.Parsing.{first_in}
use Rattle.meaning.specs.Constraints.{Range, Text, SingleSort, Leaf, single}
use Rattle.cadl_intervals.specs.Intervals.{Interval}
use Rattle.cadl_intervals.specs.Clauses.Told.{interval}
use Rattle.cadl_items.specs.Ranges.{Start, Ranges, range}
use Rattle.cadl_items.specs.Ranges as range_text
use Rattle.cadl_items.specs.Strings as string_text
use Rattle.cadl_items.specs.Leaves.{pattern_flag}
use Rattle.cadl_items.specs.Leaves as leaf_text

unfoldable pub start : List ℕ → ℕ → ℕ → Reading Start
start s kind from = first_in (range_text.start s kind from)

abbrev pub item : List ℕ → ℕ → Start → ℕ → Reading Interval
item s kind x p =
    cond x.single (got (record { kind = integer; pair = pair x.value x.value }) p) (interval s kind p)

abbrev pub with_first : Range → Reading Ranges → Reading Ranges
with_first x r = read_then r (λ l p. got (record { kind = l.kind; items = x ∷ l.items }) p)

abbrev pub go_on_ranges : List ℕ → ℕ → Interval → (ℕ → Reading Ranges) → ℕ → Reading Ranges
go_on_ranges s number i more p =
    let t = token_at s p in
    cond (eqb t.sort comma)
    (with_first (range number i.pair) (more t.end))
    (got (record { kind = i.kind; items = range number i.pair ∷ [] }) p)

unfoldable pub ranges : List ℕ → ℕ → ℕ → ℕ → List Pair → ℕ → Reading Ranges
ranges s left kind number seen from = first_in (range_text.ranges s left kind number seen from)

unfoldable pub start_string : List ℕ → ℕ → Reading Token
start_string s from = first_in (string_text.start_string s from)

abbrev pub with_text : Text → Reading (List Text) → Reading (List Text)
with_text x r = read_then r (λ l p. got (x ∷ l) p)

abbrev pub go_on_strings : List ℕ → Text → (ℕ → Reading (List Text)) → ℕ → Reading (List Text)
go_on_strings s x more p =
    let t = token_at s p in
    cond (eqb t.sort comma) (with_text x (more t.end)) (got (x ∷ []) p)

unfoldable pub strings : List ℕ → ℕ → ℕ → List (List ℕ) → ℕ → Reading (List Text)
strings s left number seen from = first_in (string_text.strings s left number seen from)

unfoldable pub second_boolean : List ℕ → ℕ → ℕ → ℕ → Reading Leaf
second_boolean s number flag from = first_in (leaf_text.second_boolean s number flag from)

unfoldable pub boolean_list : List ℕ → ℕ → Token → Reading Leaf
boolean_list s number t = first_in (leaf_text.boolean_list s number t)

abbrev pub pattern_leaf : SingleSort → ℕ → ℕ → Token → Reading Leaf
pattern_leaf sort first number t =
    read_unless (eqb number record_limit) TooManyRecords t.start
    (got (single sort number (pattern_flag first t)) t.end)

unfoldable pub leaf : List ℕ → ℕ → ℕ → Reading Leaf
leaf s number from = first_in (leaf_text.leaf s number from)
