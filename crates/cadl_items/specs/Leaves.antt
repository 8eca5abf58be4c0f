-- Leaves. Document 01, 'Constraint text': "leaf: Booleans by comma (one or two); or items by comma, all integer, all string or all date interval; or one
-- pattern"; document 02, 1: "Where a leaf may stand, a token such as Pd, a TYPE too, is the pattern exactly when `}` .. follows". Assumes nothing.
use Rattle.std.specs.Prelude.{Bool, cond, ◌||◌, List, [], ℕ, ◌+◌, ◌-◌, eqb}
use Rattle.lexis.specs.Bytes.{within}
use Rattle.lexis.specs.Spelling.{bar, comma, true_word, false_word}
use Rattle.lexis.specs.Spelling
use Rattle.lexis.specs.Durations
use Rattle.lexis.specs.Tokens.{token_at, content_token_at, integer, date, string}
use Rattle.lexis.specs.declared.Token.{Token}
use Rattle.refusals.specs.Limits.{record_limit, item_limit}
use Rattle.refusals.specs.declared.Cause.TheVariants.{TooManyRecords, Overlap}
use Rattle.refusals.specs.Parsing.{Parse, parsed, and_then, noting, syntax}
use Rattle.meaning.specs.Constraints.{SingleSort, booleans, date_pattern, time_pattern, duration_pattern, integers, dates, Leaf, single, texts}
use Rattle.meaning.specs.Constraints
use Rattle.meaning.specs.Sorts.{single_row}
use Rattle.cadl_intervals.specs.Intervals.{undecided}
use Rattle.cadl_items.specs.Ranges.{Ranges, ranges}
use Rattle.cadl_items.specs.Strings.{strings}

abbrev pub is_boolean : Token → Bool
is_boolean t = eqb t.sort true_word || eqb t.sort false_word

-- the flag of one Boolean: 1 True, 2 False
abbrev pub boolean_flag : Token → ℕ
boolean_flag t = cond (eqb t.sort true_word) 1 2

-- the second Boolean, behind a comma
unfoldable pub second_boolean : List ℕ → ℕ → ℕ → ℕ → Parse Leaf
second_boolean s number flag from =
    let t = token_at s from in
    cond (is_boolean t)
    (noting (eqb (boolean_flag t) flag) Overlap t.start (parsed (single booleans number 3) t.end)) (syntax t)

-- Booleans, the first of which is the token t
unfoldable pub boolean_list : List ℕ → ℕ → Token → Parse Leaf
boolean_list s number t =
    let u = token_at s t.end in
    cond (eqb u.sort comma) (second_boolean s number (boolean_flag t) u.end)
    (parsed (single booleans number (boolean_flag t)) t.end)

abbrev pub range_leaf : Ranges → Leaf
range_leaf l = Constraints.ranges (cond (eqb l.kind date) dates integers) l.items

-- a pattern's flag, counted from the sort before the first pattern's
abbrev pub pattern_flag : ℕ → Token → ℕ
pattern_flag first t = t.sort - first

-- a token that is a pattern of a sort of leaf, where `first` is the sort before its first pattern's; and the leaf that it is
abbrev pub is_pattern : SingleSort → ℕ → Token → Bool
is_pattern sort first t = within (first + 1) (first + (single_row sort).greatest) t.sort

abbrev pub pattern_leaf : SingleSort → ℕ → ℕ → Token → Parse Leaf
pattern_leaf sort first number t =
    noting (eqb number record_limit) TooManyRecords t.start
    (parsed (single sort number (pattern_flag first t)) t.end)

-- a leaf from a place on, given the next record's number
unfoldable pub leaf : List ℕ → ℕ → ℕ → Parse Leaf
leaf s number from =
    let t = content_token_at s from in
    cond (is_boolean t) (noting (eqb number record_limit) TooManyRecords t.start (boolean_list s number t))
    (cond (eqb t.sort integer || eqb t.sort bar)
    (and_then (ranges s item_limit undecided number [] from) (λ l p. parsed (range_leaf l) p))
    (cond (eqb t.sort string)
    (and_then (strings s item_limit number [] from) (λ l p. parsed (texts l) p))
    (cond (is_pattern date_pattern Spelling.date_pattern t) (pattern_leaf date_pattern Spelling.date_pattern number t)
    (cond (is_pattern time_pattern Spelling.time_pattern t) (pattern_leaf time_pattern Spelling.time_pattern number t)
    (cond (is_pattern duration_pattern Durations.duration_pattern t)
    (pattern_leaf duration_pattern Durations.duration_pattern number t)
    (syntax t))))))
