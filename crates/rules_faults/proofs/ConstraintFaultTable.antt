-- Constraint texts with several faults, all of which are listed, each by its number and place. Assumes nothing.
use mathlib.Core.Path.{◌≡◌, refl}
use mathlib.Core.List.{List, [], ◌∷◌, ◌++◌}
use Prim.Native.Nat.{ℕ}
use lib.ListN.{replicate}
use Rattle.lexis.specs.Text.{bytes}
use Rattle.refusals.specs.Limits.{level_limit}
use Rattle.refusals.specs.Parsing.{faults_in}
use Rattle.cadl_items.specs.Ranges
use Rattle.cadl_items.specs.Strings
use Rattle.cadl_objects.specs.Objects.{deeper_object, object_from}
use Rattle.cadl_objects.proofs.Computes.{constraint_computes}
use Rattle.rules_faults.specs.ConstraintFaults.{faults}
use Rattle.rules_faults.proofs.FaultTable.{told}

unfoldable faults_compute : Unit {0}
unfolding constraint_computes Ranges.further Strings.further_strings deeper_object faults
faults_compute = tt

-- the faults of an object whose record has a number
abbrev told_from : ℕ → List ℕ → List ℕ
told_from next s = told (faults_in (object_from s level_limit next 0))

-- so many objects, one in the other, around a text
abbrev around : List (List ℕ) → List ℕ → List ℕ
around [] s = s
around (x ∷ xs) s = (bytes "A matches {a matches {" ++ around xs s) ++ bytes "}}"

-- lists of dates that open with each mark of an open or missing end, past an item that stood before
pub dates_below : told (faults (bytes "A matches {a matches {|<2004-01-01|, |2003-01-01|}}")) ≡ 9 ∷ 37 ∷ []
unfolding faults_compute
dates_below = refl

pub dates_above : told (faults (bytes "A matches {a matches {|>2004-01-01|, |2005-01-01|}}")) ≡ 9 ∷ 37 ∷ []
unfolding faults_compute
dates_above = refl

pub dates_at_most : told (faults (bytes "A matches {a matches {|<=2004-01-01|, |2003-01-01|}}")) ≡ 9 ∷ 38 ∷ []
unfolding faults_compute
dates_at_most = refl

pub dates_at_least : told (faults (bytes "A matches {a matches {|>=2004-01-01|, |2005-01-01|}}")) ≡ 9 ∷ 38 ∷ []
unfolding faults_compute
dates_at_least = refl

-- another token where a string is to follow
pub type_for_string : told (faults (bytes "A matches {a matches {\"a\", A}}")) ≡ 2 ∷ 27 ∷ []
unfolding faults_compute
type_for_string = refl

pub name_for_string : told (faults (bytes "A matches {a matches {\"a\", b}}")) ≡ 2 ∷ 27 ∷ []
unfolding faults_compute
name_for_string = refl

pub integer_for_string : told (faults (bytes "A matches {a matches {\"a\", 5}}")) ≡ 2 ∷ 27 ∷ []
unfolding faults_compute
integer_for_string = refl

pub end_for_string : told (faults (bytes "A matches {a matches {\"a\", }}}")) ≡ 2 ∷ 27 ∷ []
unfolding faults_compute
end_for_string = refl

-- past impossible literals, results outside, empty intervals and items that stood before
pub past_values : told (faults (bytes "A matches {a matches {5, |007..3|, |9..3|, 5, |2147483647+/-1|, |9+/-007|, |9+/--1|, |>2147483647|}}"))
    ≡ 5 ∷ 26 ∷ 6 ∷ 40 ∷ 9 ∷ 43 ∷ 5 ∷ 60 ∷ 5 ∷ 69 ∷ 6 ∷ 82 ∷ 6 ∷ 97 ∷ []
unfolding faults_compute
past_values = refl

-- an interval with an impossible end is not known to be empty
pub past_impossible : told (faults (bytes "A matches {a matches {|9..007|, |>9..<007|, |<007|, |>=007|}}")) ≡ 5 ∷ 26 ∷ 5 ∷ 38 ∷ 5 ∷ 46 ∷ 5 ∷ 55 ∷ []
unfolding faults_compute
past_impossible = refl

-- an item with a fault of its own overlaps nothing, before or behind it; one that overlaps another is still there
pub own_faults : told (faults (bytes "A matches {a matches {|9..3|, |1..9|, |005|, 5, |8..9|, |05..5|, 20, |18..30|, 30}}")) ≡ 6 ∷ 27 ∷ 5 ∷ 39 ∷ 9 ∷ 45 ∷ 9 ∷ 48 ∷ 5 ∷ 57 ∷ 9 ∷ 69 ∷ 9 ∷ 79 ∷ []
unfolding faults_compute
own_faults = refl

pub own_values : told (faults (bytes "A matches {a matches {007, |<=0|, 008}}")) ≡ 5 ∷ 22 ∷ 5 ∷ 34 ∷ []
unfolding faults_compute
own_values = refl

-- open and missing ends touch and do not overlap; a result of `+/-` around an impossible literal is not known
pub past_ends : told (faults (bytes "A matches {a matches {|<=0|, |>=40|, |>0..<2|, |>38..39|, |007+/-1|, |<0|, |>39|, |1|}}")) ≡ 5 ∷ 59 ∷ 9 ∷ 69 ∷ 9 ∷ 75 ∷ 9 ∷ 82 ∷ []
unfolding faults_compute
past_ends = refl

-- past the 17th item, up to a syntax fault in an item
pub past_items : told (faults (bytes "A matches {a matches {1,2,3,4,5,6,7,8,9,10,11,12,13,14,15,16,17,18,18,|007|,|20..19|,|1..x")) ≡ 7 ∷ 61 ∷ 9 ∷ 67 ∷ 5 ∷ 71 ∷ 6 ∷ 83 ∷ 2 ∷ 89 ∷ []
unfolding faults_compute
past_items = refl

pub past_strings : told (faults (bytes "A matches {a matches {\"a\",\"b\",\"c\",\"d\",\"e\",\"f\",\"g\",\"h\",\"i\",\"j\",\"k\",\"l\",\"m\",\"n\",\"o\",\"p\",\"q\",\"r\",\"r\"}}")) ≡ 7 ∷ 86 ∷ 9 ∷ 94 ∷ []
unfolding faults_compute
past_strings = refl

-- past Duration patterns and a name that stood before, up to a TYPE behind which no brace stands
pub past_patterns : told (faults (bytes "A matches {b matches {Pd} b matches {Pwd} c matches {Pd;")) ≡ 9 ∷ 26 ∷ 2 ∷ 55 ∷ []
unfolding faults_compute
past_patterns = refl

-- a 17th item with a fault of its own, and a name that stood before
pub past_names : told (faults (bytes "A matches {a matches {1,2,3,4,5,6,7,8,9,10,11,12,13,14,15,16,|017|,17,17} a matches {007}}")) ≡ 7 ∷ 61 ∷ 5 ∷ 62 ∷ 9 ∷ 70 ∷ 9 ∷ 74 ∷ 5 ∷ 85 ∷ []
unfolding faults_compute
past_names = refl

-- dates, up to a mark that they do not have
pub past_dates : told (faults (bytes "A matches {a matches {|2004-02-30|, |>9999-12-31|, |2004-01-02..<2004-01-02|, |2004-01-01|, |<2004-01-02|, |2004-01-03+/-1|}}"))
    ≡ 5 ∷ 23 ∷ 6 ∷ 48 ∷ 6 ∷ 75 ∷ 9 ∷ 92 ∷ 2 ∷ 118 ∷ []
unfolding faults_compute
past_dates = refl

-- Booleans and strings, up to an item of another kind
pub past_equals : told (faults (bytes "A matches {a matches {True, True} b matches {\"c\", \"c\"} c matches {1, 2, \"d\"}}")) ≡ 9 ∷ 28 ∷ 9 ∷ 50 ∷ 2 ∷ 72 ∷ []
unfolding faults_compute
past_equals = refl

-- a type, a code, names and strings that are too long; the strings overlap nothing, and the name stood before
pub past_lengths : told (faults (replicate 64 0x54 ++ bytes "[at" ++ replicate 30 0x31 ++ bytes "] matches {" ++ replicate 64 0x62 ++ bytes " matches {\"" ++ replicate 256 0x20 ++ bytes "\", \"" ++ replicate 256 0x20 ++ bytes "\"} " ++ replicate 64 0x62 ++ bytes " matches {*}}"))
    ≡ 4 ∷ 0 ∷ 4 ∷ 64 ∷ 4 ∷ 108 ∷ 4 ∷ 182 ∷ 4 ∷ 442 ∷ 4 ∷ 702 ∷ 9 ∷ 702 ∷ []
unfolding faults_compute
past_lengths = refl

-- into the 17th level and the 18th
pub past_levels : told (faults (around (replicate 18 []) (bytes "007"))) ≡ 3 ∷ 352 ∷ 5 ∷ 396 ∷ []
unfolding faults_compute
past_levels = refl

-- past record 2,048
pub past_counts : told_from 2_045 (bytes "A[at1] matches {bc matches {1, 2} d matches {\"e\"} f matches {True, True}}") ≡ 8 ∷ 31 ∷ 9 ∷ 67 ∷ []
unfolding faults_compute
past_counts = refl

-- each token that may start record 2,048, and a fault behind it; two Booleans are one record
pub past_records : told_from 2_048 (bytes "A matches {b matches {007}}") ++ told_from 2_047 (bytes "A matches {b matches {007}}") ++ told_from 2_046 (bytes "A matches {a matches {True, True}}")
    ++ told_from 2_046 (bytes "A matches {a matches {yyyy-mm-dd} a matches {*}}") ++ told_from 2_046 (bytes "A matches {a matches {\"b\", \"b\"}}") ++ told_from 2_046 (bytes "A matches {a matches {|1|, 1}}")
    ++ told_from 2_046 (bytes "A matches {a matches {B matches {b matches {007}}}}") ++ told_from 2_045 (bytes "A matches {a matches {True, False} b matches {*}}")
    ≡ 8 ∷ 0 ∷ 5 ∷ 22 ∷ 8 ∷ 11 ∷ 5 ∷ 22 ∷ 8 ∷ 22 ∷ 9 ∷ 28 ∷ 8 ∷ 22 ∷ 9 ∷ 34 ∷ 8 ∷ 22 ∷ 9 ∷ 27 ∷ 8 ∷ 22 ∷ 9 ∷ 27 ∷ 8 ∷ 22 ∷ 5 ∷ 44 ∷ 8 ∷ 35 ∷ []
unfolding faults_compute
past_records = refl

-- a text that is too long is scanned all the same
pub past_the_limit : told (faults (replicate 16_384 0x20)) ++ told (faults (replicate 16_384 0x20 ++ bytes "A matches {a matches {007}}")) ≡ 2 ∷ 16_384 ∷ 1 ∷ 16_384 ∷ 5 ∷ 16_406 ∷ []
unfolding faults_compute
past_the_limit = refl

-- nothing is scanned behind a syntax fault
pub up_to_syntax : told (faults (bytes "A matches {b existence matches {0..1} matches {007} b existence matches {2} matches {007}}")) ≡ 5 ∷ 47 ∷ 9 ∷ 52 ∷ 2 ∷ 73 ∷ []
unfolding faults_compute
up_to_syntax = refl
