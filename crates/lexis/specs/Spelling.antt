-- The tokens that document 01 spells out, as bytes: 'Constraint text', marks, keywords, Booleans, date and time patterns. Assumes nothing.
use Rattle.std.specs.Prelude.{cond, List, [], ◌∷◌, ℕ, ◌+◌}
use Rattle.lexis.specs.Text.{bytes}
use Rattle.lexis.specs.Runs.{same}

-- the sorts of tokens that are spelled in one way
abbrev pub matches : ℕ
matches = 4

abbrev pub existence : ℕ
existence = 5

abbrev pub true_word : ℕ
true_word = 6

abbrev pub false_word : ℕ
false_word = 7

abbrev pub open_brace : ℕ
open_brace = 12

abbrev pub close_brace : ℕ
close_brace = 13

abbrev pub comma : ℕ
comma = 14

abbrev pub star : ℕ
star = 15

abbrev pub bar : ℕ
bar = 16

abbrev pub dots : ℕ
dots = 17

abbrev pub less : ℕ
less = 18

abbrev pub greater : ℕ
greater = 19

abbrev pub at_most : ℕ
at_most = 20

abbrev pub at_least : ℕ
at_least = 21

abbrev pub plus_minus : ℕ
plus_minus = 22

-- a date pattern's sort is 30 and its flag, a time pattern's 40 and its flag
abbrev pub date_pattern : ℕ
date_pattern = 30

abbrev pub time_pattern : ℕ
time_pattern = 40

-- a spelling and the sort that it has
pub record Literal : Type 0 where
  pub sort : ℕ
  pub spelling : List ℕ

abbrev pub literal_of : ℕ → List ℕ → Literal
literal_of sort spelling = record { sort = sort; spelling = spelling }

-- { } , * | .. <= < >= > +/- : where one mark begins another, the longer stands first
abbrev pub mark_spellings : List Literal
mark_spellings =
    literal_of open_brace (bytes "{")
    ∷ literal_of close_brace (bytes "}")
    ∷ literal_of comma (bytes ",")
    ∷ literal_of star (bytes "*")
    ∷ literal_of bar (bytes "|")
    ∷ literal_of dots (bytes "..")
    ∷ literal_of at_most (bytes "<=")
    ∷ literal_of less (bytes "<")
    ∷ literal_of at_least (bytes ">=")
    ∷ literal_of greater (bytes ">")
    ∷ literal_of plus_minus (bytes "+/-")
    ∷ []

-- matches, existence: the keywords
abbrev pub keywords : List Literal
keywords =
    literal_of matches (bytes "matches")
    ∷ literal_of existence (bytes "existence")
    ∷ []

-- the sign ∈, another spelling of matches
abbrev pub element_sign : List Literal
element_sign = literal_of matches (bytes "â\u{88}\u{88}") ∷ []

-- True, False
abbrev pub booleans : List Literal
booleans =
    literal_of true_word (bytes "True")
    ∷ literal_of false_word (bytes "False")
    ∷ []

-- yyyy-mm-dd, yyyy-mm-??, yyyy-??-??, yyyy-mm-XX, yyyy-??-XX
abbrev pub date_pattern_spellings : List Literal
date_pattern_spellings =
    literal_of (date_pattern + 1) (bytes "yyyy-mm-dd")
    ∷ literal_of (date_pattern + 2) (bytes "yyyy-mm-??")
    ∷ literal_of (date_pattern + 3) (bytes "yyyy-??-??")
    ∷ literal_of (date_pattern + 4) (bytes "yyyy-mm-XX")
    ∷ literal_of (date_pattern + 5) (bytes "yyyy-??-XX")
    ∷ []

-- Thh:mm:ss, Thh:mm:XX, Thh:??:XX, Thh:??:??
abbrev pub time_pattern_spellings : List Literal
time_pattern_spellings =
    literal_of (time_pattern + 1) (bytes "Thh:mm:ss")
    ∷ literal_of (time_pattern + 2) (bytes "Thh:mm:XX")
    ∷ literal_of (time_pattern + 3) (bytes "Thh:??:XX")
    ∷ literal_of (time_pattern + 4) (bytes "Thh:??:??")
    ∷ []

-- `[at`, with which a code begins
abbrev pub code_start : List ℕ
code_start = bytes "[at"

-- dddd-dd-dd, the shape of a date
abbrev pub date_shape : List ℕ
date_shape = bytes "dddd-dd-dd"

-- the sort of a whole word: the list's where the list spells it, else the one given
unfoldable pub word_sort : List Literal → List ℕ → ℕ → ℕ
word_sort [] w sort = sort
word_sort (l ∷ ls) w sort = let more = word_sort ls w sort in cond (same l.spelling w) l.sort more
