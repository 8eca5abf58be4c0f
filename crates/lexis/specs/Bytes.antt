-- The six sorts of bytes. Document 01, 'Constraint text': "What sort of byte stands at a place (blank, digit, small, capital, mark, other)".
-- Assumes nothing.
use Rattle.std.specs.Prelude.{Bool, true, false, cond, ◌&&◌, ◌||◌, List, [], ◌∷◌, ℕ, eqb, leb}
use Rattle.lexis.specs.Text.{byte, bytes}

abbrev pub blank : ℕ
blank = 0

abbrev pub digit : ℕ
digit = 1

abbrev pub small : ℕ
small = 2

abbrev pub capital : ℕ
capital = 3

abbrev pub mark : ℕ
mark = 4

abbrev pub other : ℕ
other = 5

abbrev pub within : ℕ → ℕ → ℕ → Bool
within low high b = leb low b && leb b high

abbrev pub among : ℕ → List ℕ → Bool
among b [] = false
among b (x ∷ xs) = eqb b x || among b xs

-- space, tab, CR, LF
abbrev pub blanks : List ℕ
blanks = bytes " \t\r\n"

-- the bytes of the marks { } , * | .. < > <= >= +/-
abbrev pub marks : List ℕ
marks = bytes "{},*|.<>=+/-"

unfoldable pub sort_of : ℕ → ℕ
sort_of b =
    cond (among b blanks) blank
    (cond (within (byte "0") (byte "9") b) digit
    (cond (within (byte "a") (byte "z") b) small
    (cond (within (byte "A") (byte "Z") b) capital
    (cond (among b marks) mark other))))

abbrev pub is : ℕ → ℕ → Bool
is sort b = eqb (sort_of b) sort

-- letters, digits and `_`: what goes on in a TYPE or a NAME
unfoldable pub word_byte : ℕ → Bool
word_byte b = is small b || is capital b || is digit b || eqb b (byte "_")

-- what a string holds: 20 to 7E hex except `"` and `\`
unfoldable pub string_byte : ℕ → Bool
string_byte b = within 0x20 0x7E b && cond (among b (bytes "\"\\")) false true

-- what a run of data text holds: letters, digits, `_ + - . :`
unfoldable pub run_byte : ℕ → Bool
run_byte b = word_byte b || among b (bytes "+-.:")

-- CR and LF end a comment
unfoldable pub line_end : ℕ → Bool
line_end b = among b (bytes "\r\n")
