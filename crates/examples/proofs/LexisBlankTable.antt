-- Blanks and comments: where a token may start, from each place of a text on. The expectations are the second implementation's.
-- This file is written by `example_tables write` of second/. Assumes nothing.
use mathlib.Core.Path.{◌≡◌, refl}
use mathlib.Core.List.{List, [], ◌∷◌}
use Rattle.lexis.specs.Text.{bytes}
use Rattle.lexis.proofs.Tables.{wrong}
use Rattle.lexis.proofs.Computes.{lexis_computes}
use Rattle.lexis.proofs.Examples.{BlankCase, starts, blank_right}

pub cases : List BlankCase
cases =
    -- blanks
    starts [] 0 0
    ∷ starts [] 1 1
    ∷ starts (bytes " ") 0 1
    ∷ starts (bytes " ") 1 1
    ∷ starts (bytes " ") 2 2
    ∷ starts (bytes "\t\r\n x") 0 4
    ∷ starts (bytes "\t\r\n x") 1 4
    ∷ starts (bytes "\t\r\n x") 2 4
    ∷ starts (bytes "\t\r\n x") 3 4
    ∷ starts (bytes "\t\r\n x") 4 4
    ∷ starts (bytes "\t\r\n x") 5 5
    ∷ starts (bytes "\t\r\n x") 6 6
    ∷ starts (bytes "x ") 0 0
    ∷ starts (bytes "x ") 1 2
    ∷ starts (bytes "x ") 2 2
    ∷ starts (bytes "x ") 3 3
    ∷ starts (bytes " \u{b}") 0 1
    ∷ starts (bytes " \u{b}") 1 1
    ∷ starts (bytes " \u{b}") 2 2
    ∷ starts (bytes " \u{b}") 3 3
    ∷ starts (bytes " \u{c}") 0 1
    ∷ starts (bytes " \u{c}") 1 1
    ∷ starts (bytes " \u{c}") 2 2
    ∷ starts (bytes " \u{c}") 3 3
    ∷ starts (bytes " \0") 0 1
    ∷ starts (bytes " \0") 1 1
    ∷ starts (bytes " \0") 2 2
    ∷ starts (bytes " \0") 3 3
    ∷ starts (bytes " \u{a0}") 0 1
    ∷ starts (bytes " \u{a0}") 1 1
    ∷ starts (bytes " \u{a0}") 2 2
    ∷ starts (bytes " \u{a0}") 3 3
    ∷ starts (bytes " _") 0 1
    ∷ starts (bytes " _") 1 1
    ∷ starts (bytes " _") 2 2
    ∷ starts (bytes " _") 3 3
    -- comments ended by CR, by LF, by the text's end
    ∷ starts (bytes "--\rx") 0 3
    ∷ starts (bytes "--\rx") 1 1
    ∷ starts (bytes "--\rx") 2 3
    ∷ starts (bytes "--\rx") 3 3
    ∷ starts (bytes "--\rx") 4 4
    ∷ starts (bytes "--\rx") 5 5
    ∷ starts (bytes "--\nx") 0 3
    ∷ starts (bytes "--\nx") 1 1
    ∷ starts (bytes "--\nx") 2 3
    ∷ starts (bytes "--\nx") 3 3
    ∷ starts (bytes "--\nx") 4 4
    ∷ starts (bytes "--\nx") 5 5
    ∷ starts (bytes "--x") 0 3
    ∷ starts (bytes "--x") 1 1
    ∷ starts (bytes "--x") 2 2
    ∷ starts (bytes "--x") 3 3
    ∷ starts (bytes "--x") 4 4
    ∷ starts (bytes "--\r\nx") 0 4
    ∷ starts (bytes "--\r\nx") 1 1
    ∷ starts (bytes "--\r\nx") 2 4
    ∷ starts (bytes "--\r\nx") 3 4
    ∷ starts (bytes "--\r\nx") 4 4
    ∷ starts (bytes "--\r\nx") 5 5
    ∷ starts (bytes "--\r\nx") 6 6
    ∷ starts (bytes "--a\r--b\nc") 0 8
    ∷ starts (bytes "--a\r--b\nc") 1 1
    ∷ starts (bytes "--a\r--b\nc") 2 2
    ∷ starts (bytes "--a\r--b\nc") 3 8
    ∷ starts (bytes "--a\r--b\nc") 4 8
    ∷ starts (bytes "--a\r--b\nc") 5 5
    ∷ starts (bytes "--a\r--b\nc") 6 6
    ∷ starts (bytes "--a\r--b\nc") 7 8
    ∷ starts (bytes "--a\r--b\nc") 8 8
    ∷ starts (bytes "--a\r--b\nc") 9 9
    ∷ starts (bytes "--a\r--b\nc") 10 10
    ∷ starts (bytes " --\t--\n --") 0 10
    ∷ starts (bytes " --\t--\n --") 1 10
    ∷ starts (bytes " --\t--\n --") 2 2
    ∷ starts (bytes " --\t--\n --") 3 10
    ∷ starts (bytes " --\t--\n --") 4 10
    ∷ starts (bytes " --\t--\n --") 5 5
    ∷ starts (bytes " --\t--\n --") 6 10
    ∷ starts (bytes " --\t--\n --") 7 10
    ∷ starts (bytes " --\t--\n --") 8 10
    ∷ starts (bytes " --\t--\n --") 9 9
    ∷ starts (bytes " --\t--\n --") 10 10
    ∷ starts (bytes " --\t--\n --") 11 11
    ∷ starts (bytes "--\0ÿ\"\\\nx") 0 7
    ∷ starts (bytes "--\0ÿ\"\\\nx") 1 1
    ∷ starts (bytes "--\0ÿ\"\\\nx") 2 2
    ∷ starts (bytes "--\0ÿ\"\\\nx") 3 3
    ∷ starts (bytes "--\0ÿ\"\\\nx") 4 4
    ∷ starts (bytes "--\0ÿ\"\\\nx") 5 5
    ∷ starts (bytes "--\0ÿ\"\\\nx") 6 7
    ∷ starts (bytes "--\0ÿ\"\\\nx") 7 7
    ∷ starts (bytes "--\0ÿ\"\\\nx") 8 8
    ∷ starts (bytes "--\0ÿ\"\\\nx") 9 9
    ∷ starts (bytes "-- ") 0 3
    ∷ starts (bytes "-- ") 1 1
    ∷ starts (bytes "-- ") 2 3
    ∷ starts (bytes "-- ") 3 3
    ∷ starts (bytes "-- ") 4 4
    ∷ starts (bytes "--\n") 0 3
    ∷ starts (bytes "--\n") 1 1
    ∷ starts (bytes "--\n") 2 3
    ∷ starts (bytes "--\n") 3 3
    ∷ starts (bytes "--\n") 4 4
    -- `--` inside a run is found from its own place on, and a single `-` is no comment
    ∷ starts (bytes "5--3") 0 0
    ∷ starts (bytes "5--3") 1 4
    ∷ starts (bytes "5--3") 2 2
    ∷ starts (bytes "5--3") 3 3
    ∷ starts (bytes "5--3") 4 4
    ∷ starts (bytes "5--3") 5 5
    ∷ starts (bytes "5--3\n7") 0 0
    ∷ starts (bytes "5--3\n7") 1 5
    ∷ starts (bytes "5--3\n7") 2 2
    ∷ starts (bytes "5--3\n7") 3 3
    ∷ starts (bytes "5--3\n7") 4 5
    ∷ starts (bytes "5--3\n7") 5 5
    ∷ starts (bytes "5--3\n7") 6 6
    ∷ starts (bytes "5--3\n7") 7 7
    ∷ starts (bytes "a--b\r--c\nd") 0 0
    ∷ starts (bytes "a--b\r--c\nd") 1 9
    ∷ starts (bytes "a--b\r--c\nd") 2 2
    ∷ starts (bytes "a--b\r--c\nd") 3 3
    ∷ starts (bytes "a--b\r--c\nd") 4 9
    ∷ starts (bytes "a--b\r--c\nd") 5 9
    ∷ starts (bytes "a--b\r--c\nd") 6 6
    ∷ starts (bytes "a--b\r--c\nd") 7 7
    ∷ starts (bytes "a--b\r--c\nd") 8 9
    ∷ starts (bytes "a--b\r--c\nd") 9 9
    ∷ starts (bytes "a--b\r--c\nd") 10 10
    ∷ starts (bytes "a--b\r--c\nd") 11 11
    ∷ starts (bytes "- -") 0 0
    ∷ starts (bytes "- -") 1 2
    ∷ starts (bytes "- -") 2 2
    ∷ starts (bytes "- -") 3 3
    ∷ starts (bytes "- -") 4 4
    ∷ starts (bytes "-") 0 0
    ∷ starts (bytes "-") 1 1
    ∷ starts (bytes "-") 2 2
    ∷ starts (bytes "-x") 0 0
    ∷ starts (bytes "-x") 1 1
    ∷ starts (bytes "-x") 2 2
    ∷ starts (bytes "-x") 3 3
    ∷ starts (bytes "---\nx") 0 4
    ∷ starts (bytes "---\nx") 1 4
    ∷ starts (bytes "---\nx") 2 2
    ∷ starts (bytes "---\nx") 3 4
    ∷ starts (bytes "---\nx") 4 4
    ∷ starts (bytes "---\nx") 5 5
    ∷ starts (bytes "---\nx") 6 6
    ∷ starts (bytes "----") 0 4
    ∷ starts (bytes "----") 1 4
    ∷ starts (bytes "----") 2 4
    ∷ starts (bytes "----") 3 3
    ∷ starts (bytes "----") 4 4
    ∷ starts (bytes "----") 5 5
    ∷ starts (bytes "-\n-") 0 0
    ∷ starts (bytes "-\n-") 1 2
    ∷ starts (bytes "-\n-") 2 2
    ∷ starts (bytes "-\n-") 3 3
    ∷ starts (bytes "-\n-") 4 4
    -- other marks open no comment
    ∷ starts (bytes "//x") 0 0
    ∷ starts (bytes "//x") 1 1
    ∷ starts (bytes "//x") 2 2
    ∷ starts (bytes "//x") 3 3
    ∷ starts (bytes "//x") 4 4
    ∷ starts (bytes "#x") 0 0
    ∷ starts (bytes "#x") 1 1
    ∷ starts (bytes "#x") 2 2
    ∷ starts (bytes "#x") 3 3
    ∷ starts (bytes "+/---5\n6") 0 0
    ∷ starts (bytes "+/---5\n6") 1 1
    ∷ starts (bytes "+/---5\n6") 2 7
    ∷ starts (bytes "+/---5\n6") 3 7
    ∷ starts (bytes "+/---5\n6") 4 4
    ∷ starts (bytes "+/---5\n6") 5 5
    ∷ starts (bytes "+/---5\n6") 6 7
    ∷ starts (bytes "+/---5\n6") 7 7
    ∷ starts (bytes "+/---5\n6") 8 8
    ∷ starts (bytes "+/---5\n6") 9 9
    ∷ starts (bytes "\"--\"") 0 0
    ∷ starts (bytes "\"--\"") 1 4
    ∷ starts (bytes "\"--\"") 2 2
    ∷ starts (bytes "\"--\"") 3 3
    ∷ starts (bytes "\"--\"") 4 4
    ∷ starts (bytes "\"--\"") 5 5
    ∷ starts (bytes "<!--x") 0 0
    ∷ starts (bytes "<!--x") 1 1
    ∷ starts (bytes "<!--x") 2 5
    ∷ starts (bytes "<!--x") 3 3
    ∷ starts (bytes "<!--x") 4 4
    ∷ starts (bytes "<!--x") 5 5
    ∷ starts (bytes "<!--x") 6 6
    ∷ []

pub none_wrong : wrong blank_right 0 cases ≡ []
unfolding wrong blank_right cases lexis_computes
none_wrong = refl
