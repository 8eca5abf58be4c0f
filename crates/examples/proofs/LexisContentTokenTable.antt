-- Constraint texts and the token where a value may stand, from a place on. The expectations are the second implementation's.
-- This file is written by `example_tables write` of second/. Assumes nothing.
use mathlib.Core.Path.{◌≡◌, refl}
use mathlib.Core.List.{List, [], ◌∷◌}
use Prim.Native.Nat.{◌+◌}
use Rattle.lexis.specs.Text.{bytes}
use Rattle.lexis.specs.Spelling.{matches, true_word, false_word, open_brace, close_brace, star, bar, date_pattern, time_pattern}
use Rattle.lexis.specs.Tokens.{token, text_end, unreadable, type_name, name, code, integer, date, string}
use Rattle.lexis.specs.Durations.{duration_pattern}
use Rattle.lexis.proofs.Tables.{wrong}
use Rattle.lexis.proofs.Computes.{lexis_computes}
use Rattle.lexis.proofs.Examples.{ContentCase, content_reads, content_right}

pub cases : List ContentCase
cases =
    -- patterns before a `}`, past blanks and comments
    content_reads (bytes "Pd}") 0 (token (duration_pattern + 8) 0 2)
    ∷ content_reads (bytes "Pwd}") 0 (token (duration_pattern + 12) 0 3)
    ∷ content_reads (bytes "PTm}") 0 (token (duration_pattern + 32) 0 3)
    ∷ content_reads (bytes "Pm}") 0 (token (duration_pattern + 2) 0 2)
    ∷ content_reads (bytes "PThm}") 0 (token (duration_pattern + 48) 0 4)
    ∷ content_reads (bytes "PmTm}") 0 (token (duration_pattern + 34) 0 4)
    ∷ content_reads (bytes "PymwdThms}") 0 (token (duration_pattern + 127) 0 9)
    ∷ content_reads (bytes "Py}") 0 (token (duration_pattern + 1) 0 2)
    ∷ content_reads (bytes "Pw}") 0 (token (duration_pattern + 4) 0 2)
    ∷ content_reads (bytes "PTh}") 0 (token (duration_pattern + 16) 0 3)
    ∷ content_reads (bytes "PTs}") 0 (token (duration_pattern + 64) 0 3)
    ∷ content_reads (bytes "Pd }") 0 (token (duration_pattern + 8) 0 2)
    ∷ content_reads (bytes " \tPd\r\n}") 0 (token (duration_pattern + 8) 2 4)
    ∷ content_reads (bytes "Pd --c\n}") 0 (token (duration_pattern + 8) 0 2)
    ∷ content_reads (bytes "Pd--c\n}") 0 (token (duration_pattern + 8) 0 2)
    ∷ content_reads (bytes "Pd--}\r}") 0 (token (duration_pattern + 8) 0 2)
    ∷ content_reads (bytes "--c\nPd--\r--\n }") 0 (token (duration_pattern + 8) 4 6)
    ∷ content_reads (bytes "Pd}}") 0 (token (duration_pattern + 8) 0 2)
    ∷ content_reads (bytes "Pd}ÿ") 0 (token (duration_pattern + 8) 0 2)
    ∷ content_reads (bytes "Pd} matches {*}") 0 (token (duration_pattern + 8) 0 2)
    -- patterns before something else are TYPEs
    ∷ content_reads (bytes "Pd") 0 (token type_name 0 2)
    ∷ content_reads (bytes "Pd ") 0 (token type_name 0 2)
    ∷ content_reads (bytes "Pd --}") 0 (token type_name 0 2)
    ∷ content_reads (bytes "Pd--}") 0 (token type_name 0 2)
    ∷ content_reads (bytes "Pd;") 0 (token type_name 0 2)
    ∷ content_reads (bytes "Pd;}") 0 (token type_name 0 2)
    ∷ content_reads (bytes "Pd,") 0 (token type_name 0 2)
    ∷ content_reads (bytes "Pd, Pw}") 0 (token type_name 0 2)
    ∷ content_reads (bytes "Pd Pd}") 0 (token type_name 0 2)
    ∷ content_reads (bytes "Pd matches {*}}") 0 (token type_name 0 2)
    ∷ content_reads (bytes "Pd[at1] matches {*}}") 0 (token type_name 0 2)
    ∷ content_reads (bytes "Pd[at1]}") 0 (token type_name 0 2)
    ∷ content_reads (bytes "Pd]}") 0 (token type_name 0 2)
    ∷ content_reads (bytes "Pd]") 0 (token type_name 0 2)
    ∷ content_reads (bytes "Pd[}") 0 (token type_name 0 2)
    ∷ content_reads (bytes "Pd{}") 0 (token type_name 0 2)
    ∷ content_reads (bytes "Pd*}") 0 (token type_name 0 2)
    ∷ content_reads (bytes "Pd..}") 0 (token type_name 0 2)
    ∷ content_reads (bytes "Pd\"\"}") 0 (token type_name 0 2)
    ∷ content_reads (bytes "Pd-}") 0 (token type_name 0 2)
    ∷ content_reads (bytes "Pd- -}") 0 (token type_name 0 2)
    ∷ content_reads (bytes "Pdâ\u{88}\u{88}{*}}") 0 (token type_name 0 2)
    ∷ content_reads (bytes "Pd\0}") 0 (token type_name 0 2)
    ∷ content_reads (bytes "Pd\u{b}}") 0 (token type_name 0 2)
    ∷ content_reads (bytes "PTmâ}") 0 (token type_name 0 3)
    ∷ content_reads (bytes "Pd>}") 0 (token type_name 0 2)
    ∷ content_reads (bytes "Pd+/-}") 0 (token type_name 0 2)
    -- TYPEs that are no patterns
    ∷ content_reads (bytes "P}") 0 (token type_name 0 1)
    ∷ content_reads (bytes "PT}") 0 (token type_name 0 2)
    ∷ content_reads (bytes "PD}") 0 (token type_name 0 2)
    ∷ content_reads (bytes "PdT}") 0 (token type_name 0 3)
    ∷ content_reads (bytes "Pdm}") 0 (token type_name 0 3)
    ∷ content_reads (bytes "Pdd}") 0 (token type_name 0 3)
    ∷ content_reads (bytes "Pt}") 0 (token type_name 0 2)
    ∷ content_reads (bytes "P1d}") 0 (token type_name 0 3)
    ∷ content_reads (bytes "PdX}") 0 (token type_name 0 3)
    ∷ content_reads (bytes "Pd_}") 0 (token type_name 0 3)
    ∷ content_reads (bytes "Pd1}") 0 (token type_name 0 3)
    ∷ content_reads (bytes "PTM}") 0 (token type_name 0 3)
    ∷ content_reads (bytes "Pdh}") 0 (token type_name 0 3)
    ∷ content_reads (bytes "PTd}") 0 (token type_name 0 3)
    ∷ content_reads (bytes "PdPd}") 0 (token type_name 0 4)
    ∷ content_reads (bytes "P d}") 0 (token type_name 0 1)
    ∷ content_reads (bytes "PymwdThmsx}") 0 (token type_name 0 10)
    ∷ content_reads (bytes "A}") 0 (token type_name 0 1)
    ∷ content_reads (bytes "Thh}") 0 (token type_name 0 3)
    ∷ content_reads (bytes "PYMWDTHMS}") 0 (token type_name 0 9)
    -- other tokens before a `}`
    ∷ content_reads (bytes "}") 0 (token close_brace 0 1)
    ∷ content_reads [] 0 (token text_end 0 0)
    ∷ content_reads (bytes " ") 0 (token text_end 1 1)
    ∷ content_reads (bytes "*}") 0 (token star 0 1)
    ∷ content_reads (bytes "5}") 0 (token integer 0 1)
    ∷ content_reads (bytes "True}") 0 (token true_word 0 4)
    ∷ content_reads (bytes "False}") 0 (token false_word 0 5)
    ∷ content_reads (bytes "yyyy-mm-dd}") 0 (token (date_pattern + 1) 0 10)
    ∷ content_reads (bytes "Thh:mm:ss}") 0 (token (time_pattern + 1) 0 9)
    ∷ content_reads (bytes "\"Pd\"}") 0 (token string 0 4)
    ∷ content_reads (bytes "\"Pd}") 0 (token unreadable 0 0)
    ∷ content_reads (bytes "pd}") 0 (token name 0 2)
    ∷ content_reads (bytes "-Pd}") 0 (token unreadable 0 0)
    ∷ content_reads (bytes "|Pd|}") 0 (token bar 0 1)
    ∷ content_reads (bytes "[at1]}") 0 (token code 0 5)
    ∷ content_reads (bytes "matches}") 0 (token matches 0 7)
    ∷ content_reads (bytes "2004-05-20}") 0 (token date 0 10)
    ∷ content_reads (bytes "-5}") 0 (token integer 0 2)
    ∷ content_reads (bytes "{Pd}") 0 (token open_brace 0 1)
    ∷ content_reads (bytes ";}") 0 (token unreadable 0 0)
    -- from other places on
    ∷ content_reads (bytes "A matches {a matches {Pwd}}") 0 (token type_name 0 1)
    ∷ content_reads (bytes "A matches {a matches {Pwd}}") 1 (token matches 2 9)
    ∷ content_reads (bytes "A matches {a matches {Pwd}}") 2 (token matches 2 9)
    ∷ content_reads (bytes "A matches {a matches {Pwd}}") 10 (token open_brace 10 11)
    ∷ content_reads (bytes "A matches {a matches {Pwd}}") 11 (token name 11 12)
    ∷ content_reads (bytes "A matches {a matches {Pwd}}") 13 (token matches 13 20)
    ∷ content_reads (bytes "A matches {a matches {Pwd}}") 21 (token open_brace 21 22)
    ∷ content_reads (bytes "A matches {a matches {Pwd}}") 22 (token (duration_pattern + 12) 22 25)
    ∷ content_reads (bytes "A matches {a matches {Pwd}}") 23 (token name 23 25)
    ∷ content_reads (bytes "A matches {a matches {Pwd}}") 24 (token name 24 25)
    ∷ content_reads (bytes "A matches {a matches {Pwd}}") 25 (token close_brace 25 26)
    ∷ content_reads (bytes "A matches {a matches {Pwd}}") 26 (token close_brace 26 27)
    ∷ content_reads (bytes "A matches {a matches {Pwd}}") 27 (token text_end 27 27)
    ∷ []

pub none_wrong : wrong content_right 0 cases ≡ []
unfolding wrong content_right cases lexis_computes
none_wrong = refl
