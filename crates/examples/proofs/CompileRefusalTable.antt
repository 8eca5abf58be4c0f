-- Texts that are refused, and outputs too short. The expectations are the second implementation's.
-- This file is written by `example_tables write` of second/. Assumes nothing.
use mathlib.Core.Path.{◌≡◌, refl}
use mathlib.Core.Bool.{true, false}
use mathlib.Core.List.{List, [], ◌∷◌}
use Rattle.lexis.specs.Text.{bytes}
use Rattle.lexis.proofs.Tables.{wrong}
use Rattle.table.proofs.Hex.{hex, filling}
use Rattle.compile.proofs.Computes.{compile_computes}
use Rattle.compile.proofs.Examples.{Case, compiles, refuses, right}

pub cases : List Case
cases =
    -- an output too short, at the text's end; and long enough
    refuses (bytes "A matches {*}") false [] 11 13
    ∷ refuses (bytes "A matches {*}") true (filling 7 1) 11 13
    ∷ refuses (bytes "A matches {*}") false (filling 7 24) 11 13
    ∷ refuses (bytes "A matches {*}") false (filling 7 48) 11 13
    ∷ refuses (bytes "A matches {*}") false (filling 7 48) 11 13
    ∷ compiles (bytes "A matches {*}") true (filling 7 49) 49 (hex "ADC00000 02000000 01000000 01000000 00000000 00000000 ADC00100 00000000 01000000 00000000 00000000 00000000 41")
    ∷ compiles (bytes "A matches {*}") false (filling 7 50) 49 (hex "C0AD0000 00000002 00000001 00000001 00000000 00000000 C0AD0100 00000000 00000001 00000000 00000000 00000000 41EE")
    ∷ refuses (bytes "A matches {*} -- end\n") false [] 11 21
    ∷ refuses (bytes "A matches {*} -- end\n") true (filling 7 1) 11 21
    ∷ refuses (bytes "A matches {*} -- end\n") false (filling 7 24) 11 21
    ∷ refuses (bytes "A matches {*} -- end\n") false (filling 7 48) 11 21
    ∷ refuses (bytes "A matches {*} -- end\n") false (filling 7 48) 11 21
    ∷ compiles (bytes "A matches {*} -- end\n") true (filling 7 49) 49 (hex "ADC00000 02000000 01000000 01000000 00000000 00000000 ADC00100 00000000 01000000 00000000 00000000 00000000 41")
    ∷ compiles (bytes "A matches {*} -- end\n") false (filling 7 50) 49 (hex "C0AD0000 00000002 00000001 00000001 00000000 00000000 C0AD0100 00000000 00000001 00000000 00000000 00000000 41EE")
    ∷ refuses (bytes "A[at1] matches {a matches {\"x\", \"\"} b matches {1}}") false [] 11 50
    ∷ refuses (bytes "A[at1] matches {a matches {\"x\", \"\"} b matches {1}}") true (filling 7 1) 11 50
    ∷ refuses (bytes "A[at1] matches {a matches {\"x\", \"\"} b matches {1}}") false (filling 7 24) 11 50
    ∷ refuses (bytes "A[at1] matches {a matches {\"x\", \"\"} b matches {1}}") false (filling 7 48) 11 50
    ∷ refuses (bytes "A[at1] matches {a matches {\"x\", \"\"} b matches {1}}") false (filling 7 174) 11 50
    ∷ compiles (bytes "A[at1] matches {a matches {\"x\", \"\"} b matches {1}}") true (filling 7 175) 175 (hex "ADC00000 07000000 07000000 01000000 00000000 00000000 ADC00100 00000000 01000000 01000000 03000000 02000000 ADC00202 04000000 01000000 03000000 05000000 00000000 ADC00500 05000000 01000000 00000000 00000000 04000000 ADC00500 00000000 00000000 00000000 00000000 00000000 ADC00202 06000000 01000000 06000000 00000000 00000000 ADC00400 01000000 01000000 00000000 00000000 00000000 41617431 617862")
    ∷ compiles (bytes "A[at1] matches {a matches {\"x\", \"\"} b matches {1}}") false (filling 7 176) 175 (hex "C0AD0000 00000007 00000007 00000001 00000000 00000000 C0AD0100 00000000 00000001 00000001 00000003 00000002 C0AD0202 00000004 00000001 00000003 00000005 00000000 C0AD0500 00000005 00000001 00000000 00000000 00000004 C0AD0500 00000000 00000000 00000000 00000000 00000000 C0AD0202 00000006 00000001 00000006 00000000 00000000 C0AD0400 00000001 00000001 00000000 00000000 00000000 41617431 61786240")
    -- faults of the text: the output is kept
    ∷ refuses [] true (filling 7 60) 2 0
    ∷ refuses (bytes "A") false (filling 7 60) 2 1
    ∷ refuses (bytes "A matches") true (filling 7 60) 2 9
    ∷ refuses (bytes "A matches {*") false (filling 7 60) 2 12
    ∷ refuses (bytes "A matches {*}}") true (filling 7 60) 2 13
    ∷ refuses (bytes "A matches {}") false (filling 7 60) 2 11
    ∷ refuses (bytes "a matches {*}") true (filling 7 60) 2 0
    ∷ refuses (bytes "A matches {a matches {5, \"a\"}}") false (filling 7 60) 2 25
    ∷ refuses (bytes "A matches {a matches {007}}") true (filling 7 60) 5 22
    ∷ refuses (bytes "A matches {a matches {2147483648}}") false (filling 7 60) 5 22
    ∷ refuses (bytes "A matches {a matches {|2004-02-30|}}") true (filling 7 60) 5 23
    ∷ refuses (bytes "A matches {a matches {|>0..<1|}}") false (filling 7 60) 6 29
    ∷ refuses (bytes "A matches {a matches {|>2147483647|}}") true (filling 7 60) 6 34
    ∷ refuses (bytes "A matches {a matches {5, |5..9|}}") false (filling 7 60) 9 25
    ∷ refuses (bytes "A matches {a matches {*} a matches {*}}") true (filling 7 60) 9 25
    ∷ refuses (bytes "A matches {a matches {1, 2, 3, 4, 5, 6, 7, 8, 9, 10, 11, 12, 13, 14, 15, 16, 17}}") false (filling 7 60) 7 77
    ∷ refuses (bytes "A matches {a existence matches {2} matches {*}}") true (filling 7 60) 2 32
    ∷ refuses (bytes "A matches {a matches {\"a}}") false (filling 7 60) 2 22
    ∷ refuses (bytes "A[at] matches {*}") true (filling 7 60) 2 1
    ∷ refuses (bytes "A matches {a matches {5.0}}") false (filling 7 60) 2 23
    ∷ refuses (bytes "A matches {a matches {Pd;}}") true (filling 7 60) 2 24
    ∷ refuses (bytes "A matches {a matches {PdT}}") false (filling 7 60) 2 25
    ∷ refuses (bytes "A matches {a matches {Pd, Pw}}") true (filling 7 60) 2 24
    ∷ refuses (bytes "A matches {a matches {-Pd}}") false (filling 7 60) 2 22
    ∷ refuses (bytes "A matches {a matches {|P1d..P2d|}}") true (filling 7 60) 2 23
    ∷ refuses (bytes "Pd}") false (filling 7 60) 2 2
    -- a fault of the text before an output too short
    ∷ refuses (bytes "A matches {a matches {|2004-02-30|}}") false (filling 7 3) 5 23
    ∷ refuses (bytes "A matches {a matches {|>0..<1|}}") false (filling 7 3) 6 29
    ∷ refuses (bytes "A matches {a matches {|>2147483647|}}") false (filling 7 3) 6 34
    ∷ refuses (bytes "A matches {a matches {5, |5..9|}}") false (filling 7 3) 9 25
    ∷ refuses (bytes "A matches {a matches {*} a matches {*}}") false (filling 7 3) 9 25
    ∷ refuses (bytes "A matches {a matches {1, 2, 3, 4, 5, 6, 7, 8, 9, 10, 11, 12, 13, 14, 15, 16, 17}}") false (filling 7 3) 7 77
    -- levels and lengths
    ∷ refuses (bytes "A matches {a matches {A matches {a matches {A matches {a matches {A matches {a matches {A matches {a matches {A matches {a matches {A matches {a matches {A matches {a matches {A matches {a matches {A matches {a matches {A matches {a matches {A matches {a matches {A matches {a matches {A matches {a matches {A matches {a matches {A matches {a matches {A matches {*}}}}}}}}}}}}}}}}}}}}}}}}}}}}}}}}}") false (filling 7 60) 3 352
    ∷ refuses (bytes "AAAAAAAAAAAAAAAAAAAAAAAAAAAAAAAAAAAAAAAAAAAAAAAAAAAAAAAAAAAAAAAA matches {*}") false (filling 7 60) 4 0
    ∷ refuses (bytes "A matches {a matches {\"xxxxxxxxxxxxxxxxxxxxxxxxxxxxxxxxxxxxxxxxxxxxxxxxxxxxxxxxxxxxxxxxxxxxxxxxxxxxxxxxxxxxxxxxxxxxxxxxxxxxxxxxxxxxxxxxxxxxxxxxxxxxxxxxxxxxxxxxxxxxxxxxxxxxxxxxxxxxxxxxxxxxxxxxxxxxxxxxxxxxxxxxxxxxxxxxxxxxxxxxxxxxxxxxxxxxxxxxxxxxxxxxxxxxxxxxxxxxxxxxxxxxxxxxxxxxxxxx\"}}") false (filling 7 60) 4 22
    ∷ refuses (bytes "A matches {a matches {A matches {a matches {A matches {a matches {A matches {a matches {A matches {a matches {A matches {a matches {A matches {a matches {A matches {a matches {A matches {a matches {A matches {a matches {A matches {a matches {A matches {a matches {A matches {a matches {A matches {a matches {A matches {a matches {A matches {a matches {Pd") false (filling 7 60) 3 352
    ∷ refuses (bytes "A matches {a matches {A matches {a matches {A matches {a matches {A matches {a matches {A matches {a matches {A matches {a matches {A matches {a matches {A matches {a matches {A matches {a matches {A matches {a matches {A matches {a matches {A matches {a matches {A matches {a matches {A matches {a matches {A matches {a matches {A matches {a matches {Pd}") false (filling 7 60) 2 355
    ∷ refuses (bytes "A matches {a matches {A matches {a matches {A matches {a matches {A matches {a matches {A matches {a matches {A matches {a matches {A matches {a matches {A matches {a matches {A matches {a matches {A matches {a matches {A matches {a matches {A matches {a matches {A matches {a matches {A matches {a matches {A matches {a matches {A matches {a matches {PD}}}}}}}}}}}}}}}}}}}}}}}}}}}}}}}}") false (filling 7 60) 3 352
    ∷ []

pub none_wrong : wrong right 0 cases ≡ []
unfolding wrong right cases compile_computes
none_wrong = refl
