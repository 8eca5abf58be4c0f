-- Objects, attributes, existence, codes and limits. The expectations are the second implementation's.
-- This file is written by `example_tables write` of second/. Assumes nothing.
use mathlib.Core.Path.{◌≡◌, refl}
use mathlib.Core.List.{List, [], ◌∷◌}
use lib.ListN.{replicate}
use Rattle.lexis.specs.Text.{bytes}
use Rattle.lexis.proofs.Tables.{wrong}
use Rattle.meaning.specs.Constraints.{no_more, any, nested, leaf, single, ranges, texts, booleans, integers, date_pattern, duration_pattern}
use Rattle.meaning.proofs.Trees.{range, item, object_with, attribute_with, object_list}
use Rattle.cadl_objects.proofs.Computes.{constraint_computes}
use Rattle.cadl_objects.proofs.Examples.{Case, accepts, refuses, right}

pub cases : List Case
cases =
    -- the smallest text, cut off at each token, and with a token too many
    accepts (bytes "A matches {*}") (object_with 1 (bytes "A") [] no_more)
    ∷ refuses (bytes "A matches {*") 2 12
    ∷ refuses (bytes "A matches {") 2 11
    ∷ refuses (bytes "A matches") 2 9
    ∷ refuses (bytes "A") 2 1
    ∷ refuses [] 2 0
    ∷ refuses (bytes " \t\r\n") 2 4
    ∷ refuses (bytes "A matches {}") 2 11
    ∷ refuses (bytes "A matches {*}}") 2 13
    ∷ refuses (bytes "A matches {*} B") 2 14
    ∷ refuses (bytes "A matches {**}") 2 12
    ∷ refuses (bytes "A matches *}") 2 10
    ∷ refuses (bytes "A {*}") 2 2
    ∷ refuses (bytes "matches {*}") 2 0
    ∷ refuses (bytes "A matches matches {*}") 2 10
    ∷ refuses (bytes "A A matches {*}") 2 2
    ∷ refuses (bytes "A matches {* a matches {*}}") 2 13
    ∷ refuses (bytes "A matches {a matches {*} *}") 2 25
    -- no separator is needed, any may stand, and a comment may end at the text's end
    ∷ accepts (bytes "A[at1]matches{*}") (object_with 1 (bytes "A") (bytes "at1") no_more)
    ∷ accepts (bytes "A[at1]matches{a matches{5}b matches{True}}") (object_with 1 (bytes "A") (bytes "at1") (attribute_with 2 2 (bytes "a") (leaf (ranges integers (range 3 2_147_483_653 2_147_483_653 ∷ []))) (attribute_with 4 2 (bytes "b") (leaf (single booleans 5 1)) no_more)))
    ∷ accepts (bytes "Aâ\u{88}\u{88}{aâ\u{88}\u{88}{5}}") (object_with 1 (bytes "A") [] (attribute_with 2 2 (bytes "a") (leaf (ranges integers (range 3 2_147_483_653 2_147_483_653 ∷ []))) no_more))
    ∷ accepts (bytes "\r\nA\tmatches\n{ * }\r") (object_with 1 (bytes "A") [] no_more)
    ∷ accepts (bytes "A matches {*}  ") (object_with 1 (bytes "A") [] no_more)
    ∷ refuses (bytes "A matches {*  ") 2 14
    ∷ accepts (bytes "--\0ÿ\nA--{\rmatches--\n{--*\n*--\n}--") (object_with 1 (bytes "A") [] no_more)
    ∷ refuses (bytes "A matches {* -- }") 2 17
    ∷ accepts (bytes "A matches {* -- }\r}") (object_with 1 (bytes "A") [] no_more)
    ∷ accepts (bytes "A matches {a existence matches { 0 .. 1 } matches { | > 5 .. < 9 | } }") (object_with 1 (bytes "A") [] (attribute_with 2 1 (bytes "a") (leaf (ranges integers (range 3 2_147_483_654 2_147_483_656 ∷ []))) no_more))
    ∷ refuses (bytes "Amatches {*}") 2 9
    ∷ refuses (bytes "A matchesx {*}") 2 2
    -- other spellings of the keywords are none
    ∷ refuses (bytes "A Matches {*}") 2 2
    ∷ refuses (bytes "A is_in {*}") 2 2
    ∷ refuses (bytes "A â\u{88}{*}") 2 2
    ∷ refuses (bytes "A â\u{88}\u{87}{*}") 2 2
    ∷ refuses (bytes "A matchesâ\u{88}\u{88}{*}") 2 9
    ∷ refuses (bytes "A : {*}") 2 2
    -- TYPEs: True and False are none
    ∷ refuses (bytes "True matches {*}") 2 0
    ∷ refuses (bytes "False matches {*}") 2 0
    ∷ accepts (bytes "TRUE matches {*}") (object_with 1 (bytes "TRUE") [] no_more)
    ∷ accepts (bytes "True1 matches {*}") (object_with 1 (bytes "True1") [] no_more)
    ∷ accepts (bytes "A_1b matches {*}") (object_with 1 (bytes "A_1b") [] no_more)
    ∷ refuses (bytes "a matches {*}") 2 0
    ∷ refuses (bytes "_A matches {*}") 2 0
    ∷ refuses (bytes "1A matches {*}") 2 0
    ∷ accepts (bytes "Thh matches {*}") (object_with 1 (bytes "Thh") [] no_more)
    ∷ refuses (bytes "Thh:mm matches {*}") 2 3
    ∷ refuses (bytes "Thh:mm:ss matches {*}") 2 0
    ∷ refuses (bytes "T matches {a matches {True matches {*}}}") 2 27
    ∷ accepts (bytes "T matches {a matches {True_ matches {*}}}") (object_with 1 (bytes "T") [] (attribute_with 2 2 (bytes "a") (nested (object_with 3 (bytes "True_") [] no_more)) no_more))
    ∷ accepts (bytes "Pd matches {*}") (object_with 1 (bytes "Pd") [] no_more)
    ∷ refuses (bytes "Pd") 2 2
    ∷ refuses (bytes "Pd}") 2 2
    ∷ refuses (bytes "A matches {Pd}") 2 11
    ∷ refuses (bytes "A matches {a existence matches {Pd} matches {*}}") 2 32
    ∷ accepts (bytes "PymwdThms[at1] matches {a matches {PTm matches {b matches {PTm}}}}") (object_with 1 (bytes "PymwdThms") (bytes "at1") (attribute_with 2 2 (bytes "a") (nested (object_with 3 (bytes "PTm") [] (attribute_with 4 2 (bytes "b") (leaf (single duration_pattern 5 32)) no_more))) no_more))
    -- NAMEs: the keywords are none
    ∷ refuses (bytes "A matches {matches matches {*}}") 2 11
    ∷ refuses (bytes "A matches {existence matches {*}}") 2 11
    ∷ accepts (bytes "A matches {matchesx matches {*}}") (object_with 1 (bytes "A") [] (attribute_with 2 2 (bytes "matchesx") any no_more))
    ∷ accepts (bytes "A matches {existenc matches {*}}") (object_with 1 (bytes "A") [] (attribute_with 2 2 (bytes "existenc") any no_more))
    ∷ accepts (bytes "A matches {a_B1 matches {*}}") (object_with 1 (bytes "A") [] (attribute_with 2 2 (bytes "a_B1") any no_more))
    ∷ accepts (bytes "A matches {true matches {*}}") (object_with 1 (bytes "A") [] (attribute_with 2 2 (bytes "true") any no_more))
    ∷ accepts (bytes "A matches {yyyy matches {*}}") (object_with 1 (bytes "A") [] (attribute_with 2 2 (bytes "yyyy") any no_more))
    ∷ refuses (bytes "A matches {yyyy-mm-dd matches {*}}") 2 11
    ∷ refuses (bytes "A matches {yyyy-mm-d matches {*}}") 2 15
    ∷ refuses (bytes "A matches {B matches {*}}") 2 11
    ∷ refuses (bytes "A matches {5}") 2 11
    ∷ refuses (bytes "A matches {_a matches {*}}") 2 11
    -- attributes and objects inside them: numbers in text order
    ∷ accepts (bytes "A matches {a matches {*}}") (object_with 1 (bytes "A") [] (attribute_with 2 2 (bytes "a") any no_more))
    ∷ accepts (bytes "A matches {a matches {B matches {*}}}") (object_with 1 (bytes "A") [] (attribute_with 2 2 (bytes "a") (nested (object_with 3 (bytes "B") [] no_more)) no_more))
    ∷ accepts (bytes "A[at1] matches {a matches {B[at1.1] matches {b matches {5} c matches {*}}} d matches {\"x\", \"y\"} e matches {True}}") (object_with 1 (bytes "A") (bytes "at1") (attribute_with 2 2 (bytes "a") (nested (object_with 3 (bytes "B") (bytes "at1.1") (attribute_with 4 2 (bytes "b") (leaf (ranges integers (range 5 2_147_483_653 2_147_483_653 ∷ []))) (attribute_with 6 2 (bytes "c") any no_more)))) (attribute_with 7 2 (bytes "d") (leaf (texts (item 8 (bytes "x") ∷ item 9 (bytes "y") ∷ []))) (attribute_with 10 2 (bytes "e") (leaf (single booleans 11 1)) no_more))))
    ∷ accepts (bytes "A matches {a matches {1, 2, 3} b matches {*} c matches {False, True}}") (object_with 1 (bytes "A") [] (attribute_with 2 2 (bytes "a") (leaf (ranges integers (range 3 2_147_483_649 2_147_483_649 ∷ range 4 2_147_483_650 2_147_483_650 ∷ range 5 2_147_483_651 2_147_483_651 ∷ []))) (attribute_with 6 2 (bytes "b") any (attribute_with 7 2 (bytes "c") (leaf (single booleans 8 3)) no_more))))
    ∷ accepts (bytes "A matches {a matches {A matches {a matches {A matches {a matches {yyyy-mm-dd}}}}}}") (object_with 1 (bytes "A") [] (attribute_with 2 2 (bytes "a") (nested (object_with 3 (bytes "A") [] (attribute_with 4 2 (bytes "a") (nested (object_with 5 (bytes "A") [] (attribute_with 6 2 (bytes "a") (leaf (single date_pattern 7 1)) no_more))) no_more))) no_more))
    ∷ refuses (bytes "A matches {a matches {}}") 2 22
    ∷ refuses (bytes "A matches {a matches {* 5}}") 2 24
    ∷ refuses (bytes "A matches {a matches {*}, b matches {*}}") 2 24
    ∷ refuses (bytes "A matches {a}") 2 12
    ∷ refuses (bytes "A matches {a matches}") 2 20
    ∷ refuses (bytes "A matches {a matches {*}") 2 24
    ∷ refuses (bytes "A matches {a matches {B}}") 2 23
    ∷ refuses (bytes "A matches {a matches {B matches {b matches {*}}}") 2 48
    ∷ accepts (bytes "A matches {a matches {Pd} b matches {Pd matches {*}} c existence matches {0} matches {PThm}}") (object_with 1 (bytes "A") [] (attribute_with 2 2 (bytes "a") (leaf (single duration_pattern 3 8)) (attribute_with 4 2 (bytes "b") (nested (object_with 5 (bytes "Pd") [] no_more)) (attribute_with 6 0 (bytes "c") (leaf (single duration_pattern 7 48)) no_more))))
    ∷ refuses (bytes "A matches {a matches {Pd} a matches {Pw}}") 9 26
    ∷ refuses (bytes "A matches {a matches {Pd") 2 24
    ∷ refuses (bytes "A matches {a matches {Pd}") 2 25
    ∷ refuses (bytes "A matches {a matches {Pd}}}") 2 26
    ∷ refuses (bytes "A matches {a matches {Pd --}}") 2 29
    -- names: one that begins like another is another; a repeated one is told where it first comes again
    ∷ accepts (bytes "A matches {a matches {*} ab matches {*}}") (object_with 1 (bytes "A") [] (attribute_with 2 2 (bytes "a") any (attribute_with 3 2 (bytes "ab") any no_more)))
    ∷ accepts (bytes "A matches {ab matches {*} a matches {*}}") (object_with 1 (bytes "A") [] (attribute_with 2 2 (bytes "ab") any (attribute_with 3 2 (bytes "a") any no_more)))
    ∷ refuses (bytes "A matches {a matches {*} b matches {*} b matches {*} a matches {*}}") 9 39
    ∷ refuses (bytes "A matches {a matches {*} a matches {*}}") 9 25
    ∷ refuses (bytes "A matches {a matches {*} b matches {*} a") 9 39
    ∷ refuses (bytes "A matches {a matches {*} b matches {*} c matches {*} a matches {*}}") 9 53
    ∷ accepts (bytes "A matches {a matches {B matches {a matches {*}}} b matches {*}}") (object_with 1 (bytes "A") [] (attribute_with 2 2 (bytes "a") (nested (object_with 3 (bytes "B") [] (attribute_with 4 2 (bytes "a") any no_more))) (attribute_with 5 2 (bytes "b") any no_more)))
    ∷ accepts (bytes "A matches {a matches {B matches {b matches {*}}} b matches {*}}") (object_with 1 (bytes "A") [] (attribute_with 2 2 (bytes "a") (nested (object_with 3 (bytes "B") [] (attribute_with 4 2 (bytes "b") any no_more))) (attribute_with 5 2 (bytes "b") any no_more)))
    ∷ refuses (bytes "A matches {a matches {B matches {b matches {*} b matches {*}}}}") 9 47
    ∷ refuses (bytes "A matches {a matches {*} A matches {*}}") 2 25
    ∷ accepts (bytes "A matches {a matches {*} aB matches {*} ab matches {*}}") (object_with 1 (bytes "A") [] (attribute_with 2 2 (bytes "a") any (attribute_with 3 2 (bytes "aB") any (attribute_with 4 2 (bytes "ab") any no_more))))
    -- existence as it may be spelled
    ∷ accepts (bytes "A matches {a existence matches {0} matches {*}}") (object_with 1 (bytes "A") [] (attribute_with 2 0 (bytes "a") any no_more))
    ∷ accepts (bytes "A matches {a existence matches {1} matches {*}}") (object_with 1 (bytes "A") [] (attribute_with 2 2 (bytes "a") any no_more))
    ∷ accepts (bytes "A matches {a existence matches {0..0} matches {*}}") (object_with 1 (bytes "A") [] (attribute_with 2 0 (bytes "a") any no_more))
    ∷ accepts (bytes "A matches {a existence matches {0..1} matches {*}}") (object_with 1 (bytes "A") [] (attribute_with 2 1 (bytes "a") any no_more))
    ∷ accepts (bytes "A matches {a existence matches {1..1} matches {*}}") (object_with 1 (bytes "A") [] (attribute_with 2 2 (bytes "a") any no_more))
    ∷ accepts (bytes "A matches {a existence matches { 0 .. 0 } matches {*}}") (object_with 1 (bytes "A") [] (attribute_with 2 0 (bytes "a") any no_more))
    ∷ accepts (bytes "A matches {a existence matches {1--\n..--\r1} matches {*}}") (object_with 1 (bytes "A") [] (attribute_with 2 2 (bytes "a") any no_more))
    -- existence as it may not be spelled
    ∷ refuses (bytes "A matches {a existence matches {00} matches {*}}") 2 32
    ∷ refuses (bytes "A matches {a existence matches {-0} matches {*}}") 2 32
    ∷ refuses (bytes "A matches {a existence matches {2} matches {*}}") 2 32
    ∷ refuses (bytes "A matches {a existence matches {0..01} matches {*}}") 2 35
    ∷ refuses (bytes "A matches {a existence matches {1..0} matches {*}}") 2 35
    ∷ refuses (bytes "A matches {a existence matches {0..2} matches {*}}") 2 35
    ∷ refuses (bytes "A matches {a existence matches {0..00} matches {*}}") 2 35
    ∷ refuses (bytes "A matches {a existence matches {1..01} matches {*}}") 2 35
    ∷ refuses (bytes "A matches {a existence matches {1..2} matches {*}}") 2 35
    ∷ refuses (bytes "A matches {a existence matches {01..1} matches {*}}") 2 32
    ∷ refuses (bytes "A matches {a existence matches {*} matches {*}}") 2 32
    ∷ refuses (bytes "A matches {a existence matches {} matches {*}}") 2 32
    ∷ refuses (bytes "A matches {a existence matches {0..} matches {*}}") 2 35
    ∷ refuses (bytes "A matches {a existence matches {..1} matches {*}}") 2 32
    ∷ refuses (bytes "A matches {a existence matches {1..1..1} matches {*}}") 2 36
    ∷ refuses (bytes "A matches {a existence matches {0 1} matches {*}}") 2 34
    ∷ refuses (bytes "A matches {a existence matches {0,1} matches {*}}") 2 33
    ∷ refuses (bytes "A matches {a existence matches {|0..1|} matches {*}}") 2 32
    ∷ refuses (bytes "A matches {a existence matches {0..<1} matches {*}}") 2 35
    ∷ refuses (bytes "A matches {a existence matches {>=0} matches {*}}") 2 32
    ∷ refuses (bytes "A matches {a existence matches {0..*} matches {*}}") 2 35
    ∷ refuses (bytes "A matches {a existence matches {1.1} matches {*}}") 2 33
    ∷ refuses (bytes "A matches {a existence matches {0...1} matches {*}}") 2 35
    ∷ refuses (bytes "A matches {a existence matches {-1} matches {*}}") 2 32
    ∷ refuses (bytes "A matches {a existence matches {True} matches {*}}") 2 32
    ∷ refuses (bytes "A matches {a existence matches {2004-01-01} matches {*}}") 2 32
    ∷ refuses (bytes "A matches {a existence matches {0..\"1\"} matches {*}}") 2 35
    -- existence where it may not stand, or not whole
    ∷ refuses (bytes "A matches {a existence {0} matches {*}}") 2 23
    ∷ refuses (bytes "A matches {a existence matches 0 matches {*}}") 2 31
    ∷ refuses (bytes "A matches {a existence matches {0 matches {*}}") 2 34
    ∷ refuses (bytes "A matches {a existence matches {0}}") 2 34
    ∷ refuses (bytes "A matches {a existence matches {0} {*}}") 2 35
    ∷ refuses (bytes "A matches {a matches {*} existence matches {0}}") 2 25
    ∷ refuses (bytes "A matches {a existence matches {0} existence matches {0} matches {*}}") 2 35
    ∷ refuses (bytes "A existence matches {0} matches {*}") 2 2
    ∷ accepts (bytes "A matches {a existence matches {0} matches {5} b existence matches {0..1} matches {B matches {*}}}") (object_with 1 (bytes "A") [] (attribute_with 2 0 (bytes "a") (leaf (ranges integers (range 3 2_147_483_653 2_147_483_653 ∷ []))) (attribute_with 4 1 (bytes "b") (nested (object_with 5 (bytes "B") [] no_more)) no_more)))
    -- codes
    ∷ accepts (bytes "A[at1] matches {*}") (object_with 1 (bytes "A") (bytes "at1") no_more)
    ∷ accepts (bytes "A [at0001] matches {*}") (object_with 1 (bytes "A") (bytes "at0001") no_more)
    ∷ accepts (bytes "A[at1.2] matches {*}") (object_with 1 (bytes "A") (bytes "at1.2") no_more)
    ∷ accepts (bytes "A[at1.0.12] matches {*}") (object_with 1 (bytes "A") (bytes "at1.0.12") no_more)
    ∷ accepts (bytes "A --\n[at0] matches {*}") (object_with 1 (bytes "A") (bytes "at0") no_more)
    -- codes of 31 bytes and of 32
    ∷ accepts (bytes "A[at012345678901234567890123456.8] matches {*}") (object_with 1 (bytes "A") (bytes "at012345678901234567890123456.8") no_more)
    ∷ refuses (bytes "A[at0123456789012345678901234567.9] matches {*}") 4 1
    ∷ accepts (bytes "A[at01234567890123456789012345678] matches {*}") (object_with 1 (bytes "A") (bytes "at01234567890123456789012345678") no_more)
    ∷ refuses (bytes "A[at012345678901234567890123456789] matches {*}") 4 1
    -- what is no code, or stands where none may
    ∷ refuses (bytes "A[at] matches {*}") 2 1
    ∷ refuses (bytes "A[at1.] matches {*}") 2 1
    ∷ refuses (bytes "A[at1..2] matches {*}") 2 1
    ∷ refuses (bytes "A[at.1] matches {*}") 2 1
    ∷ refuses (bytes "A[ at1] matches {*}") 2 1
    ∷ refuses (bytes "A[at1 ] matches {*}") 2 1
    ∷ refuses (bytes "A[at 1] matches {*}") 2 1
    ∷ refuses (bytes "A[ac1] matches {*}") 2 1
    ∷ refuses (bytes "A[id1] matches {*}") 2 1
    ∷ refuses (bytes "A[AT1] matches {*}") 2 1
    ∷ refuses (bytes "A[aT1] matches {*}") 2 1
    ∷ refuses (bytes "A[at1 matches {*}") 2 1
    ∷ refuses (bytes "A[at1x] matches {*}") 2 1
    ∷ refuses (bytes "A[at1]] matches {*}") 2 6
    ∷ accepts (bytes "Aat1 matches {*}") (object_with 1 (bytes "Aat1") [] no_more)
    ∷ refuses (bytes "A[at1][at2] matches {*}") 2 6
    ∷ refuses (bytes "A[] matches {*}") 2 1
    ∷ refuses (bytes "A[ matches {*}") 2 1
    -- a code too long behind a fault, and a code where none may stand
    ∷ refuses (bytes "A matches[at1] {*}") 2 9
    ∷ refuses (bytes "A matches {a[at1] matches {*}}") 2 12
    ∷ refuses (bytes "A[at012345678901234567890123456789] {*}") 4 1
    ∷ refuses (bytes "[at1] matches {*}") 2 0
    -- types and names of 63 bytes and of 64
    ∷ accepts (bytes "Abcdefghijklmnopqrstuvwxyz_0123456789_ABCDEFGHIJKLMNOPQRSTUVWXY matches {*}") (object_with 1 (bytes "Abcdefghijklmnopqrstuvwxyz_0123456789_ABCDEFGHIJKLMNOPQRSTUVWXY") [] no_more)
    ∷ refuses (bytes "Abcdefghijklmnopqrstuvwxyz_0123456789_ABCDEFGHIJKLMNOPQRSTUVWXYZ matches {*}") 4 0
    ∷ refuses (bytes "Abcdefghijklmnopqrstuvwxyz_0123456789_ABCDEFGHIJKLMNOPQRSTUVWXYZ {*}") 4 0
    ∷ accepts (bytes "A matches {abcdefghijklmnopqrstuvwxyz_0123456789_ABCDEFGHIJKLMNOPQRSTUVWXY matches {*}}") (object_with 1 (bytes "A") [] (attribute_with 2 2 (bytes "abcdefghijklmnopqrstuvwxyz_0123456789_ABCDEFGHIJKLMNOPQRSTUVWXY") any no_more))
    ∷ refuses (bytes "A matches {abcdefghijklmnopqrstuvwxyz_0123456789_ABCDEFGHIJKLMNOPQRSTUVWXYZ matches {*}}") 4 11
    ∷ refuses (bytes "A matches {abcdefghijklmnopqrstuvwxyz_0123456789_ABCDEFGHIJKLMNOPQRSTUVWXYZ matches {*} abcdefghijklmnopqrstuvwxyz_0123456789_ABCDEFGHIJKLMNOPQRSTUVWXYZ matches {*}}") 4 11
    ∷ refuses (bytes "A matches {abcdefghijklmnopqrstuvwxyz_0123456789_ABCDEFGHIJKLMNOPQRSTUVWXY matches {*} abcdefghijklmnopqrstuvwxyz_0123456789_ABCDEFGHIJKLMNOPQRSTUVWXY matches {*}}") 9 87
    ∷ accepts (bytes "A matches {a matches {Abcdefghijklmnopqrstuvwxyz_0123456789_ABCDEFGHIJKLMNOPQRSTUVWXY matches {*}}}") (object_with 1 (bytes "A") [] (attribute_with 2 2 (bytes "a") (nested (object_with 3 (bytes "Abcdefghijklmnopqrstuvwxyz_0123456789_ABCDEFGHIJKLMNOPQRSTUVWXY") [] no_more)) no_more))
    ∷ refuses (bytes "A matches {a matches {Abcdefghijklmnopqrstuvwxyz_0123456789_ABCDEFGHIJKLMNOPQRSTUVWXYz matches {*}}}") 4 22
    -- strings of 255 bytes and of 256
    ∷ accepts (bytes "A matches {a matches {\"xxxxxxxxxxxxxxxxxxxxxxxxxxxxxxxxxxxxxxxxxxxxxxxxxxxxxxxxxxxxxxxxxxxxxxxxxxxxxxxxxxxxxxxxxxxxxxxxxxxxxxxxxxxxxxxxxxxxxxxxxxxxxxxxxxxxxxxxxxxxxxxxxxxxxxxxxxxxxxxxxxxxxxxxxxxxxxxxxxxxxxxxxxxxxxxxxxxxxxxxxxxxxxxxxxxxxxxxxxxxxxxxxxxxxxxxxxxxxxxxxxxxxxxxxxxxxxx\"}}") (object_with 1 (bytes "A") [] (attribute_with 2 2 (bytes "a") (leaf (texts (item 3 (bytes "xxxxxxxxxxxxxxxxxxxxxxxxxxxxxxxxxxxxxxxxxxxxxxxxxxxxxxxxxxxxxxxxxxxxxxxxxxxxxxxxxxxxxxxxxxxxxxxxxxxxxxxxxxxxxxxxxxxxxxxxxxxxxxxxxxxxxxxxxxxxxxxxxxxxxxxxxxxxxxxxxxxxxxxxxxxxxxxxxxxxxxxxxxxxxxxxxxxxxxxxxxxxxxxxxxxxxxxxxxxxxxxxxxxxxxxxxxxxxxxxxxxxxxxxxxxxxxx") ∷ []))) no_more))
    ∷ refuses (bytes "A matches {a matches {\"xxxxxxxxxxxxxxxxxxxxxxxxxxxxxxxxxxxxxxxxxxxxxxxxxxxxxxxxxxxxxxxxxxxxxxxxxxxxxxxxxxxxxxxxxxxxxxxxxxxxxxxxxxxxxxxxxxxxxxxxxxxxxxxxxxxxxxxxxxxxxxxxxxxxxxxxxxxxxxxxxxxxxxxxxxxxxxxxxxxxxxxxxxxxxxxxxxxxxxxxxxxxxxxxxxxxxxxxxxxxxxxxxxxxxxxxxxxxxxxxxxxxxxxxxxxxxxxx\"}}") 4 22
    ∷ refuses (bytes "A matches {a matches {\"a\", \"xxxxxxxxxxxxxxxxxxxxxxxxxxxxxxxxxxxxxxxxxxxxxxxxxxxxxxxxxxxxxxxxxxxxxxxxxxxxxxxxxxxxxxxxxxxxxxxxxxxxxxxxxxxxxxxxxxxxxxxxxxxxxxxxxxxxxxxxxxxxxxxxxxxxxxxxxxxxxxxxxxxxxxxxxxxxxxxxxxxxxxxxxxxxxxxxxxxxxxxxxxxxxxxxxxxxxxxxxxxxxxxxxxxxxxxxxxxxxxxxxxxxxxxxxxxxxxxx\", \"a\"}}") 4 27
    -- 16 levels and the 17th, told at its TYPE
    ∷ accepts (bytes "Aâ\u{88}\u{88}{aâ\u{88}\u{88}{Aâ\u{88}\u{88}{aâ\u{88}\u{88}{Aâ\u{88}\u{88}{aâ\u{88}\u{88}{Aâ\u{88}\u{88}{aâ\u{88}\u{88}{Aâ\u{88}\u{88}{aâ\u{88}\u{88}{Aâ\u{88}\u{88}{aâ\u{88}\u{88}{Aâ\u{88}\u{88}{aâ\u{88}\u{88}{Aâ\u{88}\u{88}{aâ\u{88}\u{88}{Aâ\u{88}\u{88}{aâ\u{88}\u{88}{Aâ\u{88}\u{88}{aâ\u{88}\u{88}{Aâ\u{88}\u{88}{aâ\u{88}\u{88}{Aâ\u{88}\u{88}{aâ\u{88}\u{88}{Aâ\u{88}\u{88}{aâ\u{88}\u{88}{Aâ\u{88}\u{88}{aâ\u{88}\u{88}{Aâ\u{88}\u{88}{aâ\u{88}\u{88}{A matches{*}}}}}}}}}}}}}}}}}}}}}}}}}}}}}}}") (object_with 1 (bytes "A") [] (attribute_with 2 2 (bytes "a") (nested (object_with 3 (bytes "A") [] (attribute_with 4 2 (bytes "a") (nested (object_with 5 (bytes "A") [] (attribute_with 6 2 (bytes "a") (nested (object_with 7 (bytes "A") [] (attribute_with 8 2 (bytes "a") (nested (object_with 9 (bytes "A") [] (attribute_with 10 2 (bytes "a") (nested (object_with 11 (bytes "A") [] (attribute_with 12 2 (bytes "a") (nested (object_with 13 (bytes "A") [] (attribute_with 14 2 (bytes "a") (nested (object_with 15 (bytes "A") [] (attribute_with 16 2 (bytes "a") (nested (object_with 17 (bytes "A") [] (attribute_with 18 2 (bytes "a") (nested (object_with 19 (bytes "A") [] (attribute_with 20 2 (bytes "a") (nested (object_with 21 (bytes "A") [] (attribute_with 22 2 (bytes "a") (nested (object_with 23 (bytes "A") [] (attribute_with 24 2 (bytes "a") (nested (object_with 25 (bytes "A") [] (attribute_with 26 2 (bytes "a") (nested (object_with 27 (bytes "A") [] (attribute_with 28 2 (bytes "a") (nested (object_with 29 (bytes "A") [] (attribute_with 30 2 (bytes "a") (nested (object_with 31 (bytes "A") [] no_more)) no_more))) no_more))) no_more))) no_more))) no_more))) no_more))) no_more))) no_more))) no_more))) no_more))) no_more))) no_more))) no_more))) no_more))) no_more))
    ∷ accepts (bytes "Aâ\u{88}\u{88}{aâ\u{88}\u{88}{Aâ\u{88}\u{88}{aâ\u{88}\u{88}{Aâ\u{88}\u{88}{aâ\u{88}\u{88}{Aâ\u{88}\u{88}{aâ\u{88}\u{88}{Aâ\u{88}\u{88}{aâ\u{88}\u{88}{Aâ\u{88}\u{88}{aâ\u{88}\u{88}{Aâ\u{88}\u{88}{aâ\u{88}\u{88}{Aâ\u{88}\u{88}{aâ\u{88}\u{88}{Aâ\u{88}\u{88}{aâ\u{88}\u{88}{Aâ\u{88}\u{88}{aâ\u{88}\u{88}{Aâ\u{88}\u{88}{aâ\u{88}\u{88}{Aâ\u{88}\u{88}{aâ\u{88}\u{88}{Aâ\u{88}\u{88}{aâ\u{88}\u{88}{Aâ\u{88}\u{88}{aâ\u{88}\u{88}{Aâ\u{88}\u{88}{aâ\u{88}\u{88}{A matches{a matches{5}}}}}}}}}}}}}}}}}}}}}}}}}}}}}}}}") (object_with 1 (bytes "A") [] (attribute_with 2 2 (bytes "a") (nested (object_with 3 (bytes "A") [] (attribute_with 4 2 (bytes "a") (nested (object_with 5 (bytes "A") [] (attribute_with 6 2 (bytes "a") (nested (object_with 7 (bytes "A") [] (attribute_with 8 2 (bytes "a") (nested (object_with 9 (bytes "A") [] (attribute_with 10 2 (bytes "a") (nested (object_with 11 (bytes "A") [] (attribute_with 12 2 (bytes "a") (nested (object_with 13 (bytes "A") [] (attribute_with 14 2 (bytes "a") (nested (object_with 15 (bytes "A") [] (attribute_with 16 2 (bytes "a") (nested (object_with 17 (bytes "A") [] (attribute_with 18 2 (bytes "a") (nested (object_with 19 (bytes "A") [] (attribute_with 20 2 (bytes "a") (nested (object_with 21 (bytes "A") [] (attribute_with 22 2 (bytes "a") (nested (object_with 23 (bytes "A") [] (attribute_with 24 2 (bytes "a") (nested (object_with 25 (bytes "A") [] (attribute_with 26 2 (bytes "a") (nested (object_with 27 (bytes "A") [] (attribute_with 28 2 (bytes "a") (nested (object_with 29 (bytes "A") [] (attribute_with 30 2 (bytes "a") (nested (object_with 31 (bytes "A") [] (attribute_with 32 2 (bytes "a") (leaf (ranges integers (range 33 2_147_483_653 2_147_483_653 ∷ []))) no_more))) no_more))) no_more))) no_more))) no_more))) no_more))) no_more))) no_more))) no_more))) no_more))) no_more))) no_more))) no_more))) no_more))) no_more))) no_more))
    ∷ refuses (bytes "Aâ\u{88}\u{88}{aâ\u{88}\u{88}{Aâ\u{88}\u{88}{aâ\u{88}\u{88}{Aâ\u{88}\u{88}{aâ\u{88}\u{88}{Aâ\u{88}\u{88}{aâ\u{88}\u{88}{Aâ\u{88}\u{88}{aâ\u{88}\u{88}{Aâ\u{88}\u{88}{aâ\u{88}\u{88}{Aâ\u{88}\u{88}{aâ\u{88}\u{88}{Aâ\u{88}\u{88}{aâ\u{88}\u{88}{Aâ\u{88}\u{88}{aâ\u{88}\u{88}{Aâ\u{88}\u{88}{aâ\u{88}\u{88}{Aâ\u{88}\u{88}{aâ\u{88}\u{88}{Aâ\u{88}\u{88}{aâ\u{88}\u{88}{Aâ\u{88}\u{88}{aâ\u{88}\u{88}{Aâ\u{88}\u{88}{aâ\u{88}\u{88}{Aâ\u{88}\u{88}{aâ\u{88}\u{88}{Aâ\u{88}\u{88}{aâ\u{88}\u{88}{A matches{*}}}}}}}}}}}}}}}}}}}}}}}}}}}}}}}}}") 3 160
    ∷ accepts (bytes "Aâ\u{88}\u{88}{aâ\u{88}\u{88}{Aâ\u{88}\u{88}{aâ\u{88}\u{88}{Aâ\u{88}\u{88}{aâ\u{88}\u{88}{Aâ\u{88}\u{88}{aâ\u{88}\u{88}{Aâ\u{88}\u{88}{aâ\u{88}\u{88}{Aâ\u{88}\u{88}{aâ\u{88}\u{88}{Aâ\u{88}\u{88}{aâ\u{88}\u{88}{Aâ\u{88}\u{88}{aâ\u{88}\u{88}{Aâ\u{88}\u{88}{aâ\u{88}\u{88}{Aâ\u{88}\u{88}{aâ\u{88}\u{88}{Aâ\u{88}\u{88}{aâ\u{88}\u{88}{Aâ\u{88}\u{88}{aâ\u{88}\u{88}{Aâ\u{88}\u{88}{aâ\u{88}\u{88}{Aâ\u{88}\u{88}{aâ\u{88}\u{88}{Aâ\u{88}\u{88}{aâ\u{88}\u{88}{Aâ\u{88}\u{88}{aâ\u{88}\u{88}{5}}}}}}}}}}}}}}}}}}}}}}}}}}}}}}}}") (object_with 1 (bytes "A") [] (attribute_with 2 2 (bytes "a") (nested (object_with 3 (bytes "A") [] (attribute_with 4 2 (bytes "a") (nested (object_with 5 (bytes "A") [] (attribute_with 6 2 (bytes "a") (nested (object_with 7 (bytes "A") [] (attribute_with 8 2 (bytes "a") (nested (object_with 9 (bytes "A") [] (attribute_with 10 2 (bytes "a") (nested (object_with 11 (bytes "A") [] (attribute_with 12 2 (bytes "a") (nested (object_with 13 (bytes "A") [] (attribute_with 14 2 (bytes "a") (nested (object_with 15 (bytes "A") [] (attribute_with 16 2 (bytes "a") (nested (object_with 17 (bytes "A") [] (attribute_with 18 2 (bytes "a") (nested (object_with 19 (bytes "A") [] (attribute_with 20 2 (bytes "a") (nested (object_with 21 (bytes "A") [] (attribute_with 22 2 (bytes "a") (nested (object_with 23 (bytes "A") [] (attribute_with 24 2 (bytes "a") (nested (object_with 25 (bytes "A") [] (attribute_with 26 2 (bytes "a") (nested (object_with 27 (bytes "A") [] (attribute_with 28 2 (bytes "a") (nested (object_with 29 (bytes "A") [] (attribute_with 30 2 (bytes "a") (nested (object_with 31 (bytes "A") [] (attribute_with 32 2 (bytes "a") (leaf (ranges integers (range 33 2_147_483_653 2_147_483_653 ∷ []))) no_more))) no_more))) no_more))) no_more))) no_more))) no_more))) no_more))) no_more))) no_more))) no_more))) no_more))) no_more))) no_more))) no_more))) no_more))) no_more))
    ∷ accepts (bytes "Aâ\u{88}\u{88}{aâ\u{88}\u{88}{Aâ\u{88}\u{88}{aâ\u{88}\u{88}{Aâ\u{88}\u{88}{aâ\u{88}\u{88}{Aâ\u{88}\u{88}{aâ\u{88}\u{88}{Aâ\u{88}\u{88}{aâ\u{88}\u{88}{Aâ\u{88}\u{88}{aâ\u{88}\u{88}{Aâ\u{88}\u{88}{aâ\u{88}\u{88}{Aâ\u{88}\u{88}{aâ\u{88}\u{88}{Aâ\u{88}\u{88}{aâ\u{88}\u{88}{Aâ\u{88}\u{88}{aâ\u{88}\u{88}{Aâ\u{88}\u{88}{aâ\u{88}\u{88}{Aâ\u{88}\u{88}{aâ\u{88}\u{88}{Aâ\u{88}\u{88}{aâ\u{88}\u{88}{Aâ\u{88}\u{88}{aâ\u{88}\u{88}{Aâ\u{88}\u{88}{aâ\u{88}\u{88}{Aâ\u{88}\u{88}{aâ\u{88}\u{88}{True}}}}}}}}}}}}}}}}}}}}}}}}}}}}}}}}") (object_with 1 (bytes "A") [] (attribute_with 2 2 (bytes "a") (nested (object_with 3 (bytes "A") [] (attribute_with 4 2 (bytes "a") (nested (object_with 5 (bytes "A") [] (attribute_with 6 2 (bytes "a") (nested (object_with 7 (bytes "A") [] (attribute_with 8 2 (bytes "a") (nested (object_with 9 (bytes "A") [] (attribute_with 10 2 (bytes "a") (nested (object_with 11 (bytes "A") [] (attribute_with 12 2 (bytes "a") (nested (object_with 13 (bytes "A") [] (attribute_with 14 2 (bytes "a") (nested (object_with 15 (bytes "A") [] (attribute_with 16 2 (bytes "a") (nested (object_with 17 (bytes "A") [] (attribute_with 18 2 (bytes "a") (nested (object_with 19 (bytes "A") [] (attribute_with 20 2 (bytes "a") (nested (object_with 21 (bytes "A") [] (attribute_with 22 2 (bytes "a") (nested (object_with 23 (bytes "A") [] (attribute_with 24 2 (bytes "a") (nested (object_with 25 (bytes "A") [] (attribute_with 26 2 (bytes "a") (nested (object_with 27 (bytes "A") [] (attribute_with 28 2 (bytes "a") (nested (object_with 29 (bytes "A") [] (attribute_with 30 2 (bytes "a") (nested (object_with 31 (bytes "A") [] (attribute_with 32 2 (bytes "a") (leaf (single booleans 33 1)) no_more))) no_more))) no_more))) no_more))) no_more))) no_more))) no_more))) no_more))) no_more))) no_more))) no_more))) no_more))) no_more))) no_more))) no_more))) no_more))
    ∷ refuses (bytes "Aâ\u{88}\u{88}{aâ\u{88}\u{88}{Aâ\u{88}\u{88}{aâ\u{88}\u{88}{Aâ\u{88}\u{88}{aâ\u{88}\u{88}{Aâ\u{88}\u{88}{aâ\u{88}\u{88}{Aâ\u{88}\u{88}{aâ\u{88}\u{88}{Aâ\u{88}\u{88}{aâ\u{88}\u{88}{Aâ\u{88}\u{88}{aâ\u{88}\u{88}{Aâ\u{88}\u{88}{aâ\u{88}\u{88}{Aâ\u{88}\u{88}{aâ\u{88}\u{88}{Aâ\u{88}\u{88}{aâ\u{88}\u{88}{Aâ\u{88}\u{88}{aâ\u{88}\u{88}{Aâ\u{88}\u{88}{aâ\u{88}\u{88}{Aâ\u{88}\u{88}{aâ\u{88}\u{88}{Aâ\u{88}\u{88}{aâ\u{88}\u{88}{Aâ\u{88}\u{88}{aâ\u{88}\u{88}{Aâ\u{88}\u{88}{aâ\u{88}\u{88}{Abcdefghijklmnopqrstuvwxyz_0123456789_ABCDEFGHIJKLMNOPQRSTUVWXYZ matches{*}}}}}}}}}}}}}}}}}}}}}}}}}}}}}}}}}") 3 160
    ∷ refuses (bytes "Aâ\u{88}\u{88}{aâ\u{88}\u{88}{Aâ\u{88}\u{88}{aâ\u{88}\u{88}{Aâ\u{88}\u{88}{aâ\u{88}\u{88}{Aâ\u{88}\u{88}{aâ\u{88}\u{88}{Aâ\u{88}\u{88}{aâ\u{88}\u{88}{Aâ\u{88}\u{88}{aâ\u{88}\u{88}{Aâ\u{88}\u{88}{aâ\u{88}\u{88}{Aâ\u{88}\u{88}{aâ\u{88}\u{88}{Aâ\u{88}\u{88}{aâ\u{88}\u{88}{Aâ\u{88}\u{88}{aâ\u{88}\u{88}{Aâ\u{88}\u{88}{aâ\u{88}\u{88}{Aâ\u{88}\u{88}{aâ\u{88}\u{88}{Aâ\u{88}\u{88}{aâ\u{88}\u{88}{Aâ\u{88}\u{88}{aâ\u{88}\u{88}{Aâ\u{88}\u{88}{aâ\u{88}\u{88}{Aâ\u{88}\u{88}{aâ\u{88}\u{88}{B") 3 160
    ∷ refuses (bytes "Aâ\u{88}\u{88}{aâ\u{88}\u{88}{Aâ\u{88}\u{88}{aâ\u{88}\u{88}{Aâ\u{88}\u{88}{aâ\u{88}\u{88}{Aâ\u{88}\u{88}{aâ\u{88}\u{88}{Aâ\u{88}\u{88}{aâ\u{88}\u{88}{Aâ\u{88}\u{88}{aâ\u{88}\u{88}{Aâ\u{88}\u{88}{aâ\u{88}\u{88}{Aâ\u{88}\u{88}{aâ\u{88}\u{88}{Aâ\u{88}\u{88}{aâ\u{88}\u{88}{Aâ\u{88}\u{88}{aâ\u{88}\u{88}{Aâ\u{88}\u{88}{aâ\u{88}\u{88}{Aâ\u{88}\u{88}{aâ\u{88}\u{88}{Aâ\u{88}\u{88}{aâ\u{88}\u{88}{Aâ\u{88}\u{88}{aâ\u{88}\u{88}{Aâ\u{88}\u{88}{aâ\u{88}\u{88}{Aâ\u{88}\u{88}{aâ\u{88}\u{88}{b") 2 160
    ∷ accepts (bytes "Aâ\u{88}\u{88}{aâ\u{88}\u{88}{Aâ\u{88}\u{88}{aâ\u{88}\u{88}{Aâ\u{88}\u{88}{aâ\u{88}\u{88}{Aâ\u{88}\u{88}{aâ\u{88}\u{88}{Aâ\u{88}\u{88}{aâ\u{88}\u{88}{Aâ\u{88}\u{88}{aâ\u{88}\u{88}{Aâ\u{88}\u{88}{aâ\u{88}\u{88}{Aâ\u{88}\u{88}{aâ\u{88}\u{88}{Aâ\u{88}\u{88}{aâ\u{88}\u{88}{Aâ\u{88}\u{88}{aâ\u{88}\u{88}{Aâ\u{88}\u{88}{aâ\u{88}\u{88}{Aâ\u{88}\u{88}{aâ\u{88}\u{88}{Aâ\u{88}\u{88}{aâ\u{88}\u{88}{Aâ\u{88}\u{88}{aâ\u{88}\u{88}{Aâ\u{88}\u{88}{aâ\u{88}\u{88}{Aâ\u{88}\u{88}{aâ\u{88}\u{88}{Pd}}}}}}}}}}}}}}}}}}}}}}}}}}}}}}}}") (object_with 1 (bytes "A") [] (attribute_with 2 2 (bytes "a") (nested (object_with 3 (bytes "A") [] (attribute_with 4 2 (bytes "a") (nested (object_with 5 (bytes "A") [] (attribute_with 6 2 (bytes "a") (nested (object_with 7 (bytes "A") [] (attribute_with 8 2 (bytes "a") (nested (object_with 9 (bytes "A") [] (attribute_with 10 2 (bytes "a") (nested (object_with 11 (bytes "A") [] (attribute_with 12 2 (bytes "a") (nested (object_with 13 (bytes "A") [] (attribute_with 14 2 (bytes "a") (nested (object_with 15 (bytes "A") [] (attribute_with 16 2 (bytes "a") (nested (object_with 17 (bytes "A") [] (attribute_with 18 2 (bytes "a") (nested (object_with 19 (bytes "A") [] (attribute_with 20 2 (bytes "a") (nested (object_with 21 (bytes "A") [] (attribute_with 22 2 (bytes "a") (nested (object_with 23 (bytes "A") [] (attribute_with 24 2 (bytes "a") (nested (object_with 25 (bytes "A") [] (attribute_with 26 2 (bytes "a") (nested (object_with 27 (bytes "A") [] (attribute_with 28 2 (bytes "a") (nested (object_with 29 (bytes "A") [] (attribute_with 30 2 (bytes "a") (nested (object_with 31 (bytes "A") [] (attribute_with 32 2 (bytes "a") (leaf (single duration_pattern 33 8)) no_more))) no_more))) no_more))) no_more))) no_more))) no_more))) no_more))) no_more))) no_more))) no_more))) no_more))) no_more))) no_more))) no_more))) no_more))) no_more))
    ∷ accepts (bytes "Aâ\u{88}\u{88}{aâ\u{88}\u{88}{Aâ\u{88}\u{88}{aâ\u{88}\u{88}{Aâ\u{88}\u{88}{aâ\u{88}\u{88}{Aâ\u{88}\u{88}{aâ\u{88}\u{88}{Aâ\u{88}\u{88}{aâ\u{88}\u{88}{Aâ\u{88}\u{88}{aâ\u{88}\u{88}{Aâ\u{88}\u{88}{aâ\u{88}\u{88}{Aâ\u{88}\u{88}{aâ\u{88}\u{88}{Aâ\u{88}\u{88}{aâ\u{88}\u{88}{Aâ\u{88}\u{88}{aâ\u{88}\u{88}{Aâ\u{88}\u{88}{aâ\u{88}\u{88}{Aâ\u{88}\u{88}{aâ\u{88}\u{88}{Aâ\u{88}\u{88}{aâ\u{88}\u{88}{Aâ\u{88}\u{88}{aâ\u{88}\u{88}{Aâ\u{88}\u{88}{aâ\u{88}\u{88}{Aâ\u{88}\u{88}{aâ\u{88}\u{88}{Pd--}\n}}}}}}}}}}}}}}}}}}}}}}}}}}}}}}}}") (object_with 1 (bytes "A") [] (attribute_with 2 2 (bytes "a") (nested (object_with 3 (bytes "A") [] (attribute_with 4 2 (bytes "a") (nested (object_with 5 (bytes "A") [] (attribute_with 6 2 (bytes "a") (nested (object_with 7 (bytes "A") [] (attribute_with 8 2 (bytes "a") (nested (object_with 9 (bytes "A") [] (attribute_with 10 2 (bytes "a") (nested (object_with 11 (bytes "A") [] (attribute_with 12 2 (bytes "a") (nested (object_with 13 (bytes "A") [] (attribute_with 14 2 (bytes "a") (nested (object_with 15 (bytes "A") [] (attribute_with 16 2 (bytes "a") (nested (object_with 17 (bytes "A") [] (attribute_with 18 2 (bytes "a") (nested (object_with 19 (bytes "A") [] (attribute_with 20 2 (bytes "a") (nested (object_with 21 (bytes "A") [] (attribute_with 22 2 (bytes "a") (nested (object_with 23 (bytes "A") [] (attribute_with 24 2 (bytes "a") (nested (object_with 25 (bytes "A") [] (attribute_with 26 2 (bytes "a") (nested (object_with 27 (bytes "A") [] (attribute_with 28 2 (bytes "a") (nested (object_with 29 (bytes "A") [] (attribute_with 30 2 (bytes "a") (nested (object_with 31 (bytes "A") [] (attribute_with 32 2 (bytes "a") (leaf (single duration_pattern 33 8)) no_more))) no_more))) no_more))) no_more))) no_more))) no_more))) no_more))) no_more))) no_more))) no_more))) no_more))) no_more))) no_more))) no_more))) no_more))) no_more))
    ∷ refuses (bytes "Aâ\u{88}\u{88}{aâ\u{88}\u{88}{Aâ\u{88}\u{88}{aâ\u{88}\u{88}{Aâ\u{88}\u{88}{aâ\u{88}\u{88}{Aâ\u{88}\u{88}{aâ\u{88}\u{88}{Aâ\u{88}\u{88}{aâ\u{88}\u{88}{Aâ\u{88}\u{88}{aâ\u{88}\u{88}{Aâ\u{88}\u{88}{aâ\u{88}\u{88}{Aâ\u{88}\u{88}{aâ\u{88}\u{88}{Aâ\u{88}\u{88}{aâ\u{88}\u{88}{Aâ\u{88}\u{88}{aâ\u{88}\u{88}{Aâ\u{88}\u{88}{aâ\u{88}\u{88}{Aâ\u{88}\u{88}{aâ\u{88}\u{88}{Aâ\u{88}\u{88}{aâ\u{88}\u{88}{Aâ\u{88}\u{88}{aâ\u{88}\u{88}{Aâ\u{88}\u{88}{aâ\u{88}\u{88}{Aâ\u{88}\u{88}{aâ\u{88}\u{88}{PD}}}}}}}}}}}}}}}}}}}}}}}}}}}}}}}}") 3 160
    ∷ refuses (bytes "Aâ\u{88}\u{88}{aâ\u{88}\u{88}{Aâ\u{88}\u{88}{aâ\u{88}\u{88}{Aâ\u{88}\u{88}{aâ\u{88}\u{88}{Aâ\u{88}\u{88}{aâ\u{88}\u{88}{Aâ\u{88}\u{88}{aâ\u{88}\u{88}{Aâ\u{88}\u{88}{aâ\u{88}\u{88}{Aâ\u{88}\u{88}{aâ\u{88}\u{88}{Aâ\u{88}\u{88}{aâ\u{88}\u{88}{Aâ\u{88}\u{88}{aâ\u{88}\u{88}{Aâ\u{88}\u{88}{aâ\u{88}\u{88}{Aâ\u{88}\u{88}{aâ\u{88}\u{88}{Aâ\u{88}\u{88}{aâ\u{88}\u{88}{Aâ\u{88}\u{88}{aâ\u{88}\u{88}{Aâ\u{88}\u{88}{aâ\u{88}\u{88}{Aâ\u{88}\u{88}{aâ\u{88}\u{88}{Aâ\u{88}\u{88}{aâ\u{88}\u{88}{Pd matches{*}}}}}}}}}}}}}}}}}}}}}}}}}}}}}}}}}") 3 160
    ∷ refuses (bytes "Aâ\u{88}\u{88}{aâ\u{88}\u{88}{Aâ\u{88}\u{88}{aâ\u{88}\u{88}{Aâ\u{88}\u{88}{aâ\u{88}\u{88}{Aâ\u{88}\u{88}{aâ\u{88}\u{88}{Aâ\u{88}\u{88}{aâ\u{88}\u{88}{Aâ\u{88}\u{88}{aâ\u{88}\u{88}{Aâ\u{88}\u{88}{aâ\u{88}\u{88}{Aâ\u{88}\u{88}{aâ\u{88}\u{88}{Aâ\u{88}\u{88}{aâ\u{88}\u{88}{Aâ\u{88}\u{88}{aâ\u{88}\u{88}{Aâ\u{88}\u{88}{aâ\u{88}\u{88}{Aâ\u{88}\u{88}{aâ\u{88}\u{88}{Aâ\u{88}\u{88}{aâ\u{88}\u{88}{Aâ\u{88}\u{88}{aâ\u{88}\u{88}{Aâ\u{88}\u{88}{aâ\u{88}\u{88}{Aâ\u{88}\u{88}{aâ\u{88}\u{88}{Pd") 3 160
    ∷ refuses (bytes "Aâ\u{88}\u{88}{aâ\u{88}\u{88}{Aâ\u{88}\u{88}{aâ\u{88}\u{88}{Aâ\u{88}\u{88}{aâ\u{88}\u{88}{Aâ\u{88}\u{88}{aâ\u{88}\u{88}{Aâ\u{88}\u{88}{aâ\u{88}\u{88}{Aâ\u{88}\u{88}{aâ\u{88}\u{88}{Aâ\u{88}\u{88}{aâ\u{88}\u{88}{Aâ\u{88}\u{88}{aâ\u{88}\u{88}{Aâ\u{88}\u{88}{aâ\u{88}\u{88}{Aâ\u{88}\u{88}{aâ\u{88}\u{88}{Aâ\u{88}\u{88}{aâ\u{88}\u{88}{Aâ\u{88}\u{88}{aâ\u{88}\u{88}{Aâ\u{88}\u{88}{aâ\u{88}\u{88}{Aâ\u{88}\u{88}{aâ\u{88}\u{88}{Aâ\u{88}\u{88}{aâ\u{88}\u{88}{Aâ\u{88}\u{88}{aâ\u{88}\u{88}{Pd x") 3 160
    ∷ refuses (bytes "Aâ\u{88}\u{88}{aâ\u{88}\u{88}{Aâ\u{88}\u{88}{aâ\u{88}\u{88}{Aâ\u{88}\u{88}{aâ\u{88}\u{88}{Aâ\u{88}\u{88}{aâ\u{88}\u{88}{Aâ\u{88}\u{88}{aâ\u{88}\u{88}{Aâ\u{88}\u{88}{aâ\u{88}\u{88}{Aâ\u{88}\u{88}{aâ\u{88}\u{88}{Aâ\u{88}\u{88}{aâ\u{88}\u{88}{Aâ\u{88}\u{88}{aâ\u{88}\u{88}{Aâ\u{88}\u{88}{aâ\u{88}\u{88}{Aâ\u{88}\u{88}{aâ\u{88}\u{88}{Aâ\u{88}\u{88}{aâ\u{88}\u{88}{Aâ\u{88}\u{88}{aâ\u{88}\u{88}{Aâ\u{88}\u{88}{aâ\u{88}\u{88}{Aâ\u{88}\u{88}{aâ\u{88}\u{88}{Aâ\u{88}\u{88}{aâ\u{88}\u{88}{P}") 3 160
    ∷ refuses (bytes "Aâ\u{88}\u{88}{aâ\u{88}\u{88}{Aâ\u{88}\u{88}{aâ\u{88}\u{88}{Aâ\u{88}\u{88}{aâ\u{88}\u{88}{Aâ\u{88}\u{88}{aâ\u{88}\u{88}{Aâ\u{88}\u{88}{aâ\u{88}\u{88}{Aâ\u{88}\u{88}{aâ\u{88}\u{88}{Aâ\u{88}\u{88}{aâ\u{88}\u{88}{Aâ\u{88}\u{88}{aâ\u{88}\u{88}{Aâ\u{88}\u{88}{aâ\u{88}\u{88}{Aâ\u{88}\u{88}{aâ\u{88}\u{88}{Aâ\u{88}\u{88}{aâ\u{88}\u{88}{Aâ\u{88}\u{88}{aâ\u{88}\u{88}{Aâ\u{88}\u{88}{aâ\u{88}\u{88}{Aâ\u{88}\u{88}{aâ\u{88}\u{88}{Aâ\u{88}\u{88}{aâ\u{88}\u{88}{Aâ\u{88}\u{88}{aâ\u{88}\u{88}{Pd}") 2 163
    -- texts over 16,384 bytes, and of that length
    ∷ refuses (replicate 16_385 32) 1 16_384
    ∷ refuses (replicate 16_385 0) 1 16_384
    ∷ refuses (replicate 16_384 32) 2 16_384
    ∷ refuses (replicate 16_384 125) 2 0
    ∷ []

pub none_wrong : wrong right 0 cases ≡ []
unfolding wrong right cases object_list constraint_computes
none_wrong = refl
