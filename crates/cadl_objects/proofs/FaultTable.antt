-- Syntax faults, what document 01 leaves out, and several faults in one text. The expectations are the second implementation's.
-- This file is written by `example_tables write` of second/. Assumes nothing.
use mathlib.Core.Path.{◌≡◌, refl}
use mathlib.Core.List.{List, [], ◌∷◌}
use Rattle.lexis.specs.Text.{bytes}
use Rattle.lexis.proofs.Tables.{wrong}
use Rattle.meaning.specs.Constraints.{no_more, any, leaf, single, ranges, integers, dates, duration_pattern}
use Rattle.meaning.proofs.Trees.{range, object_with, attribute_with, object_list}
use Rattle.cadl_objects.proofs.Computes.{constraint_computes}
use Rattle.cadl_objects.proofs.Examples.{Case, accepts, refuses, right}

pub cases : List Case
cases =
    -- Real and Character
    refuses (bytes "A matches {a matches {5.0}}") 2 23
    ∷ refuses (bytes "A matches {a matches {5.5}}") 2 23
    ∷ refuses (bytes "A matches {a matches {|5.0..6.0|}}") 2 24
    ∷ refuses (bytes "A matches {a matches {.5}}") 2 22
    ∷ refuses (bytes "A matches {a matches {'a'}}") 2 22
    -- Date_time, and durations that are no pattern
    ∷ refuses (bytes "A matches {a matches {2004-05-20T10:00:00}}") 2 22
    ∷ refuses (bytes "A matches {a matches {|>2004-05-20T10:00:00|}}") 2 34
    ∷ refuses (bytes "A matches {a matches {yyyy-mm-ddThh:mm:ss}}") 2 32
    ∷ refuses (bytes "A matches {a matches {P1Y}}") 2 25
    ∷ refuses (bytes "A matches {a matches {|P1Y|}}") 2 23
    ∷ refuses (bytes "A matches {a matches {-P1Y}}") 2 22
    -- times outside patterns
    ∷ refuses (bytes "A matches {a matches {10:00:00}}") 2 24
    ∷ refuses (bytes "A matches {a matches {T10:00:00}}") 2 25
    -- term codes
    ∷ refuses (bytes "A matches {a matches {[at1]}}") 2 22
    ∷ refuses (bytes "A matches {a matches {[ac1]}}") 2 22
    ∷ refuses (bytes "A matches {a matches {[local::at1]}}") 2 22
    -- patterns on strings
    ∷ refuses (bytes "A matches {a matches {/a/}}") 2 22
    ∷ refuses (bytes "A matches {a matches {\"a\", /b/}}") 2 27
    -- assumed values
    ∷ refuses (bytes "A matches {a matches {5; 6}}") 2 23
    ∷ refuses (bytes "A matches {a matches {\"a\"; \"a\"}}") 2 25
    ∷ refuses (bytes "A matches {a matches {True; True}}") 2 26
    ∷ refuses (bytes "A matches {a matches {yyyy-mm-dd; 2004-01-01}}") 2 32
    -- other marks and bytes
    ∷ refuses (bytes "A matches {a matches {(5)}}") 2 22
    ∷ refuses (bytes "A matches {a matches {5 | 6}}") 2 24
    ∷ refuses (bytes "A matches {a matches {5..9}}") 2 23
    ∷ refuses (bytes "A matches {a matches {>=5}}") 2 22
    ∷ refuses (bytes "A matches {a matches {+/-5}}") 2 22
    ∷ refuses (bytes "A matches {a matches {/}}") 2 22
    ∷ refuses (bytes "A matches {a matches {-}}") 2 22
    ∷ refuses (bytes "A matches {a matches {.}}") 2 22
    ∷ refuses (bytes "A matches {a matches {?}}") 2 22
    ∷ refuses (bytes "A matches {a matches {5 - 6}}") 2 24
    ∷ refuses (bytes "A matches {a matches {\0}}") 2 22
    ∷ refuses (bytes "A matches {a matches {\u{b}}}") 2 22
    ∷ refuses (bytes "A matches {a matches {ÿ}}") 2 22
    ∷ refuses (bytes "A matches {a matches {\u{7f}}}") 2 22
    ∷ refuses (bytes "A matches {a matches {â\u{88}\u{88}}}") 2 22
    -- containers, slots, references and invariants
    ∷ refuses (bytes "A matches {a cardinality matches {0..1} matches {*}}") 2 13
    ∷ refuses (bytes "A matches {a existence matches {0..1} cardinality matches {0..1; unordered} matches {*}}") 2 38
    ∷ refuses (bytes "A matches {a matches {B matches {*} C matches {*}}}") 2 36
    ∷ refuses (bytes "A matches {a matches {B matches {*}, C matches {*}}}") 2 35
    ∷ refuses (bytes "A matches {a matches {B occurrences matches {0..1} matches {*}}}") 2 24
    ∷ refuses (bytes "A matches {a matches {allow_archetype B matches {*}}}") 2 22
    ∷ refuses (bytes "A matches {a matches {use_node B}}") 2 22
    ∷ refuses (bytes "A matches {a matches {use_archetype B}}") 2 22
    ∷ refuses (bytes "A matches {use_node B}") 2 20
    ∷ refuses (bytes "A matches {a matches {*} invariant}") 2 34
    ∷ refuses (bytes "A matches {*} invariant") 2 14
    ∷ refuses (bytes "A matches {a/b matches {*}}") 2 12
    ∷ refuses (bytes "A matches {/a matches {*}}") 2 11
    ∷ refuses (bytes "A matches {a matches {List<B>}}") 2 26
    ∷ refuses (bytes "A<B> matches {*}") 2 1
    ∷ refuses (bytes "A matches {a.b matches {*}}") 2 12
    ∷ refuses (bytes "A matches {a: B matches {*}}") 2 12
    -- bytes that no token begins with, at the start, between tokens and at the end
    ∷ refuses (bytes "\0A matches {*}") 2 0
    ∷ refuses (bytes "A\0matches {*}") 2 1
    ∷ refuses (bytes "A matches {*}\0") 2 13
    ∷ refuses (bytes "\u{b}A matches {*}") 2 0
    ∷ refuses (bytes "A\u{c}matches {*}") 2 1
    ∷ refuses (bytes "A matches\u{a0}{*}") 2 9
    ∷ refuses (bytes "ï»¿A matches {*}") 2 0
    ∷ refuses (bytes "A matches {*}\u{1a}") 2 13
    ∷ refuses (bytes "A matches {*};") 2 13
    ∷ refuses (bytes "A matches {*}ÿ") 2 13
    ∷ refuses (bytes "A matches {*}-") 2 13
    ∷ accepts (bytes "A matches {*}--") (object_with 1 (bytes "A") [] no_more)
    ∷ accepts (bytes "A matches {*}---") (object_with 1 (bytes "A") [] no_more)
    ∷ refuses (bytes "A matches {*}.") 2 13
    ∷ refuses (bytes "-A matches {*}") 2 0
    ∷ refuses (bytes "\"A\" matches {*}") 2 0
    ∷ refuses (bytes "5 matches {*}") 2 0
    ∷ refuses (bytes "{*}") 2 0
    ∷ refuses (bytes "* matches {*}") 2 0
    ∷ refuses (bytes "A-B matches {*}") 2 1
    ∷ refuses (bytes "A matches [*]") 2 10
    ∷ refuses (bytes "A matches (*)") 2 10
    ∷ refuses (bytes "A MATCHES {*}") 2 2
    ∷ refuses (bytes "A, matches {*}") 2 1
    -- several faults: the least place is told
    ∷ refuses (bytes "A matches {a matches {007} a matches {*}}") 5 22
    ∷ refuses (bytes "A matches {a matches {*} a matches {007}}") 9 25
    ∷ refuses (bytes "A matches {a matches {|9..5|} a matches {*}}") 6 27
    ∷ refuses (bytes "A matches {a matches {|9..5|, 007}}") 6 27
    ∷ refuses (bytes "A matches {a matches {|9..007|}}") 5 26
    ∷ refuses (bytes "A matches {a matches {|007..-0|}}") 5 23
    ∷ refuses (bytes "A matches {a matches {5, 5, |9..5|}}") 9 25
    ∷ refuses (bytes "A matches {a matches {|9..5|, 5, 5}}") 6 27
    ∷ refuses (bytes "A matches {a matches {007 8}}") 5 22
    ∷ refuses (bytes "A matches {a matches {007") 5 22
    ∷ refuses (bytes "A matches {a matches {\"x\", \"x\", 5}}") 9 27
    ∷ refuses (bytes "A matches {a matches {|2147483647+/-1| b matches {*}}") 5 36
    ∷ refuses (bytes "A matches {a matches {|5..4|} \0") 6 27
    ∷ refuses (bytes "A matches {a matches {True, True, True}}") 9 28
    ∷ refuses (bytes "A matches {a matches {5, |5..9|} a matches {*}}") 9 25
    ∷ refuses (bytes "A[at1 matches {a matches {007}}") 2 1
    ∷ refuses (bytes "A matches {a matches {B matches {b matches {007} b matches {*}} a matches {*}}") 5 44
    -- several faults at one place: the least number is told
    ∷ refuses (bytes "Aâ\u{88}\u{88}{aâ\u{88}\u{88}{Aâ\u{88}\u{88}{aâ\u{88}\u{88}{Aâ\u{88}\u{88}{aâ\u{88}\u{88}{Aâ\u{88}\u{88}{aâ\u{88}\u{88}{Aâ\u{88}\u{88}{aâ\u{88}\u{88}{Aâ\u{88}\u{88}{aâ\u{88}\u{88}{Aâ\u{88}\u{88}{aâ\u{88}\u{88}{Aâ\u{88}\u{88}{aâ\u{88}\u{88}{Aâ\u{88}\u{88}{aâ\u{88}\u{88}{Aâ\u{88}\u{88}{aâ\u{88}\u{88}{Aâ\u{88}\u{88}{aâ\u{88}\u{88}{Aâ\u{88}\u{88}{aâ\u{88}\u{88}{Aâ\u{88}\u{88}{aâ\u{88}\u{88}{Aâ\u{88}\u{88}{aâ\u{88}\u{88}{Aâ\u{88}\u{88}{aâ\u{88}\u{88}{Aâ\u{88}\u{88}{aâ\u{88}\u{88}{Abcdefghijklmnopqrstuvwxyz_0123456789_ABCDEFGHIJKLMNOPQRSTUVWXYZ}}}}}}}}}}}}}}}}}}}}}}}}}}}}}}}}") 3 160
    ∷ refuses (bytes "A matches {a matches {1,2,3,4,5,6,7,8,9,10,11,12,13,14,15,16,1}}") 7 61
    ∷ refuses (bytes "A matches {a matches {1,2,3,4,5,6,7,8,9,10,11,12,13,14,15,16,|1..5|}}") 7 61
    ∷ refuses (bytes "A matches {a matches {1,2,3,4,5,6,7,8,9,10,11,12,13,14,15,16,01}}") 5 61
    ∷ refuses (bytes "A matches {abcdefghijklmnopqrstuvwxyz_0123456789_ABCDEFGHIJKLMNOPQRSTUVWXY matches {*} abcdefghijklmnopqrstuvwxyz_0123456789_ABCDEFGHIJKLMNOPQRSTUVWXYZ matches {*} abcdefghijklmnopqrstuvwxyz_0123456789_ABCDEFGHIJKLMNOPQRSTUVWXY matches {*}}") 4 87
    -- longest match
    ∷ refuses (bytes "A matches {a matches {5--3}}") 2 28
    ∷ accepts (bytes "A matches {a matches {5--3\n}}") (object_with 1 (bytes "A") [] (attribute_with 2 2 (bytes "a") (leaf (ranges integers (range 3 2_147_483_653 2_147_483_653 ∷ []))) no_more))
    ∷ accepts (bytes "A matches {a matches {|5--3\n|}}") (object_with 1 (bytes "A") [] (attribute_with 2 2 (bytes "a") (leaf (ranges integers (range 3 2_147_483_653 2_147_483_653 ∷ []))) no_more))
    ∷ accepts (bytes "A matches {a matches {|<--3\n5|}}") (object_with 1 (bytes "A") [] (attribute_with 2 2 (bytes "a") (leaf (ranges integers (range 3 0 2_147_483_652 ∷ []))) no_more))
    ∷ accepts (bytes "A matches {a matches {|<-3|}}") (object_with 1 (bytes "A") [] (attribute_with 2 2 (bytes "a") (leaf (ranges integers (range 3 0 2_147_483_644 ∷ []))) no_more))
    ∷ accepts (bytes "A matches {a matches {|<=-3|}}") (object_with 1 (bytes "A") [] (attribute_with 2 2 (bytes "a") (leaf (ranges integers (range 3 0 2_147_483_645 ∷ []))) no_more))
    ∷ accepts (bytes "A matches {a matches {|>-3..<-1|}}") (object_with 1 (bytes "A") [] (attribute_with 2 2 (bytes "a") (leaf (ranges integers (range 3 2_147_483_646 2_147_483_646 ∷ []))) no_more))
    ∷ accepts (bytes "A matches {a matches {|-3..-1|}}") (object_with 1 (bytes "A") [] (attribute_with 2 2 (bytes "a") (leaf (ranges integers (range 3 2_147_483_645 2_147_483_647 ∷ []))) no_more))
    ∷ accepts (bytes "A matches {a matches {|-3..--1\n-1|}}") (object_with 1 (bytes "A") [] (attribute_with 2 2 (bytes "a") (leaf (ranges integers (range 3 2_147_483_645 2_147_483_647 ∷ []))) no_more))
    ∷ refuses (bytes "A matches {a matches {|3..<-1|}}") 6 29
    ∷ refuses (bytes "A matches {yyyy-mm-ddx matches {*}}") 2 11
    ∷ accepts (bytes "A matches {yyyy_mm matches {*}}") (object_with 1 (bytes "A") [] (attribute_with 2 2 (bytes "yyyy_mm") any no_more))
    ∷ refuses (bytes "A matches {at1 matches {[at1]}}") 2 24
    ∷ refuses (bytes "A matches {a matches {2004-05-20..}}") 2 22
    ∷ accepts (bytes "A matches {a matches {|2004-05-20..2004-05-21|}}") (object_with 1 (bytes "A") [] (attribute_with 2 2 (bytes "a") (leaf (ranges dates (range 3 20_040_520 20_040_521 ∷ []))) no_more))
    ∷ accepts (bytes "A matches {a matches {|20040520|}}") (object_with 1 (bytes "A") [] (attribute_with 2 2 (bytes "a") (leaf (ranges integers (range 3 2_167_524_168 2_167_524_168 ∷ []))) no_more))
    ∷ refuses (bytes "A matches {a matches {|20040-05-20|}}") 2 28
    ∷ refuses (bytes "A matches {a matches {|2004-05-20-1|}}") 2 33
    ∷ refuses (bytes "A matches {a matches {|2004-05--20\n|}}") 2 27
    ∷ refuses (bytes "A matches {a matches {PdX}}") 2 25
    ∷ accepts (bytes "A matches {a matches {Pd--X\n}}") (object_with 1 (bytes "A") [] (attribute_with 2 2 (bytes "a") (leaf (single duration_pattern 3 8)) no_more))
    ∷ refuses (bytes "A matches {a matches {Pd_}}") 2 25
    ∷ []

pub none_wrong : wrong right 0 cases ≡ []
unfolding wrong right cases object_list constraint_computes
none_wrong = refl
