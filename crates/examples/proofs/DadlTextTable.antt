-- Blocks, members, leaves, words and limits. The expectations are the second implementation's.
-- This file is written by `example_tables write` of second/. Assumes nothing.
use mathlib.Core.Path.{◌≡◌, refl}
use Rattle.std.specs.Prelude.{None, Some}
use mathlib.Core.List.{List, [], ◌∷◌}
use lib.ListN.{replicate}
use Rattle.lexis.specs.Text.{bytes}
use Rattle.lexis.proofs.Tables.{wrong}
use Rattle.meaning.specs.Data.{datum, no_more, member, string, word, block}
use Rattle.meaning.proofs.Trees.{datum_list}
use Rattle.dadl.proofs.Computes.{data_computes}
use Rattle.dadl.proofs.Examples.{Case, accepts, refuses, right}

pub cases : List Case
cases =
    -- the smallest texts, cut off at each token, and with a token too many
    accepts (bytes "<>") (datum 0 None no_more)
    ∷ accepts (bytes "(T)<>") (datum 3 (Some (bytes "T")) no_more)
    ∷ accepts (bytes "( T ) < >") (datum 6 (Some (bytes "T")) no_more)
    ∷ accepts (bytes "<a=<>>") (datum 0 None (member (bytes "a") (block (datum 3 None no_more)) no_more))
    ∷ accepts (bytes "<a=<5>>") (datum 0 None (member (bytes "a") (word 3 (bytes "5")) no_more))
    ∷ accepts (bytes "<a=(T)<>>") (datum 0 None (member (bytes "a") (block (datum 6 (Some (bytes "T")) no_more)) no_more))
    ∷ accepts (bytes "(T)<a=(U)<b=<5>>>") (datum 3 (Some (bytes "T")) (member (bytes "a") (block (datum 9 (Some (bytes "U")) (member (bytes "b") (word 12 (bytes "5")) no_more))) no_more))
    ∷ refuses [] 2 0
    ∷ refuses (bytes " \r\n") 2 3
    ∷ refuses (bytes "<") 2 1
    ∷ refuses (bytes "<a") 2 2
    ∷ refuses (bytes "<a=") 2 3
    ∷ refuses (bytes "<a=<") 2 4
    ∷ refuses (bytes "<a=<5") 2 5
    ∷ refuses (bytes "<a=<5>") 2 6
    ∷ refuses (bytes "<a=<>") 2 5
    ∷ refuses (bytes "(") 2 1
    ∷ refuses (bytes "(T") 2 2
    ∷ refuses (bytes "(T)") 2 3
    ∷ refuses (bytes "(T)<") 2 4
    ∷ refuses (bytes "<a=(") 2 4
    ∷ refuses (bytes "<a=(T") 2 5
    ∷ refuses (bytes "<a=(T)") 2 6
    ∷ refuses (bytes "<a=(T)<") 2 7
    ∷ refuses (bytes "<>>") 2 2
    ∷ refuses (bytes "<><>") 2 2
    ∷ refuses (bytes "<> x") 2 3
    ∷ refuses (bytes "<>)") 2 2
    ∷ refuses (bytes ">") 2 0
    ∷ refuses (bytes "=") 2 0
    ∷ refuses (bytes "()") 2 1
    ∷ refuses (bytes "()<>") 2 1
    ∷ refuses (bytes "(T)(T)<>") 2 3
    ∷ refuses (bytes "T<>") 2 0
    ∷ refuses (bytes "5") 2 0
    ∷ refuses (bytes "\"a\"") 2 0
    ∷ refuses (bytes "a=<5>") 2 0
    ∷ refuses (bytes "<a>") 2 2
    ∷ refuses (bytes "<a<5>>") 2 2
    ∷ refuses (bytes "<=<5>>") 2 1
    ∷ refuses (bytes "<a=5>") 2 3
    ∷ refuses (bytes "<a=\"x\">") 2 3
    ∷ refuses (bytes "<a==<5>>") 2 3
    ∷ refuses (bytes "<a=<5>,b=<6>>") 2 6
    ∷ refuses (bytes "<a=<5>;b=<6>>") 2 6
    -- members and blocks inside them, in text order
    ∷ accepts (bytes "<a=<5>b=<\"x\">c=<>d=<e=<True>>>") (datum 0 None (member (bytes "a") (word 3 (bytes "5")) (member (bytes "b") (string 8 (bytes "x")) (member (bytes "c") (block (datum 15 None no_more)) (member (bytes "d") (block (datum 19 None (member (bytes "e") (word 22 (bytes "True")) no_more))) no_more)))))
    ∷ accepts (bytes "< a = < 5 > b = (B) < c = < \"\" > > >") (datum 0 None (member (bytes "a") (word 6 (bytes "5")) (member (bytes "b") (block (datum 20 (Some (bytes "B")) (member (bytes "c") (string 26 []) no_more))) no_more)))
    ∷ accepts (bytes "<a=<b=<c=<5>>>>") (datum 0 None (member (bytes "a") (block (datum 3 None (member (bytes "b") (block (datum 6 None (member (bytes "c") (word 9 (bytes "5")) no_more))) no_more))) no_more))
    ∷ accepts (bytes "<a=<b=<5>>b=<6>>") (datum 0 None (member (bytes "a") (block (datum 3 None (member (bytes "b") (word 6 (bytes "5")) no_more))) (member (bytes "b") (word 12 (bytes "6")) no_more)))
    ∷ accepts (bytes "<a_B1=<5>>") (datum 0 None (member (bytes "a_B1") (word 6 (bytes "5")) no_more))
    ∷ accepts (bytes "<a=(T)<a=(T)<>>>") (datum 0 None (member (bytes "a") (block (datum 6 (Some (bytes "T")) (member (bytes "a") (block (datum 12 (Some (bytes "T")) no_more)) no_more))) no_more))
    ∷ accepts (bytes "<true=<True>>") (datum 0 None (member (bytes "true") (word 6 (bytes "True")) no_more))
    ∷ accepts (bytes "<yyyy=<2004>>") (datum 0 None (member (bytes "yyyy") (word 6 (bytes "2004")) no_more))
    -- blanks and comments: a comment starts only where a token may
    ∷ accepts (bytes "--\n<>") (datum 3 None no_more)
    ∷ accepts (bytes "--\r<>") (datum 3 None no_more)
    ∷ refuses (bytes "--<>") 2 4
    ∷ accepts (bytes "<--\n>") (datum 0 None no_more)
    ∷ refuses (bytes "<-- >") 2 5
    ∷ refuses (bytes "<a--\n=<5>>") 2 1
    ∷ refuses (bytes "<a--c=<5>>") 2 1
    ∷ accepts (bytes "<a=--ÿ\0\r<5>>") (datum 0 None (member (bytes "a") (word 8 (bytes "5")) no_more))
    ∷ accepts (bytes "<a=<--\n5>>") (datum 0 None (member (bytes "a") (word 3 (bytes "5")) no_more))
    ∷ accepts (bytes "<a=<5 --c\n>>") (datum 0 None (member (bytes "a") (word 3 (bytes "5")) no_more))
    ∷ refuses (bytes "<a=<5--c\n>>") 5 4
    ∷ refuses (bytes "<a=<5--c>>") 5 4
    ∷ refuses (bytes "<a=<--5>>") 2 9
    ∷ refuses (bytes "<a=<-5--c\n>>") 5 4
    ∷ accepts (bytes "<>--") (datum 0 None no_more)
    ∷ accepts (bytes "<>-- x") (datum 0 None no_more)
    ∷ refuses (bytes "<>-") 2 2
    ∷ refuses (bytes "(T--x\n)<>") 2 1
    ∷ accepts (bytes "(--\nT)<>") (datum 6 (Some (bytes "T")) no_more)
    ∷ accepts (bytes "(T --x\n)<>") (datum 8 (Some (bytes "T")) no_more)
    ∷ accepts (bytes "<a=<\"--\">>") (datum 0 None (member (bytes "a") (string 3 (bytes "--")) no_more))
    ∷ accepts (bytes "\t<\r>\n") (datum 1 None no_more)
    ∷ refuses (bytes "<a=<5>\u{b}>") 2 6
    ∷ refuses (bytes "<a\0=<5>>") 2 2
    ∷ refuses (bytes "\u{c}<>") 2 0
    ∷ refuses (bytes "<a=<5>>ÿ") 2 7
    ∷ refuses (bytes "ï»¿<>") 2 0
    -- TYPEs: behind `(` a run is a TYPE or unreadable
    ∷ refuses (bytes "(True)<>") 2 1
    ∷ refuses (bytes "(False)<>") 2 1
    ∷ accepts (bytes "(TRUE)<>") (datum 6 (Some (bytes "TRUE")) no_more)
    ∷ accepts (bytes "(T_1b)<>") (datum 6 (Some (bytes "T_1b")) no_more)
    ∷ refuses (bytes "(t)<>") 2 1
    ∷ refuses (bytes "(T-U)<>") 2 1
    ∷ refuses (bytes "(T.U)<>") 2 1
    ∷ refuses (bytes "(T:U)<>") 2 1
    ∷ refuses (bytes "(T+)<>") 2 1
    ∷ refuses (bytes "(_T)<>") 2 1
    ∷ refuses (bytes "(5)<>") 2 1
    ∷ refuses (bytes "(\"T\")<>") 2 1
    ∷ refuses (bytes "(T U)<>") 2 3
    ∷ refuses (bytes "(List<T>)<>") 2 5
    ∷ refuses (bytes "(T>") 2 2
    ∷ refuses (bytes "<a=(True)<>>") 2 4
    ∷ refuses (bytes "<a=(t)<>>") 2 4
    ∷ refuses (bytes "<a=(T-U)<>>") 2 4
    ∷ refuses (bytes "<a=(matches)<>>") 2 4
    ∷ accepts (bytes "(Matches)<>") (datum 9 (Some (bytes "Matches")) no_more)
    ∷ accepts (bytes "(Pd)<>") (datum 4 (Some (bytes "Pd")) no_more)
    ∷ accepts (bytes "(P5d)<>") (datum 5 (Some (bytes "P5d")) no_more)
    ∷ refuses (bytes "(-P5d)<>") 2 1
    ∷ refuses (bytes "<Pd = <5>>") 2 1
    ∷ refuses (bytes "<P5d=<5>>") 2 1
    -- NAMEs: a run that opens with a small letter is a NAME or unreadable, and a keyword is none
    ∷ refuses (bytes "<matches=<5>>") 2 1
    ∷ refuses (bytes "<existence=<5>>") 2 1
    ∷ accepts (bytes "<matchesx=<5>>") (datum 0 None (member (bytes "matchesx") (word 10 (bytes "5")) no_more))
    ∷ refuses (bytes "<a-b=<5>>") 2 1
    ∷ refuses (bytes "<a.b=<5>>") 2 1
    ∷ refuses (bytes "<a:b=<5>>") 2 1
    ∷ refuses (bytes "<a+=<5>>") 2 1
    ∷ refuses (bytes "<A=<5>>") 2 1
    ∷ refuses (bytes "<_a=<5>>") 2 1
    ∷ refuses (bytes "<5=<5>>") 2 1
    ∷ refuses (bytes "<a=<b>>") 2 5
    ∷ refuses (bytes "<a=<matches>>") 2 4
    ∷ refuses (bytes "<a=<b.c>>") 2 4
    ∷ refuses (bytes "<a=<true>>") 2 8
    ∷ accepts (bytes "<a=<b=<5>>>") (datum 0 None (member (bytes "a") (block (datum 3 None (member (bytes "b") (word 6 (bytes "5")) no_more))) no_more))
    ∷ refuses (bytes "<a=<b-c>>") 2 4
    ∷ refuses (bytes "<a=(T)<b-c=<5>>>") 2 7
    ∷ refuses (bytes "<\"a\"=<5>>") 2 1
    ∷ refuses (bytes "<a b=<5>>") 2 3
    -- a `<` is a leaf's when it has no type, isn't the outermost, and a string or word follows
    ∷ refuses (bytes "<5>") 2 1
    ∷ refuses (bytes "<5x>") 2 1
    ∷ refuses (bytes "<\"a\">") 2 1
    ∷ refuses (bytes "<True>") 2 1
    ∷ refuses (bytes "(T)<5>") 2 4
    ∷ refuses (bytes "(T)<\"a\">") 2 4
    ∷ refuses (bytes "<a=(T)<5>>") 2 7
    ∷ refuses (bytes "<a=(T)<5x>>") 2 7
    ∷ refuses (bytes "<a=(T)<\"a\">>") 2 7
    ∷ refuses (bytes "<a=<5 6>>") 2 6
    ∷ refuses (bytes "<a=<5 \"a\">>") 2 6
    ∷ refuses (bytes "<a=<\"a\" 5>>") 2 8
    ∷ refuses (bytes "<a=<1,2>>") 2 5
    ∷ refuses (bytes "<a=<5=<6>>>") 2 5
    ∷ refuses (bytes "<a=<B=<5>>>") 5 4
    ∷ refuses (bytes "<a=<True b=<5>>>") 2 9
    ∷ refuses (bytes "<a=<\"a\"\"b\">>") 2 7
    ∷ refuses (bytes "<a=<<5>>>") 2 4
    ∷ refuses (bytes "<a=<(T)<>>>") 2 4
    ∷ refuses (bytes "<a=<)>>") 2 4
    ∷ refuses (bytes "<a=<=>>") 2 4
    ∷ refuses (bytes "<a=<*>>") 2 4
    -- strings
    ∷ accepts (bytes "<a=<\"\">>") (datum 0 None (member (bytes "a") (string 3 []) no_more))
    ∷ accepts (bytes "<a=<\"a b\">>") (datum 0 None (member (bytes "a") (string 3 (bytes "a b")) no_more))
    ∷ accepts (bytes "<a=<\" ~\">>") (datum 0 None (member (bytes "a") (string 3 (bytes " ~")) no_more))
    ∷ accepts (bytes "<a=<\"<>=()\">>") (datum 0 None (member (bytes "a") (string 3 (bytes "<>=()")) no_more))
    ∷ accepts (bytes "<a=<\"5\">>") (datum 0 None (member (bytes "a") (string 3 (bytes "5")) no_more))
    ∷ refuses (bytes "<a=<\"a>>") 2 4
    ∷ refuses (bytes "<a=<\"a\\\"b\">>") 2 4
    ∷ refuses (bytes "<a=<\"\\\">>") 2 4
    ∷ refuses (bytes "<a=<\"\t\">>") 2 4
    ∷ refuses (bytes "<a=<\"\u{7f}\">>") 2 4
    ∷ refuses (bytes "<a=<\"\u{1f}\">>") 2 4
    ∷ refuses (bytes "<a=<\"â\u{88}\u{88}\">>") 2 4
    ∷ refuses (bytes "<a=<\"\n\">>") 2 4
    ∷ refuses (bytes "<a=<\"\0\">>") 2 4
    -- words that are good
    ∷ accepts (bytes "<a=<True>>") (datum 0 None (member (bytes "a") (word 3 (bytes "True")) no_more))
    ∷ accepts (bytes "<a=<False>>") (datum 0 None (member (bytes "a") (word 3 (bytes "False")) no_more))
    ∷ accepts (bytes "<a=<0>>") (datum 0 None (member (bytes "a") (word 3 (bytes "0")) no_more))
    ∷ accepts (bytes "<a=<5>>") (datum 0 None (member (bytes "a") (word 3 (bytes "5")) no_more))
    ∷ accepts (bytes "<a=<-5>>") (datum 0 None (member (bytes "a") (word 3 (bytes "-5")) no_more))
    ∷ accepts (bytes "<a=<24>>") (datum 0 None (member (bytes "a") (word 3 (bytes "24")) no_more))
    ∷ accepts (bytes "<a=<99>>") (datum 0 None (member (bytes "a") (word 3 (bytes "99")) no_more))
    ∷ accepts (bytes "<a=<2147483647>>") (datum 0 None (member (bytes "a") (word 3 (bytes "2147483647")) no_more))
    ∷ accepts (bytes "<a=<-2147483648>>") (datum 0 None (member (bytes "a") (word 3 (bytes "-2147483648")) no_more))
    ∷ accepts (bytes "<a=<08>>") (datum 0 None (member (bytes "a") (word 3 (bytes "08")) no_more))
    ∷ accepts (bytes "<a=<00>>") (datum 0 None (member (bytes "a") (word 3 (bytes "00")) no_more))
    ∷ accepts (bytes "<a=<23>>") (datum 0 None (member (bytes "a") (word 3 (bytes "23")) no_more))
    ∷ accepts (bytes "<a=<0000>>") (datum 0 None (member (bytes "a") (word 3 (bytes "0000")) no_more))
    ∷ accepts (bytes "<a=<2004>>") (datum 0 None (member (bytes "a") (word 3 (bytes "2004")) no_more))
    ∷ accepts (bytes "<a=<9999>>") (datum 0 None (member (bytes "a") (word 3 (bytes "9999")) no_more))
    ∷ accepts (bytes "<a=<20040520>>") (datum 0 None (member (bytes "a") (word 3 (bytes "20040520")) no_more))
    ∷ accepts (bytes "<a=<2004-05>>") (datum 0 None (member (bytes "a") (word 3 (bytes "2004-05")) no_more))
    ∷ accepts (bytes "<a=<2004-12>>") (datum 0 None (member (bytes "a") (word 3 (bytes "2004-12")) no_more))
    ∷ accepts (bytes "<a=<2004-05-20>>") (datum 0 None (member (bytes "a") (word 3 (bytes "2004-05-20")) no_more))
    ∷ accepts (bytes "<a=<2000-02-29>>") (datum 0 None (member (bytes "a") (word 3 (bytes "2000-02-29")) no_more))
    ∷ accepts (bytes "<a=<0000-01-01>>") (datum 0 None (member (bytes "a") (word 3 (bytes "0000-01-01")) no_more))
    ∷ accepts (bytes "<a=<9999-12-31>>") (datum 0 None (member (bytes "a") (word 3 (bytes "9999-12-31")) no_more))
    ∷ accepts (bytes "<a=<10:30>>") (datum 0 None (member (bytes "a") (word 3 (bytes "10:30")) no_more))
    ∷ accepts (bytes "<a=<10:30:59>>") (datum 0 None (member (bytes "a") (word 3 (bytes "10:30:59")) no_more))
    ∷ accepts (bytes "<a=<23:59:59>>") (datum 0 None (member (bytes "a") (word 3 (bytes "23:59:59")) no_more))
    ∷ accepts (bytes "<a=<00:00:00>>") (datum 0 None (member (bytes "a") (word 3 (bytes "00:00:00")) no_more))
    ∷ accepts (bytes "<a=<08Z>>") (datum 0 None (member (bytes "a") (word 3 (bytes "08Z")) no_more))
    ∷ accepts (bytes "<a=<08:30Z>>") (datum 0 None (member (bytes "a") (word 3 (bytes "08:30Z")) no_more))
    ∷ accepts (bytes "<a=<08:30:00Z>>") (datum 0 None (member (bytes "a") (word 3 (bytes "08:30:00Z")) no_more))
    ∷ accepts (bytes "<a=<08+05>>") (datum 0 None (member (bytes "a") (word 3 (bytes "08+05")) no_more))
    ∷ accepts (bytes "<a=<08+05:30>>") (datum 0 None (member (bytes "a") (word 3 (bytes "08+05:30")) no_more))
    ∷ accepts (bytes "<a=<08:30+05>>") (datum 0 None (member (bytes "a") (word 3 (bytes "08:30+05")) no_more))
    ∷ accepts (bytes "<a=<08:30:00+05:30>>") (datum 0 None (member (bytes "a") (word 3 (bytes "08:30:00+05:30")) no_more))
    ∷ accepts (bytes "<a=<08+13>>") (datum 0 None (member (bytes "a") (word 3 (bytes "08+13")) no_more))
    ∷ accepts (bytes "<a=<08+13:59>>") (datum 0 None (member (bytes "a") (word 3 (bytes "08+13:59")) no_more))
    ∷ accepts (bytes "<a=<08-12>>") (datum 0 None (member (bytes "a") (word 3 (bytes "08-12")) no_more))
    ∷ accepts (bytes "<a=<08-12:59>>") (datum 0 None (member (bytes "a") (word 3 (bytes "08-12:59")) no_more))
    ∷ accepts (bytes "<a=<08-00:30>>") (datum 0 None (member (bytes "a") (word 3 (bytes "08-00:30")) no_more))
    ∷ accepts (bytes "<a=<08-00:01>>") (datum 0 None (member (bytes "a") (word 3 (bytes "08-00:01")) no_more))
    ∷ accepts (bytes "<a=<08-01>>") (datum 0 None (member (bytes "a") (word 3 (bytes "08-01")) no_more))
    ∷ accepts (bytes "<a=<08-01:00>>") (datum 0 None (member (bytes "a") (word 3 (bytes "08-01:00")) no_more))
    ∷ accepts (bytes "<a=<08+00>>") (datum 0 None (member (bytes "a") (word 3 (bytes "08+00")) no_more))
    ∷ accepts (bytes "<a=<08+00:00>>") (datum 0 None (member (bytes "a") (word 3 (bytes "08+00:00")) no_more))
    ∷ accepts (bytes "<a=<12-12>>") (datum 0 None (member (bytes "a") (word 3 (bytes "12-12")) no_more))
    -- words that are durations
    ∷ accepts (bytes "<a=<P12w3d>>") (datum 0 None (member (bytes "a") (word 3 (bytes "P12w3d")) no_more))
    ∷ accepts (bytes "<a=<P12W3D>>") (datum 0 None (member (bytes "a") (word 3 (bytes "P12W3D")) no_more))
    ∷ accepts (bytes "<a=<-P5d>>") (datum 0 None (member (bytes "a") (word 3 (bytes "-P5d")) no_more))
    ∷ accepts (bytes "<a=<P0d>>") (datum 0 None (member (bytes "a") (word 3 (bytes "P0d")) no_more))
    ∷ accepts (bytes "<a=<P0005d>>") (datum 0 None (member (bytes "a") (word 3 (bytes "P0005d")) no_more))
    ∷ accepts (bytes "<a=<PT5M3S>>") (datum 0 None (member (bytes "a") (word 3 (bytes "PT5M3S")) no_more))
    ∷ accepts (bytes "<a=<P1y2m3w4dT5h6m7s>>") (datum 0 None (member (bytes "a") (word 3 (bytes "P1y2m3w4dT5h6m7s")) no_more))
    ∷ accepts (bytes "<a=<P9999y9999m9999w9999dT9999h9999m9999s>>") (datum 0 None (member (bytes "a") (word 3 (bytes "P9999y9999m9999w9999dT9999h9999m9999s")) no_more))
    ∷ accepts (bytes "<a=<-P9999Y9999M9999W9999DT9999H9999M9999S>>") (datum 0 None (member (bytes "a") (word 3 (bytes "-P9999Y9999M9999W9999DT9999H9999M9999S")) no_more))
    -- words that are nearly durations
    ∷ refuses (bytes "<a=<P>>") 5 4
    ∷ refuses (bytes "<a=<PT>>") 5 4
    ∷ refuses (bytes "<a=<-P>>") 5 4
    ∷ refuses (bytes "<a=<P5>>") 5 4
    ∷ refuses (bytes "<a=<P5dT>>") 5 4
    ∷ refuses (bytes "<a=<Pd>>") 5 4
    ∷ refuses (bytes "<a=<P00005d>>") 5 4
    ∷ refuses (bytes "<a=<P1d2w>>") 5 4
    ∷ refuses (bytes "<a=<P1w1w>>") 5 4
    ∷ refuses (bytes "<a=<PT1s1h>>") 5 4
    ∷ refuses (bytes "<a=<P1.5d>>") 5 4
    ∷ refuses (bytes "<a=<+P5d>>") 5 4
    ∷ refuses (bytes "<a=<Pt5m>>") 5 4
    ∷ refuses (bytes "<a=<P5d_>>") 5 4
    ∷ refuses (bytes "<a=<p5d>>") 2 7
    ∷ refuses (bytes "<a=<--P5d>>") 2 11
    ∷ refuses (bytes "<a=<-p5d>>") 5 4
    ∷ refuses (bytes "<a=<P1h>>") 5 4
    ∷ refuses (bytes "<a=<PT1d>>") 5 4
    ∷ refuses (bytes "<a=<PTT5m>>") 5 4
    ∷ refuses (bytes "<a=<P5dT5>>") 5 4
    -- words that are not
    ∷ refuses (bytes "<a=<TRUE>>") 5 4
    ∷ refuses (bytes "<a=<Tru>>") 5 4
    ∷ refuses (bytes "<a=<True1>>") 5 4
    ∷ refuses (bytes "<a=<Truefalse>>") 5 4
    ∷ refuses (bytes "<a=<_x>>") 5 4
    ∷ refuses (bytes "<a=<Z>>") 5 4
    ∷ refuses (bytes "<a=<T>>") 5 4
    ∷ refuses (bytes "<a=<+>>") 5 4
    ∷ refuses (bytes "<a=<->>") 5 4
    ∷ refuses (bytes "<a=<.>>") 5 4
    ∷ refuses (bytes "<a=<:>>") 5 4
    ∷ refuses (bytes "<a=<--5>>") 2 9
    ∷ refuses (bytes "<a=<+5>>") 5 4
    ∷ refuses (bytes "<a=<-0>>") 5 4
    ∷ refuses (bytes "<a=<-00>>") 5 4
    ∷ refuses (bytes "<a=<-05>>") 5 4
    ∷ refuses (bytes "<a=<007>>") 5 4
    ∷ refuses (bytes "<a=<025>>") 5 4
    ∷ refuses (bytes "<a=<60:00>>") 5 4
    ∷ refuses (bytes "<a=<2147483648>>") 5 4
    ∷ refuses (bytes "<a=<-2147483649>>") 5 4
    ∷ refuses (bytes "<a=<99999999999999999999>>") 5 4
    ∷ refuses (bytes "<a=<5.5>>") 5 4
    ∷ refuses (bytes "<a=<5.>>") 5 4
    ∷ refuses (bytes "<a=<5->>") 5 4
    ∷ refuses (bytes "<a=<5:>>") 5 4
    ∷ refuses (bytes "<a=<1e5>>") 5 4
    ∷ refuses (bytes "<a=<5--3>>") 5 4
    ∷ refuses (bytes "<a=<5--c>>") 5 4
    ∷ refuses (bytes "<a=<24:00>>") 5 4
    ∷ refuses (bytes "<a=<24:00:00>>") 5 4
    ∷ refuses (bytes "<a=<24Z>>") 5 4
    ∷ refuses (bytes "<a=<25:00>>") 5 4
    ∷ refuses (bytes "<a=<08:60>>") 5 4
    ∷ refuses (bytes "<a=<08:30:60>>") 5 4
    ∷ refuses (bytes "<a=<8:30>>") 5 4
    ∷ refuses (bytes "<a=<08:3>>") 5 4
    ∷ refuses (bytes "<a=<08:30:5>>") 5 4
    ∷ refuses (bytes "<a=<08:30:00:00>>") 5 4
    ∷ refuses (bytes "<a=<083000>>") 5 4
    ∷ refuses (bytes "<a=<0830Z>>") 5 4
    ∷ refuses (bytes "<a=<08z>>") 5 4
    ∷ refuses (bytes "<a=<08ZZ>>") 5 4
    ∷ refuses (bytes "<a=<08+14>>") 5 4
    ∷ refuses (bytes "<a=<08+14:00>>") 5 4
    ∷ refuses (bytes "<a=<08+13:60>>") 5 4
    ∷ refuses (bytes "<a=<08-13>>") 5 4
    ∷ refuses (bytes "<a=<12-13>>") 5 4
    ∷ refuses (bytes "<a=<08-13:00>>") 5 4
    ∷ refuses (bytes "<a=<08-12:60>>") 5 4
    ∷ refuses (bytes "<a=<08-00>>") 5 4
    ∷ refuses (bytes "<a=<12-00>>") 5 4
    ∷ refuses (bytes "<a=<08-00:00>>") 5 4
    ∷ refuses (bytes "<a=<12+0930>>") 5 4
    ∷ refuses (bytes "<a=<08+0530>>") 5 4
    ∷ refuses (bytes "<a=<08+5>>") 5 4
    ∷ refuses (bytes "<a=<08+05:3>>") 5 4
    ∷ refuses (bytes "<a=<08+05:300>>") 5 4
    ∷ refuses (bytes "<a=<08+05Z>>") 5 4
    ∷ refuses (bytes "<a=<08+>>") 5 4
    ∷ refuses (bytes "<a=<08->>") 5 4
    ∷ refuses (bytes "<a=<+08>>") 5 4
    ∷ refuses (bytes "<a=<Z08>>") 5 4
    ∷ refuses (bytes "<a=<2004-13>>") 5 4
    ∷ refuses (bytes "<a=<2004-00>>") 5 4
    ∷ refuses (bytes "<a=<2004-5>>") 5 4
    ∷ refuses (bytes "<a=<2004-05->>") 5 4
    ∷ refuses (bytes "<a=<2004-05-2>>") 5 4
    ∷ refuses (bytes "<a=<2004-05-201>>") 5 4
    ∷ refuses (bytes "<a=<2004-05-32>>") 5 4
    ∷ refuses (bytes "<a=<2004-04-31>>") 5 4
    ∷ refuses (bytes "<a=<1900-02-29>>") 5 4
    ∷ refuses (bytes "<a=<2003-02-29>>") 5 4
    ∷ refuses (bytes "<a=<2004-02-30>>") 5 4
    ∷ refuses (bytes "<a=<2004-00-10>>") 5 4
    ∷ refuses (bytes "<a=<2004-05-00>>") 5 4
    ∷ accepts (bytes "<a=<200>>") (datum 0 None (member (bytes "a") (word 3 (bytes "200")) no_more))
    ∷ refuses (bytes "<a=<02004>>") 5 4
    ∷ refuses (bytes "<a=<12004-05-20>>") 5 4
    ∷ accepts (bytes "<a=<-2004>>") (datum 0 None (member (bytes "a") (word 3 (bytes "-2004")) no_more))
    ∷ refuses (bytes "<a=<-2004-05-20>>") 5 4
    ∷ refuses (bytes "<a=<2004-05-20Z>>") 5 4
    ∷ refuses (bytes "<a=<2004-05-20T10:00:00>>") 5 4
    ∷ refuses (bytes "<a=<2004-01-01T00:00:00>>") 5 4
    ∷ refuses (bytes "<a=<2004:05>>") 5 4
    ∷ refuses (bytes "<a=<T10:00>>") 5 4
    ∷ refuses (bytes "<a=<10:00.5>>") 5 4
    ∷ refuses (bytes "<a=<08:30:00.0>>") 5 4
    ∷ refuses (bytes "<a=<08:30-00:00>>") 5 4
    ∷ refuses (bytes "<a=<08:30:00-00>>") 5 4
    ∷ refuses (bytes "<a=<-12:59>>") 5 4
    -- several faults: the least place is told
    ∷ refuses (bytes "<a=<5x>a=<6>>") 5 4
    ∷ refuses (bytes "<a=<5>a=<6x>>") 9 6
    ∷ refuses (bytes "<a=<5>a=<6") 9 6
    ∷ refuses (bytes "<a=<5>b=<6>b=<7>a=<8>>") 9 11
    ∷ refuses (bytes "<a=<5>b=<6>a") 9 11
    ∷ refuses (bytes "<a=<5>a") 9 6
    ∷ refuses (bytes "<a=<5>a-b") 2 6
    ∷ refuses (bytes "<a=<5x") 5 4
    ∷ refuses (bytes "<a=<5x y") 5 4
    ∷ refuses (bytes "<a=<5x>\0") 5 4
    ∷ refuses (bytes "<a=<\"x\" 5x>>") 2 8
    ∷ refuses (bytes "(true)<a=<5x>>") 2 1
    ∷ refuses (bytes "<a=<24:00:00>a=<>>") 5 4
    -- names: one that begins like another is another; a repeated one is told where it first comes again
    ∷ accepts (bytes "<a=<5>ab=<5>>") (datum 0 None (member (bytes "a") (word 3 (bytes "5")) (member (bytes "ab") (word 9 (bytes "5")) no_more)))
    ∷ accepts (bytes "<ab=<5>a=<5>>") (datum 0 None (member (bytes "ab") (word 4 (bytes "5")) (member (bytes "a") (word 9 (bytes "5")) no_more)))
    ∷ accepts (bytes "<a=<5>aB=<5>ab=<5>>") (datum 0 None (member (bytes "a") (word 3 (bytes "5")) (member (bytes "aB") (word 9 (bytes "5")) (member (bytes "ab") (word 15 (bytes "5")) no_more))))
    ∷ refuses (bytes "<a=<>b=<>b=<>a=<>>") 9 9
    ∷ accepts (bytes "<a=<a=<5>>>") (datum 0 None (member (bytes "a") (block (datum 3 None (member (bytes "a") (word 6 (bytes "5")) no_more))) no_more))
    ∷ refuses (bytes "<a=<a=<5>a=<5>>>") 9 9
    ∷ refuses (bytes "<a=<b=<5>>b=<5>c=<>a=<>>") 9 19
    ∷ refuses (bytes "<a=<>a=<>a=<>>") 9 5
    -- types and names of 63 bytes and of 64
    ∷ accepts (bytes "(Abcdefghijklmnopqrstuvwxyz_0123456789_ABCDEFGHIJKLMNOPQRSTUVWXY)<>") (datum 65 (Some (bytes "Abcdefghijklmnopqrstuvwxyz_0123456789_ABCDEFGHIJKLMNOPQRSTUVWXY")) no_more)
    ∷ refuses (bytes "(Abcdefghijklmnopqrstuvwxyz_0123456789_ABCDEFGHIJKLMNOPQRSTUVWXYZ)<>") 4 1
    ∷ refuses (bytes "(Abcdefghijklmnopqrstuvwxyz_0123456789_ABCDEFGHIJKLMNOPQRSTUVWXYZ") 4 1
    ∷ refuses (bytes "(Abcdefghijklmnopqrstuvwxyz_0123456789_ABCDEFGHIJKLMNOPQRSTUVWXY-)<>") 2 1
    ∷ accepts (bytes "<a=(Abcdefghijklmnopqrstuvwxyz_0123456789_ABCDEFGHIJKLMNOPQRSTUVWXY)<>>") (datum 0 None (member (bytes "a") (block (datum 68 (Some (bytes "Abcdefghijklmnopqrstuvwxyz_0123456789_ABCDEFGHIJKLMNOPQRSTUVWXY")) no_more)) no_more))
    ∷ refuses (bytes "<a=(Abcdefghijklmnopqrstuvwxyz_0123456789_ABCDEFGHIJKLMNOPQRSTUVWXYZ)<>>") 4 4
    ∷ accepts (bytes "<abcdefghijklmnopqrstuvwxyz_0123456789_ABCDEFGHIJKLMNOPQRSTUVWXY=<5>>") (datum 0 None (member (bytes "abcdefghijklmnopqrstuvwxyz_0123456789_ABCDEFGHIJKLMNOPQRSTUVWXY") (word 65 (bytes "5")) no_more))
    ∷ refuses (bytes "<abcdefghijklmnopqrstuvwxyz_0123456789_ABCDEFGHIJKLMNOPQRSTUVWXYZ=<5>>") 4 1
    ∷ refuses (bytes "<abcdefghijklmnopqrstuvwxyz_0123456789_ABCDEFGHIJKLMNOPQRSTUVWXYZ") 4 1
    ∷ refuses (bytes "<abcdefghijklmnopqrstuvwxyz_0123456789_ABCDEFGHIJKLMNOPQRSTUVWXY-=<5>>") 2 1
    ∷ refuses (bytes "<abcdefghijklmnopqrstuvwxyz_0123456789_ABCDEFGHIJKLMNOPQRSTUVWXY=<5>abcdefghijklmnopqrstuvwxyz_0123456789_ABCDEFGHIJKLMNOPQRSTUVWXY=<5>>") 9 68
    ∷ refuses (bytes "<abcdefghijklmnopqrstuvwxyz_0123456789_ABCDEFGHIJKLMNOPQRSTUVWXYZ=<5>abcdefghijklmnopqrstuvwxyz_0123456789_ABCDEFGHIJKLMNOPQRSTUVWXYZ=<5>>") 4 1
    -- strings of 255 bytes and of 256; a word has no limit
    ∷ accepts (bytes "<a=<\"xxxxxxxxxxxxxxxxxxxxxxxxxxxxxxxxxxxxxxxxxxxxxxxxxxxxxxxxxxxxxxxxxxxxxxxxxxxxxxxxxxxxxxxxxxxxxxxxxxxxxxxxxxxxxxxxxxxxxxxxxxxxxxxxxxxxxxxxxxxxxxxxxxxxxxxxxxxxxxxxxxxxxxxxxxxxxxxxxxxxxxxxxxxxxxxxxxxxxxxxxxxxxxxxxxxxxxxxxxxxxxxxxxxxxxxxxxxxxxxxxxxxxxxxxxxxxxx\">>") (datum 0 None (member (bytes "a") (string 3 (bytes "xxxxxxxxxxxxxxxxxxxxxxxxxxxxxxxxxxxxxxxxxxxxxxxxxxxxxxxxxxxxxxxxxxxxxxxxxxxxxxxxxxxxxxxxxxxxxxxxxxxxxxxxxxxxxxxxxxxxxxxxxxxxxxxxxxxxxxxxxxxxxxxxxxxxxxxxxxxxxxxxxxxxxxxxxxxxxxxxxxxxxxxxxxxxxxxxxxxxxxxxxxxxxxxxxxxxxxxxxxxxxxxxxxxxxxxxxxxxxxxxxxxxxxxxxxxxxxx")) no_more))
    ∷ refuses (bytes "<a=<\"xxxxxxxxxxxxxxxxxxxxxxxxxxxxxxxxxxxxxxxxxxxxxxxxxxxxxxxxxxxxxxxxxxxxxxxxxxxxxxxxxxxxxxxxxxxxxxxxxxxxxxxxxxxxxxxxxxxxxxxxxxxxxxxxxxxxxxxxxxxxxxxxxxxxxxxxxxxxxxxxxxxxxxxxxxxxxxxxxxxxxxxxxxxxxxxxxxxxxxxxxxxxxxxxxxxxxxxxxxxxxxxxxxxxxxxxxxxxxxxxxxxxxxxxxxxxxxxx\">>") 4 4
    ∷ refuses (bytes "<a=<\"xxxxxxxxxxxxxxxxxxxxxxxxxxxxxxxxxxxxxxxxxxxxxxxxxxxxxxxxxxxxxxxxxxxxxxxxxxxxxxxxxxxxxxxxxxxxxxxxxxxxxxxxxxxxxxxxxxxxxxxxxxxxxxxxxxxxxxxxxxxxxxxxxxxxxxxxxxxxxxxxxxxxxxxxxxxxxxxxxxxxxxxxxxxxxxxxxxxxxxxxxxxxxxxxxxxxxxxxxxxxxxxxxxxxxxxxxxxxxxxxxxxxxxxxxxxxxxxx\"") 4 4
    ∷ refuses (bytes "<a=<1111111111111111111111111111111111111111111111111111111111111111111111111111111111111111111111111111111111111111111111111111111111111111111111111111111111111111111111111111111111111111111111111111111111111111111111111111111111111111111111111111111111111111>>") 5 4
    -- 16 levels and the 17th, told at its `<`; a leaf has no level
    ∷ accepts (bytes "<a=<a=<a=<a=<a=<a=<a=<a=<a=<a=<a=<a=<a=<a=<a=<>>>>>>>>>>>>>>>>") (datum 0 None (member (bytes "a") (block (datum 3 None (member (bytes "a") (block (datum 6 None (member (bytes "a") (block (datum 9 None (member (bytes "a") (block (datum 12 None (member (bytes "a") (block (datum 15 None (member (bytes "a") (block (datum 18 None (member (bytes "a") (block (datum 21 None (member (bytes "a") (block (datum 24 None (member (bytes "a") (block (datum 27 None (member (bytes "a") (block (datum 30 None (member (bytes "a") (block (datum 33 None (member (bytes "a") (block (datum 36 None (member (bytes "a") (block (datum 39 None (member (bytes "a") (block (datum 42 None (member (bytes "a") (block (datum 45 None no_more)) no_more))) no_more))) no_more))) no_more))) no_more))) no_more))) no_more))) no_more))) no_more))) no_more))) no_more))) no_more))) no_more))) no_more))) no_more))
    ∷ accepts (bytes "<a=<a=<a=<a=<a=<a=<a=<a=<a=<a=<a=<a=<a=<a=<a=<a=<5>>>>>>>>>>>>>>>>>") (datum 0 None (member (bytes "a") (block (datum 3 None (member (bytes "a") (block (datum 6 None (member (bytes "a") (block (datum 9 None (member (bytes "a") (block (datum 12 None (member (bytes "a") (block (datum 15 None (member (bytes "a") (block (datum 18 None (member (bytes "a") (block (datum 21 None (member (bytes "a") (block (datum 24 None (member (bytes "a") (block (datum 27 None (member (bytes "a") (block (datum 30 None (member (bytes "a") (block (datum 33 None (member (bytes "a") (block (datum 36 None (member (bytes "a") (block (datum 39 None (member (bytes "a") (block (datum 42 None (member (bytes "a") (block (datum 45 None (member (bytes "a") (word 48 (bytes "5")) no_more))) no_more))) no_more))) no_more))) no_more))) no_more))) no_more))) no_more))) no_more))) no_more))) no_more))) no_more))) no_more))) no_more))) no_more))) no_more))
    ∷ accepts (bytes "<a=<a=<a=<a=<a=<a=<a=<a=<a=<a=<a=<a=<a=<a=<a=<a=<\"x\">>>>>>>>>>>>>>>>>") (datum 0 None (member (bytes "a") (block (datum 3 None (member (bytes "a") (block (datum 6 None (member (bytes "a") (block (datum 9 None (member (bytes "a") (block (datum 12 None (member (bytes "a") (block (datum 15 None (member (bytes "a") (block (datum 18 None (member (bytes "a") (block (datum 21 None (member (bytes "a") (block (datum 24 None (member (bytes "a") (block (datum 27 None (member (bytes "a") (block (datum 30 None (member (bytes "a") (block (datum 33 None (member (bytes "a") (block (datum 36 None (member (bytes "a") (block (datum 39 None (member (bytes "a") (block (datum 42 None (member (bytes "a") (block (datum 45 None (member (bytes "a") (string 48 (bytes "x")) no_more))) no_more))) no_more))) no_more))) no_more))) no_more))) no_more))) no_more))) no_more))) no_more))) no_more))) no_more))) no_more))) no_more))) no_more))) no_more))
    ∷ refuses (bytes "<a=<a=<a=<a=<a=<a=<a=<a=<a=<a=<a=<a=<a=<a=<a=<a=<>>>>>>>>>>>>>>>>>") 3 48
    ∷ refuses (bytes "<a=<a=<a=<a=<a=<a=<a=<a=<a=<a=<a=<a=<a=<a=<a=<a=<a=<5>>>>>>>>>>>>>>>>>>") 3 48
    ∷ refuses (bytes "<a=<a=<a=<a=<a=<a=<a=<a=<a=<a=<a=<a=<a=<a=<a=<a=<") 3 48
    ∷ refuses (bytes "<a=<a=<a=<a=<a=<a=<a=<a=<a=<a=<a=<a=<a=<a=<a=<a=<5>") 2 51
    ∷ refuses (bytes "<a=<a=<a=<a=<a=<a=<a=<a=<a=<a=<a=<a=<a=<a=<a=<a=<\"x") 3 48
    ∷ refuses (bytes "<a=<a=<a=<a=<a=<a=<a=<a=<a=<a=<a=<a=<a=<a=<a=<a=<b.c") 3 48
    ∷ refuses (bytes "<a=<a=<a=<a=<a=<a=<a=<a=<a=<a=<a=<a=<a=<a=<a=<a=<b") 3 48
    ∷ refuses (bytes "<a=<a=<a=<a=<a=<a=<a=<a=<a=<a=<a=<a=<a=<a=<a=<a=<5x") 5 49
    ∷ refuses (bytes "<a=<a=<a=<a=<a=<a=<a=<a=<a=<a=<a=<a=<a=<a=<a=<a=<>") 3 48
    ∷ refuses (bytes "<a=<a=<a=<a=<a=<a=<a=<a=<a=<a=<a=<a=<a=<a=<a=<a=<\"xxxxxxxxxxxxxxxxxxxxxxxxxxxxxxxxxxxxxxxxxxxxxxxxxxxxxxxxxxxxxxxxxxxxxxxxxxxxxxxxxxxxxxxxxxxxxxxxxxxxxxxxxxxxxxxxxxxxxxxxxxxxxxxxxxxxxxxxxxxxxxxxxxxxxxxxxxxxxxxxxxxxxxxxxxxxxxxxxxxxxxxxxxxxxxxxxxxxxxxxxxxxxxxxxxxxxxxxxxxxxxxxxxxxxxxxxxxxxxxxxxxxxxxxxxxxxxxx\"") 4 49
    ∷ refuses (bytes "<a=<a=<a=<a=<a=<a=<a=<a=<a=<a=<a=<a=<a=<a=<a=<a=(T)<>") 3 51
    ∷ refuses (bytes "<a=<a=<a=<a=<a=<a=<a=<a=<a=<a=<a=<a=<a=<a=<a=<a=(T) <5>") 3 52
    ∷ refuses (bytes "<a=<a=<a=<a=<a=<a=<a=<a=<a=<a=<a=<a=<a=<a=<a=<a=(T)") 2 51
    ∷ refuses (bytes "<a=<a=<a=<a=<a=<a=<a=<a=<a=<a=<a=<a=<a=<a=<a=<a=(T") 2 50
    ∷ refuses (bytes "<a=<a=<a=<a=<a=<a=<a=<a=<a=<a=<a=<a=<a=<a=<a=<a=(t)<>") 2 49
    ∷ refuses (bytes "<a=<a=<a=<a=<a=<a=<a=<a=<a=<a=<a=<a=<a=<a=<a=<a=(Abcdefghijklmnopqrstuvwxyz_0123456789_ABCDEFGHIJKLMNOPQRSTUVWXYZ)<") 4 49
    ∷ accepts (bytes "(T)<a=(T)<a=(T)<a=(T)<a=(T)<a=(T)<a=(T)<a=(T)<a=(T)<a=(T)<a=(T)<a=(T)<a=(T)<a=(T)<a=(T)<a=(T)<>>>>>>>>>>>>>>>>") (datum 3 (Some (bytes "T")) (member (bytes "a") (block (datum 9 (Some (bytes "T")) (member (bytes "a") (block (datum 15 (Some (bytes "T")) (member (bytes "a") (block (datum 21 (Some (bytes "T")) (member (bytes "a") (block (datum 27 (Some (bytes "T")) (member (bytes "a") (block (datum 33 (Some (bytes "T")) (member (bytes "a") (block (datum 39 (Some (bytes "T")) (member (bytes "a") (block (datum 45 (Some (bytes "T")) (member (bytes "a") (block (datum 51 (Some (bytes "T")) (member (bytes "a") (block (datum 57 (Some (bytes "T")) (member (bytes "a") (block (datum 63 (Some (bytes "T")) (member (bytes "a") (block (datum 69 (Some (bytes "T")) (member (bytes "a") (block (datum 75 (Some (bytes "T")) (member (bytes "a") (block (datum 81 (Some (bytes "T")) (member (bytes "a") (block (datum 87 (Some (bytes "T")) (member (bytes "a") (block (datum 93 (Some (bytes "T")) no_more)) no_more))) no_more))) no_more))) no_more))) no_more))) no_more))) no_more))) no_more))) no_more))) no_more))) no_more))) no_more))) no_more))) no_more))) no_more))
    ∷ refuses (bytes "(T)<a=(T)<a=(T)<a=(T)<a=(T)<a=(T)<a=(T)<a=(T)<a=(T)<a=(T)<a=(T)<a=(T)<a=(T)<a=(T)<a=(T)<a=(T)<a=(T)<>>>>>>>>>>>>>>>>>") 3 99
    -- texts over 16,384 bytes, and of that length
    ∷ refuses (replicate 16_385 32) 1 16_384
    ∷ refuses (replicate 16_385 0) 1 16_384
    ∷ refuses (replicate 16_384 32) 2 16_384
    ∷ refuses (replicate 16_384 60) 2 1
    ∷ []

pub none_wrong : wrong right 0 cases ≡ []
unfolding wrong right cases datum_list data_computes
none_wrong = refl
