-- Short texts from a generator with a fixed seed. The expectations are the second implementation's.
-- This file is written by `example_tables write` of second/. Assumes nothing.
use mathlib.Core.Path.{◌≡◌, refl}
use mathlib.Core.List.{List, [], ◌∷◌}
use Rattle.lexis.specs.Text.{bytes}
use Rattle.lexis.proofs.Tables.{wrong}
use Rattle.meaning.specs.Constraints.{no_more, any, nested, leaf, single, ranges, texts, booleans, integers, date_pattern, dates, time_pattern, duration_pattern}
use Rattle.meaning.proofs.Trees.{range, item, object_with, attribute_with, object_list}
use Rattle.cadl_objects.proofs.Computes.{constraint_computes}
use Rattle.cadl_objects.proofs.Examples.{Case, accepts, refuses, right}

pub cases : List Case
cases =
    -- texts as the generator gives them, not too many with the same answer
    accepts (bytes "A matches { a matches { A matches { a matches { Pm } } } }") (object_with 1 (bytes "A") [] (attribute_with 2 2 (bytes "a") (nested (object_with 3 (bytes "A") [] (attribute_with 4 2 (bytes "a") (leaf (single duration_pattern 5 2)) no_more))) no_more))
    ∷ accepts (bytes "Thh\nmatches{existence1\nexistence matches{0..0}matches{Thh:mm:ss}abc\rexistence\nmatches{0..1}matches{PT\nmatches{*}}}") (object_with 1 (bytes "Thh") [] (attribute_with 2 0 (bytes "existence1") (leaf (single time_pattern 3 1)) (attribute_with 4 1 (bytes "abc") (nested (object_with 5 (bytes "PT") [] no_more)) no_more)))
    ∷ accepts (bytes "Pd â\u{88}\u{88} { a1 matches { | < 4945-11-13 | } }") (object_with 1 (bytes "Pd") [] (attribute_with 2 2 (bytes "a1") (leaf (ranges dates (range 3 101 49_451_112 ∷ []))) no_more))
    ∷ accepts (bytes "TRUE\tmatches{yyyy existence matches{0..1}matches{*}existence1 existence matches{1}â\u{88}\u{88}{PD\nmatches{*}}}") (object_with 1 (bytes "TRUE") [] (attribute_with 2 1 (bytes "yyyy") any (attribute_with 3 2 (bytes "existence1") (nested (object_with 4 (bytes "PD") [] no_more)) no_more)))
    ∷ refuses (bytes "A--\nmatches\r{\t\ta\r\nmatches---a>\r{\n\r A\tmatches\t\n{a\nmatches{--\nA \n\tmatches{a\tmatches\t\t{ \rPdT\tmatches--Âß\"\n{ \r*} ") 2 109
    ∷ accepts (bytes "Tru matches{matche\nexistence\rmatches{0..1}matches{PwTh}valueâ\u{88}\u{88}{|>8143-11-07..8143-11-17|,|>=8143-11-19|}}") (object_with 1 (bytes "Tru") [] (attribute_with 2 1 (bytes "matche") (leaf (single duration_pattern 3 20)) (attribute_with 4 2 (bytes "value") (leaf (ranges dates (range 5 81_431_108 81_431_117 ∷ range 6 81_431_119 99_991_231 ∷ []))) no_more)))
    ∷ accepts (bytes "ELEMENT matches{a\rexistence\tmatches{0..0}matches{yyyy-??-??}}") (object_with 1 (bytes "ELEMENT") [] (attribute_with 2 0 (bytes "a") (leaf (single date_pattern 3 3)) no_more))
    ∷ accepts (bytes "PymwdThmsâ\u{88}\u{88}{matche existence\rmatches{1}matches{|>1998-12-30..1998-12-31|}}") (object_with 1 (bytes "PymwdThms") [] (attribute_with 2 2 (bytes "matche") (leaf (ranges dates (range 3 19_981_231 19_981_231 ∷ []))) no_more))
    ∷ accepts (bytes "FALSE matches{*\n} \n") (object_with 1 (bytes "FALSE") [] no_more)
    ∷ refuses (bytes "XXâ\u{88}\u{88}{}") 2 6
    ∷ accepts (bytes "PymwdThms [at0000.0.0.12] matches { x9Z_ matches { A1 â\u{88}\u{88} { c â\u{88}\u{88} { \"a\" } } } }") (object_with 1 (bytes "PymwdThms") (bytes "at0000.0.0.12") (attribute_with 2 2 (bytes "x9Z_") (nested (object_with 3 (bytes "A1") [] (attribute_with 4 2 (bytes "c") (leaf (texts (item 5 (bytes "a") ∷ []))) no_more))) no_more))
    ∷ refuses (bytes "Thh\rmatches{x9Z_â\u{88}\u{88}{Pmwd}at0001\nexistenc") 2 32
    ∷ accepts (bytes "-- ³a1}\nFalsey\nmatches{*\r }") (object_with 1 (bytes "Falsey") [] no_more)
    ∷ refuses (bytes "]+\u{88}\u{1f}a{|,\"âZw?m\u{80}*0_Ptdÿ_z|};(>|(,)|(\\\\1") 2 0
    ∷ accepts (bytes "PTm\rmatches{mm\rexistence matches{0..1}â\u{88}\u{88}{0,|2..32|}at0001â\u{88}\u{88}{False}b matches{yyyy-mm-XX}}") (object_with 1 (bytes "PTm") [] (attribute_with 2 1 (bytes "mm") (leaf (ranges integers (range 3 2_147_483_648 2_147_483_648 ∷ range 4 2_147_483_650 2_147_483_680 ∷ []))) (attribute_with 5 2 (bytes "at0001") (leaf (single booleans 6 2)) (attribute_with 7 2 (bytes "b") (leaf (single date_pattern 8 4)) no_more))))
    ∷ accepts (bytes "PymwdThms [at0000.0.0.12] matches { * }") (object_with 1 (bytes "PymwdThms") (bytes "at0000.0.0.12") no_more)
    ∷ accepts (bytes "AB â\u{88}\u{88} { c matches { Thh:mm:XX } true â\u{88}\u{88} { True , False } }") (object_with 1 (bytes "AB") [] (attribute_with 2 2 (bytes "c") (leaf (single time_pattern 3 2)) (attribute_with 4 2 (bytes "true") (leaf (single booleans 5 3)) no_more)))
    ∷ accepts (bytes "\tPwd\r\râ\u{88}\u{88}  {\r*}") (object_with 1 (bytes "Pwd") [] no_more)
    ∷ accepts (bytes "Falsey â\u{88}\u{88} { mm existence matches { 1 .. 1 } matches { \" \" , \"a b\" , \"a\" } x9Z_ matches { \"A\" , \"a\" , \"~!#'()[]<>\" } }") (object_with 1 (bytes "Falsey") [] (attribute_with 2 2 (bytes "mm") (leaf (texts (item 3 (bytes " ") ∷ item 4 (bytes "a b") ∷ item 5 (bytes "a") ∷ []))) (attribute_with 6 2 (bytes "x9Z_") (leaf (texts (item 7 (bytes "A") ∷ item 8 (bytes "a") ∷ item 9 (bytes "~!#'()[]<>") ∷ []))) no_more)))
    ∷ accepts (bytes "A1[at0000]matches{at0001\texistence\nmatches{0..1}matches{\"\",\"a\",\"abc\"}}") (object_with 1 (bytes "A1") (bytes "at0000") (attribute_with 2 1 (bytes "at0001") (leaf (texts (item 3 [] ∷ item 4 (bytes "a") ∷ item 5 (bytes "abc") ∷ []))) no_more))
    ∷ accepts (bytes "PDâ\u{88}\u{88}{yyyy\rmatches{\"{|},*\",\"a\"}abc\rmatches{B[at00000000]â\u{88}\u{88}{*}}}") (object_with 1 (bytes "PD") [] (attribute_with 2 2 (bytes "yyyy") (leaf (texts (item 3 (bytes "{|},*") ∷ item 4 (bytes "a") ∷ []))) (attribute_with 5 2 (bytes "abc") (nested (object_with 6 (bytes "B") (bytes "at00000000") no_more)) no_more)))
    ∷ accepts (bytes "X[at00000000]matches{at0001\texistence matches{1..1}matches{yyyy-mm-dd}mm\rexistenceâ\u{88}\u{88}{0}matches{PTs}abc\tmatches{*}}") (object_with 1 (bytes "X") (bytes "at00000000") (attribute_with 2 2 (bytes "at0001") (leaf (single date_pattern 3 1)) (attribute_with 4 0 (bytes "mm") (leaf (single duration_pattern 5 64)) (attribute_with 6 2 (bytes "abc") any no_more))))
    ∷ accepts (bytes "Thh[at0000.0.0.12]\t\r matches{*}") (object_with 1 (bytes "Thh") (bytes "at0000.0.0.12") no_more)
    ∷ accepts (bytes "--ñ\u{15}\rAB \n [at0.0.1]â\u{88}\u{88}{   at0001--ø1Ö{}#1\nexistence\t\r\nmatches\n\r {1--|\r..1}matches {-->»\n*}--\\£4¾\n}\t\n") (object_with 1 (bytes "AB") (bytes "at0.0.1") (attribute_with 2 2 (bytes "at0001") any no_more))
    ∷ accepts (bytes "B matches { yyyy existence matches { 0 .. 0 } matches { | 12 .. < 100013 | , | > -4 .. < 7 | , | 7 .. < 11 | } }") (object_with 1 (bytes "B") [] (attribute_with 2 0 (bytes "yyyy") (leaf (ranges integers (range 3 2_147_483_660 2_147_583_660 ∷ range 4 2_147_483_645 2_147_483_654 ∷ range 5 2_147_483_655 2_147_483_658 ∷ []))) no_more))
    ∷ accepts (bytes "\n\t\tPâ\u{88}\u{88}{ *\n \r}") (object_with 1 (bytes "P") [] no_more)
    ∷ accepts (bytes "P matches { * }") (object_with 1 (bytes "P") [] no_more)
    ∷ accepts (bytes "A matches{\t\ta matches{Py--\r}}") (object_with 1 (bytes "A") [] (attribute_with 2 2 (bytes "a") (leaf (single duration_pattern 3 1)) no_more))
    ∷ accepts (bytes "ELEMENTâ\u{88}\u{88}{a1\texistence\nmatches{0..0}â\u{88}\u{88}{|<=9999-12-31|}existenc existenceâ\u{88}\u{88}{1..1}matches{|-3..<28|,29,|61..<63|}}") (object_with 1 (bytes "ELEMENT") [] (attribute_with 2 0 (bytes "a1") (leaf (ranges dates (range 3 101 99_991_231 ∷ []))) (attribute_with 4 2 (bytes "existenc") (leaf (ranges integers (range 5 2_147_483_645 2_147_483_675 ∷ range 6 2_147_483_677 2_147_483_677 ∷ range 7 2_147_483_709 2_147_483_710 ∷ []))) no_more)))
    ∷ refuses (bytes "A matches { true existence matches { 1 .. 1 } matches { PyTm } matche existence matches { 0 .. 0 } â\u{88}\u{88} { yyyy-") 2 105
    ∷ refuses (bytes "A\tmatches{a existence\rmatches{1..1}matches{|1999-02-23..1999-02-22|,|1999-02-22|,|1999-02-23..<1999-02-26|}}") 6 66
    ∷ accepts (bytes "ELEMENT\rmatches{aa\nmatches{PThm}}") (object_with 1 (bytes "ELEMENT") [] (attribute_with 2 2 (bytes "aa") (leaf (single duration_pattern 3 48)) no_more))
    ∷ accepts (bytes "FALSE matches{mmâ\u{88}\u{88}{|50005+/-50000|}aaâ\u{88}\u{88}{TRUE\nmatches{*}}}") (object_with 1 (bytes "FALSE") [] (attribute_with 2 2 (bytes "mm") (leaf (ranges integers (range 3 2_147_483_653 2_147_583_653 ∷ []))) (attribute_with 4 2 (bytes "aa") (nested (object_with 5 (bytes "TRUE") [] no_more)) no_more)))
    ∷ accepts (bytes "Pwd[at0.0.1]â\u{88}\u{88}{value\rexistence\tmatches{0..1}matches{Thh:??:XX}}") (object_with 1 (bytes "Pwd") (bytes "at0.0.1") (attribute_with 2 1 (bytes "value") (leaf (single time_pattern 3 3)) no_more))
    ∷ accepts (bytes "A â\u{88}\u{88} { yyyy existence â\u{88}\u{88} { 0 } â\u{88}\u{88} { Thh:??:?? } true existence â\u{88}\u{88} { 1 .. 1 } matches { PmwThs } }") (object_with 1 (bytes "A") [] (attribute_with 2 0 (bytes "yyyy") (leaf (single time_pattern 3 4)) (attribute_with 4 2 (bytes "true") (leaf (single duration_pattern 5 86)) no_more)))
    ∷ accepts (bytes "FALSE[at00000000]â\u{88}\u{88}--.'m)*\u{4}\r{--V(\0 1\n*} --\u{12}") (object_with 1 (bytes "FALSE") (bytes "at00000000") no_more)
    ∷ refuses (bytes "Pdâ\u{88}\u{88}Thh:XX:XX{matche\tmatches{0..1}â\u{88}\u{88}{yyyy-??-XX}}") 2 5
    ∷ refuses (bytes "Taaaaaaaaaaaaaaaaaaaaaaaaaaaaaaaaaaaaaaaaaaaaaaaaaaaaaaaaaaaaaa\nmatches{true existenceâ\u{88}\u{88}{1..1}matches{True,True,True}}") 9 108
    ∷ accepts (bytes "XX [at1] â\u{88}\u{88} { * }") (object_with 1 (bytes "XX") (bytes "at1") no_more)
    ∷ refuses (bytes "P/-{z;A/\0\n>1â[(0wT;.>=") 2 1
    ∷ refuses (bytes "A matches{a matches{A\tmatches{a matches{Py;}}}}") 2 42
    ∷ accepts (bytes "TRUEâ\u{88}\u{88}{a1\rexistence\tmatches{1..1}â\u{88}\u{88}{yyyy-mm-??}n1 existence\tmatches{1..1}matches{*}}") (object_with 1 (bytes "TRUE") [] (attribute_with 2 2 (bytes "a1") (leaf (single date_pattern 3 2)) (attribute_with 4 2 (bytes "n1") any no_more)))
    ∷ accepts (bytes "P matches  {ab\texistence\nmatches {0..1}\tâ\u{88}\u{88}{ \t-1040255790 \t\n,|\n \n-1040255789.. \n\r-1040255789|}}") (object_with 1 (bytes "P") [] (attribute_with 2 1 (bytes "ab") (leaf (ranges integers (range 3 1_107_227_858 1_107_227_858 ∷ range 4 1_107_227_859 1_107_227_859 ∷ []))) no_more))
    ∷ refuses (bytes " \n\tA\nmatches{a\tmatches{A matches{a\tmatches{ A\tmatches\r{\t\ta matches{Pyw}") 2 71
    ∷ accepts (bytes "  \rFALSE--½\r[at0000]â\u{88}\u{88} {yyyy\texistence matches\t{0..\t  1\t\n\t}matches{\r|>=9999-12-31 \t|--\"|±}*Ñ\u{8d}\r}\n }--_}DÔ\u{8b}|\r") (object_with 1 (bytes "FALSE") (bytes "at0000") (attribute_with 2 1 (bytes "yyyy") (leaf (ranges dates (range 3 99_991_231 99_991_231 ∷ []))) no_more))
    ∷ accepts (bytes "T\nmatches{existence1â\u{88}\u{88}{Pmw}}") (object_with 1 (bytes "T") [] (attribute_with 2 2 (bytes "existence1") (leaf (single duration_pattern 3 6)) no_more))
    ∷ refuses (bytes "A\rmatches{a\nexistence\nmatches{1..1}â\u{88}\u{88}{|1999-02-28|,|1999-04-12|,|1999-04-14|,|{1999-04-02..<1999-04-03|}}") 2 79
    ∷ accepts (bytes "--|cÔ\u{88}\nFalsey\t  [at0000]\n\t\tmatches{\n\r\naa\tmatches {|1999-02-28|\t ,--\u{3}Ã\n|--\u{1f}Ô|af\n1999-04-01|--<--*<\u{89}}\r}\t\n\n}") (object_with 1 (bytes "Falsey") (bytes "at0000") (attribute_with 2 2 (bytes "aa") (leaf (ranges dates (range 3 19_990_228 19_990_228 ∷ range 4 19_990_401 19_990_401 ∷ []))) no_more))
    ∷ accepts (bytes "T â\u{88}\u{88} { at0001 â\u{88}\u{88} { Py } n1 existence matches { 1 .. 1 } â\u{88}\u{88} { | 0 | , | 2 .. < 6 | , | > 5 .. 15 | } }") (object_with 1 (bytes "T") [] (attribute_with 2 2 (bytes "at0001") (leaf (single duration_pattern 3 1)) (attribute_with 4 2 (bytes "n1") (leaf (ranges integers (range 5 2_147_483_648 2_147_483_648 ∷ range 6 2_147_483_650 2_147_483_653 ∷ range 7 2_147_483_654 2_147_483_663 ∷ []))) no_more)))
    ∷ accepts (bytes "Pwd matches{*}") (object_with 1 (bytes "Pwd") [] no_more)
    ∷ accepts (bytes "Bâ\u{88}\u{88}{yyyy\texistenceâ\u{88}\u{88}{1}matches{*}}") (object_with 1 (bytes "B") [] (attribute_with 2 2 (bytes "yyyy") any no_more))
    ∷ accepts (bytes "A1â\u{88}\u{88}{matchesx\nexistence matches{0..1}matches{\" \",\"a b\",\"abc\"}}") (object_with 1 (bytes "A1") [] (attribute_with 2 1 (bytes "matchesx") (leaf (texts (item 3 (bytes " ") ∷ item 4 (bytes "a b") ∷ item 5 (bytes "abc") ∷ []))) no_more))
    ∷ accepts (bytes "P\nmatches{value\texistence\tmatches{1}matches{False,True}}") (object_with 1 (bytes "P") [] (attribute_with 2 2 (bytes "value") (leaf (single booleans 3 3)) no_more))
    ∷ accepts (bytes "ABC\nmatches{aa matches{*}}") (object_with 1 (bytes "ABC") [] (attribute_with 2 2 (bytes "aa") any no_more))
    ∷ accepts (bytes "B-- \n[at0000]--,\rmatches { aa existence   matches{1..1}â\u{88}\u{88}{|8873-08-26.. 8873-08-26 \r|\n\n }--Û\n}") (object_with 1 (bytes "B") (bytes "at0000") (attribute_with 2 2 (bytes "aa") (leaf (ranges dates (range 3 88_730_826 88_730_826 ∷ []))) no_more))
    ∷ accepts (bytes "C\rmatches{at0001 existence\nmatches{0..1}matches{PTs}matchesx\nexistence matches{1}â\u{88}\u{88}{yyyy-mm-dd}}") (object_with 1 (bytes "C") [] (attribute_with 2 1 (bytes "at0001") (leaf (single duration_pattern 3 64)) (attribute_with 4 2 (bytes "matchesx") (leaf (single date_pattern 5 1)) no_more)))
    ∷ accepts (bytes "PdX\tmatches{c\texistence matches{0..1}matches{PymdTs}}") (object_with 1 (bytes "PdX") [] (attribute_with 2 1 (bytes "c") (leaf (single duration_pattern 3 75)) no_more))
    ∷ accepts (bytes "Pwd\tmatches{value existence\tmatches{0..1}matches{Pd}abcâ\u{88}\u{88}{Câ\u{88}\u{88}{abc\nmatches{|>=9999-12-31|}}}}") (object_with 1 (bytes "Pwd") [] (attribute_with 2 1 (bytes "value") (leaf (single duration_pattern 3 8)) (attribute_with 4 2 (bytes "abc") (nested (object_with 5 (bytes "C") [] (attribute_with 6 2 (bytes "abc") (leaf (ranges dates (range 7 99_991_231 99_991_231 ∷ []))) no_more))) no_more)))
    ∷ accepts (bytes "PD\rmatches{a\texistenceâ\u{88}\u{88}{1}matches{\"{|},*\"}}") (object_with 1 (bytes "PD") [] (attribute_with 2 2 (bytes "a") (leaf (texts (item 3 (bytes "{|},*") ∷ []))) no_more))
    ∷ accepts (bytes "A matches{a\rmatches{PyTm}}") (object_with 1 (bytes "A") [] (attribute_with 2 2 (bytes "a") (leaf (single duration_pattern 3 33)) no_more))
    ∷ refuses (bytes "´©Þ°\u{8b}Ç¢À¯3Â\u{97}\u{1}P¬.N¶²\u{91}~ÈÓ\u{99}Ï·Ne\u{b}\u{10}8¥³èã4\u{14}}¶[qÍè") 2 0
    ∷ accepts (bytes "Thh â\u{88}\u{88} { a1 â\u{88}\u{88} { yyyy-??-XX } at0001 existence matches { 0 .. 1 } matches { PdTs } existence1 â\u{88}\u{88} { | 95 .. 95 | } }") (object_with 1 (bytes "Thh") [] (attribute_with 2 2 (bytes "a1") (leaf (single date_pattern 3 5)) (attribute_with 4 1 (bytes "at0001") (leaf (single duration_pattern 5 72)) (attribute_with 6 2 (bytes "existence1") (leaf (ranges integers (range 7 2_147_483_743 2_147_483_743 ∷ []))) no_more))))
    ∷ accepts (bytes "\n\r Câ\u{88}\u{88}{b\rmatches{Pwd [at0.0.1]matches{\t \r*}}}") (object_with 1 (bytes "C") [] (attribute_with 2 2 (bytes "b") (nested (object_with 3 (bytes "Pwd") (bytes "at0.0.1") no_more)) no_more))
    ∷ accepts (bytes "C matches{value existence\tmatches{0..1}â\u{88}\u{88}{Falsey\rmatches{*}}a1 matches{Thh:??:??}c\texistence\rmatches{0..0}â\u{88}\u{88}{-3}}") (object_with 1 (bytes "C") [] (attribute_with 2 1 (bytes "value") (nested (object_with 3 (bytes "Falsey") [] no_more)) (attribute_with 4 2 (bytes "a1") (leaf (single time_pattern 5 4)) (attribute_with 6 0 (bytes "c") (leaf (ranges integers (range 7 2_147_483_645 2_147_483_645 ∷ []))) no_more))))
    ∷ accepts (bytes "  P\t matches\n\r{aa\nmatches{\" \",\r\r\r\"A\", \n \"0123456789\"}a_\r\nexistence--<å}\nâ\u{88}\u{88}--µ\"**|\r{ 1}matches{yyyy-mm-dd}}") (object_with 1 (bytes "P") [] (attribute_with 2 2 (bytes "aa") (leaf (texts (item 3 (bytes " ") ∷ item 4 (bytes "A") ∷ item 5 (bytes "0123456789") ∷ []))) (attribute_with 6 2 (bytes "a_") (leaf (single date_pattern 7 1)) no_more)))
    ∷ accepts (bytes "Falsey[at00000000]matches{x9Z_\tmatches{yyyy-??-??}}") (object_with 1 (bytes "Falsey") (bytes "at00000000") (attribute_with 2 2 (bytes "x9Z_") (leaf (single date_pattern 3 3)) no_more))
    ∷ accepts (bytes "A_b\nmatches--\"\u{8b}a§1±\n{\t abc\texistence matches\t\t{--´\"$-\u{98} a\n0}matches\n {False,--Y**}\rTrue\r\r\n} \r}\t\r\n") (object_with 1 (bytes "A_b") [] (attribute_with 2 0 (bytes "abc") (leaf (single booleans 3 3)) no_more))
    ∷ accepts (bytes "AB\rmatches{ab\rexistence\rmatches{0..0}matches{Thh:??:??}at0001\texistence\tmatches{0..1}â\u{88}\u{88}{False}}") (object_with 1 (bytes "AB") [] (attribute_with 2 0 (bytes "ab") (leaf (single time_pattern 3 4)) (attribute_with 4 1 (bytes "at0001") (leaf (single booleans 5 2)) no_more)))
    ∷ accepts (bytes "PdX[at0.0.1]matches{c matches{Thh:??:XX}}") (object_with 1 (bytes "PdX") (bytes "at0.0.1") (attribute_with 2 2 (bytes "c") (leaf (single time_pattern 3 3)) no_more))
    ∷ accepts (bytes "PymwdThmsâ\u{88}\u{88}{*}") (object_with 1 (bytes "PymwdThms") [] no_more)
    ∷ accepts (bytes "ELEMENT\nmatches{matchesx\nexistenceâ\u{88}\u{88}{0..1}matches{\"b\"}n1\rexistenceâ\u{88}\u{88}{1}matches{|5653-07-20|}}") (object_with 1 (bytes "ELEMENT") [] (attribute_with 2 1 (bytes "matchesx") (leaf (texts (item 3 (bytes "b") ∷ []))) (attribute_with 4 2 (bytes "n1") (leaf (ranges dates (range 5 56_530_720 56_530_720 ∷ []))) no_more)))
    ∷ accepts (bytes "ABCâ\u{88}\u{88}{a_\rexistence\rmatches{1}matches{*}}") (object_with 1 (bytes "ABC") [] (attribute_with 2 2 (bytes "a_") any no_more))
    ∷ accepts (bytes "TRUEâ\u{88}\u{88}{trueâ\u{88}\u{88}{|0000-02-29..0000-03-09|}matche existence\tmatches{1}matches{True}n2\nmatches{Thh:??:XX}yyyy\rmatches{*}}") (object_with 1 (bytes "TRUE") [] (attribute_with 2 2 (bytes "true") (leaf (ranges dates (range 3 229 309 ∷ []))) (attribute_with 4 2 (bytes "matche") (leaf (single booleans 5 1)) (attribute_with 6 2 (bytes "n2") (leaf (single time_pattern 7 3)) (attribute_with 8 2 (bytes "yyyy") any no_more)))))
    ∷ refuses (bytes "Pym\tmatches{a matches{A\nmatches{a matches{Td,Pd}}}}") 2 44
    ∷ refuses (bytes "A_b â\u{88}\u{88} { true exist(nce matches { 0 .. 1 } â\u{88}\u{88} { \"a b\" , \"a\" , \"b\" } n1 matches {\tPD matches { * } } }") 2 15
    ∷ refuses (bytes "P\rmatches{existence1\texistence\nmatches\n0..1}â\u{88}\u{88}{yyyy-mm-dd}n1â\u{88}\u{88}{Truâ\u{88}\u{88}{*existence1}}}") 2 39
    ∷ refuses (bytes "__0</.=\u{88}{\u{88}X*/{tt=\\\0/ }\r/\u{80}âZ=") 2 0
    ∷ refuses (bytes "Bâ\u{88}\u{88}wxistenc]1\nexistence\tmatches{1}â\u{88}\u{88}{\"ab\",\"ab1\",\"\"}}") 2 4
    ∷ refuses (bytes "< ,\r/1â}\\z?9\tt0}dtm..,") 2 0
    ∷ refuses (bytes "PdX matches{yyyy existence\nmatches{0}matches{|3694-09-24..<3694-09-27|}matcheâ\u{88}\u{88}{") 2 81
    ∷ refuses (bytes "Aâ\u{88}\u{88}{a\rexistenceâ\u{88}\u{88}{1..1}matches{|1999-02-21..1999-02-26|,|1999-02-21..1999-02-22|,|1999-02-24..1999-02-25|}}") 9 58
    ∷ refuses (bytes "ABC[at0000]matches{n9999999999999999999999999999999999999999999999999999999999999999\tmatches{False,True}}") 4 19
    ∷ refuses (bytes "A\tmatches{a\tmatches{A\tmatches{a\rmatches{A\tmatches{a\nmatches{Pd\rPd}}}}}}") 2 63
    ∷ refuses (bytes "Pdâ\u{88}\u{88}{a1\texistence\nmatches{0..0}matches{*}b\texistence\nmatches{0..1}matches{2138302010,|2138302010|}}") 9 86
    ∷ refuses (bytes "PdX matches{value\rexistenceâ\u{88}\u{88}{0..1}â\u{88}\u{88}{|1073741822+/-1073741825|}abc\nmatches{|00..00|}}") 5 79
    ∷ refuses (bytes "X\tThh:??:ss\tmatches{a_\tmatches{yyyy-mm-??}}") 2 2
    ∷ refuses (bytes "\0;\u{7f}mT\u{80}:\u{88}\\X\u{1f}:ttm\u{7f}T0A((\0w\u{1f}\"\"1*A1") 2 0
    ∷ refuses (bytes "Aâ\u{88}\u{88}{a\texistence\nmatches{-1\n1}matches{730204}}") 2 25
    ∷ refuses (bytes "FALSE\rmatches{ *}/->\u{2}TF¿>-Ô\n") 2 17
    ∷ refuses (bytes "ABCâ\u{88}\u{88}{value\nexiStence\rmatches{1..1}matches{AB matches{*}}}") 2 13
    ∷ refuses (bytes "\n\t") 2 2
    ∷ refuses (bytes "FALSE [at0001] matches { mm ") 2 28
    ∷ refuses (bytes "Pd{â\u{88}\u{88}{ab\nexistenceâ\u{88}\u{88}{1}matches{Pm}}") 2 2
    ∷ refuses (bytes "A â\u{88}\u{88} { a â\u{88}\u{88} { | 730172 .. < 730172 | } }") 6 37
    ∷ refuses (bytes "A\tmatches{a matches{A\tmatches{a matches{A matches{a\rmatches{PTh\nPd}}") 2 64
    ∷ refuses (bytes "PTs matches { a matches { PTs ;") 2 30
    ∷ refuses (bytes "A matches{a\tmatches{PT5m;") 2 24
    ∷ refuses (bytes "FAL]E\tmatches{a_\texisence matshes{1}matches{PmwTs}}") 2 3
    ∷ refuses (bytes "Z\t(+\0/A\n|\"ÿa\nÿ1]Z<\u{88}.Ad,A{.X[;\u{80}),;Zÿ/;(\u{1f};dPX:/\r") 2 2
    ∷ refuses (bytes "True1 matche") 2 6
    ∷ refuses (bytes "A matches { a existence matches { 2 .. 0 } matches { | > 3652420 .. 3652420 | , | > 2147483647 | } }") 2 34
    ∷ refuses (bytes "A\nmatches..{\t  * }") 2 9
    ∷ refuses (bytes "A matches { a matches { A matches { a matches { Pmd Pd } } } }") 2 52
    ∷ refuses (bytes " Thh matches{--*¼\nmm--ú\n=--\rmatches\r\r{--\rPw\r\n}aa\nexistence--\u{83}\rmatches{1--¨1\u{b}b\r..\n  1--{>\n}\n\nmatches {False \t}\r\r }") 2 24
    ∷ refuses (bytes "TRUE ") 2 5
    ∷ refuses (bytes "gc") 2 0
    ∷ refuses (bytes "A matches{a existence\rmatches{1}â\u{88}\u{88}{|>5..<8|,|>4..4|,|>4..<8|}}") 6 51
    ∷ refuses (bytes "matches{true existence\rmatches{â\u{88}\u{88}1..1}â\u{88}\u{88}{X\rmatches{existence1\nexistenceâ\u{88}\u{88}{1..1}matches{PTm}}}}") 2 0
    ∷ refuses (bytes "A\tmatches{a\nexistence\tmatches{1}matches{|>2147483647|}}") 6 52
    ∷ refuses (bytes "A matches{a\r \rmatches \t{   |0 +/---\u{1f} Ä\r-1 |,|\r4  ..\t\t\t<6|   , \t|< \r-2147483648--|Ä\n|,|\r4.. 6 |}}") 6 42
    ∷ refuses (bytes "A â\u{88}\u{88} { a matches { | 3652428 .. < 3652428 | , | 3652421 | , | 3652420 .. < 3652420 | } }") 6 43
    ∷ refuses (bytes "A\tmatches{a existence matches{1}matches{4,|11..12|,9,|3..<6|}}") 9 53
    ∷ refuses (bytes "A matches{a\texistence\nmatches{1..1}matches{|31..32|,|34..39|,18,|11..<14|,|15..16|,|>2..2|}}") 6 89
    ∷ refuses (bytes "A matches{a existence\rmatches{1}â\u{88}\u{88}{|<=-2147483647|,|-2147483649..-2147483644|,|-2147483649..-2147483647|,-2147483648}}") 5 53
    ∷ refuses (bytes "A matches { a matches { 3 , | 1 .. 6 | , | > 0 .. 0 | , | 1 .. 0 | } }") 9 28
    ∷ refuses (bytes "AB[at0000]â\u{88}\u{88}{aa\nexistence matches{0..1}matches{|<-2147483648|,|12+/-1|}matchesx\nexistence\tmatches{0..1}matches{") 6 61
    ∷ refuses (bytes "T\nmatches{value existence\tmatches{1..1}â\u{88}\u{88}{|708558498+/--1|,|708558533..708558535|}}") 6 58
    ∷ refuses (bytes "A\rmatches{a\tmatches{|9..<9|}") 6 26
    ∷ refuses (bytes "A matches { a matches { 4 , | 0 .. 0 | , 0 , | > 0 .. 0 | , | 3 .. < 9 | , 3 } matches }") 9 41
    ∷ refuses (bytes "--ö1z\rT________________________________________________________________ matches{\t\rabc\r\rmatches{\t \"0123456789\"}}") 4 6
    ∷ refuses (bytes "A matches{a\nmatches{|4..<6|,|2..7|,|2+/-1|,|2..1|}}}") 9 28
    ∷ refuses (bytes "A matches { a â\u{88}\u{88} { | 730175 .. 730174 | , >= 730177 .. 730176 | , | > 730170 .. 730176 | } }") 6 39
    ∷ refuses (bytes "PD [at00000000] â\u{88}\u{88} { yyyy â\u{88}\u{88} { PwdTs } true existence matches { 0 .. 1 } matches { False , False , False } }") 9 93
    ∷ refuses (bytes "A\nmatches{a\nexistence\rmatches{1..1}â\u{88}\u{88}{|>19..19|,20,48,|46|}}") 6 47
    ∷ refuses (bytes "A\tmatches{a\rexistence\rmatches{1..1}matches{|1999-02-24..<1999-02-24|,|1999-02-21..1999-02-22|}}") 6 67
    ∷ refuses (bytes "A--\u{6}e\u{a0}<| \rmatches \n\r{aâ\u{88}\u{88}\r {\n|730182 \n\r+/--1\n| }}") 6 45
    ∷ refuses (bytes "A\nmatches{a\nmatches{3652422,|3652419..3652418|,|3652422|,|3652422..<3652422|,3652418,|3652419..3652424|}}") 6 45
    ∷ refuses (bytes "A matches { matchesx existence â\u{88}\u{88} { 0 .. 1 } â\u{88}\u{88} { | 2001-02-29 .. 0000-02-29 | , | 0000-04-01 .. 0000-04") 5 54
    ∷ refuses (bytes "A\rmatches{a\nmatches{|-2147483649..<-2147483649|}}") 5 21
    ∷ refuses (bytes "Aâ\u{88}\u{88}{aâ\u{88}\u{88}{|5|,|1..1|,|-2147483649..007|,|>5..5|,|>2..5|,|5..<5|}}") 5 22
    ∷ refuses (bytes "A\rmatches{a matches{|20|,|41..<47|,|60..<62|,|3..2|,|62..<62|,|>53..55|}}") 6 50
    ∷ refuses (bytes "A\nmatches{a\rmatches{|2..<4|,007,|....<7|,|1\n1\t3|,|2..4|,|1..6|}}") 5 28
    ∷ refuses (bytes "A\rmatches{a\rexistence matches{1}matches{|0|,|2..<8|,|>3..<6|,|3..8|,|0..-1|}}") 9 52
    ∷ refuses (bytes "PymwdThms â\u{88}\u{88} { yyyy existence matches { 0 .. 0 } matches { | 2147483644 +/- 0 | , 2147483644 } }") 9 83
    ∷ refuses (bytes "A matches { a matches { | > 0000-02-20 .. 0000-02-20 | , | 0000-01-08 | } }") 6 53
    ∷ refuses (bytes "Aâ\u{88}\u{88}{a\rexistence\tmatches{1..1}matches{|>0000-02-27..<0000-03-01|,|0000-02-28..0000-02-27|}}") 6 88
    ∷ refuses (bytes "Aâ\u{88}\u{88}{a existence\tmatches{1..1}matches{|3..4|,|2..7|,|2|,|2147483600+/-48|,|5+/-1|}}") 9 45
    ∷ refuses (bytes "Taaaaaaaaaaaaaaaaaaaaaaaaaaaaaaaaaaaaaaaaaaaaaaaaaaaaaaaaaaaaaaaa [at00") 4 0
    ∷ refuses (bytes "A\tmatches{a\rmatches{0,|11+/-0|,|10..<10|}}") 6 39
    ∷ refuses (bytes "A matches { a existence â\u{88}\u{88} { 1 .. 1 } matches { | 9 .. 14 | , 11 , | 5 .. 6 | , | 11 .. 12 | , | > 8 .. 10 | } }") 9 63
    ∷ refuses (bytes "A\n\rmatches\n\n{a \rmatches--\u{15}}\n{| \t2147483636..2147483637 |,|2147483637..--\u{9b}õ2\u{11}T\n2147483639 \t|}}--ì\u{82}a\n") 9 57
    ∷ refuses (bytes "PdX\tmatches{abc\nexistenceâ\u{88}\u{88}{0..1}matches{|509743895..3652425|}matchesxâ\u{88}\u{88}{True,False}}") 6 61
    ∷ refuses (bytes "A\tmatches{a\rmatches{0,|>2..5|,|3..2|,|4..5|,|4+/-1|,|>1..7|}}") 6 35
    ∷ refuses (bytes "A\nmatches{aâ\u{88}\u{88}{|9999-12-32..9999-12-32|}}") 5 16
    ∷ refuses (bytes "Aâ\u{88}\u{88}{a\texistence\rmatches {1..1--;Ç*;\r}â\u{88}\u{88}{--<\u{1c}\u{8a}>\n|3652418\n\t..   <3652424 |\t,|> 3652421\r..\n<3652424|\t }\n\n}\r\n --Â±å") 9 76
    ∷ refuses (bytes "-- ¸a-\rA\rmatches{\r a--l¼aQ\nâ\u{88}\u{88}{\r 99999999999999999999 \t }  }") 5 33
    ∷ refuses (bytes "A\nmatches{a\nexistence\nmatches{1}â\u{88}\u{88}{|>9999-12-32..9999-12-32|,|9999-12-25..9999-12-26|}}") 5 38
    ∷ refuses (bytes "--gJ \nPTm\r\t matches---*-|Ôa1\r{mm\nmatches{yyyy-mm-XX\r\r}mm\tmatches{Z â\u{88}\u{88}\n\n{ \t*}\t}matchesx \n\rmatches{|Pw|}--·\r}  ") 9 54
    ∷ refuses (bytes "A\nmatches{a\nexistenceâ\u{88}\u{88}{1..1}matches{|13..12|,|9..<11|,|8..10|}}") 6 45
    ∷ refuses (bytes "A matches{a\tmatches{37,|>2147483647|,|51..52|,|60|}}") 6 35
    ∷ []

pub none_wrong : wrong right 0 cases ≡ []
unfolding wrong right cases object_list constraint_computes
none_wrong = refl
