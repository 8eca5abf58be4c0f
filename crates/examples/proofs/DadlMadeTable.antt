-- Short texts from a generator with a fixed seed. The expectations are the second implementation's.
-- This file is written by `example_tables write` of second/. Assumes nothing.
use mathlib.Core.Path.{◌≡◌, refl}
use Rattle.std.specs.Prelude.{None, Some}
use mathlib.Core.List.{List, [], ◌∷◌}
use Rattle.lexis.specs.Text.{bytes}
use Rattle.lexis.proofs.Tables.{wrong}
use Rattle.meaning.specs.Data.{datum, no_more, member, string, word, block}
use Rattle.meaning.proofs.Trees.{datum_list}
use Rattle.dadl.proofs.Computes.{data_computes}
use Rattle.dadl.proofs.Examples.{Case, accepts, refuses, right}

pub cases : List Case
cases =
    -- texts as the generator gives them, not too many with the same answer
    accepts (bytes "(Other)\t\t\n<\n  a_=<-P00m00W9999dT0H\t  >\nyyyy=<0>--Ô{5P\r>") (datum 10 (Some (bytes "Other")) (member (bytes "a_") (word 17 (bytes "-P00m00W9999dT0H")) (member (bytes "yyyy") (word 44 (bytes "0")) no_more)))
    ∷ accepts (bytes "<>") (datum 0 None no_more)
    ∷ accepts (bytes "(Pd)<matche=<P5y0w>>") (datum 4 (Some (bytes "Pd")) (member (bytes "matche") (word 12 (bytes "P5y0w")) no_more))
    ∷ accepts (bytes "<a_=<P5m>>") (datum 0 None (member (bytes "a_") (word 4 (bytes "P5m")) no_more))
    ∷ accepts (bytes "( True1 ) < a_ = < 4170-09-11 > a1 = ( C ) < > >") (datum 10 (Some (bytes "True1")) (member (bytes "a_") (word 17 (bytes "4170-09-11")) (member (bytes "a1") (block (datum 43 (Some (bytes "C")) no_more)) no_more)))
    ∷ accepts (bytes "<x9Z_ --\n=<\n-P12w5d>  >") (datum 0 None (member (bytes "x9Z_") (word 10 (bytes "-P12w5d")) no_more))
    ∷ accepts (bytes "(Other\n)<x9Z_=<   >existenc=\t \n<08Z ---%-\u{1f}\r>  a= <existence1=-->{>¬*R-\r<True\t>matche=<P00y>--*´\rc --a!| (>\n=<\r >>>") (datum 8 (Some (bytes "Other")) (member (bytes "x9Z_") (block (datum 14 None no_more)) (member (bytes "existenc") (word 31 (bytes "08Z")) (member (bytes "a") (block (datum 49 None (member (bytes "existence1") (word 71 (bytes "True")) (member (bytes "matche") (word 85 (bytes "P00y")) (member (bytes "c") (block (datum 108 None no_more)) no_more))))) no_more))))
    ∷ accepts (bytes "<yyyy=(FALSE)<true=<>>>") (datum 0 None (member (bytes "yyyy") (block (datum 13 (Some (bytes "FALSE")) (member (bytes "true") (block (datum 19 None no_more)) no_more))) no_more))
    ∷ accepts (bytes "<a=<12:30:15+00:00>>") (datum 0 None (member (bytes "a") (word 3 (bytes "12:30:15+00:00")) no_more))
    ∷ accepts (bytes "<a=<08-05>>") (datum 0 None (member (bytes "a") (word 3 (bytes "08-05")) no_more))
    ∷ accepts (bytes "(Other)<b=<-2147483647>at0001=<0>yyyy=<True>>") (datum 7 (Some (bytes "Other")) (member (bytes "b") (word 10 (bytes "-2147483647")) (member (bytes "at0001") (word 30 (bytes "0")) (member (bytes "yyyy") (word 38 (bytes "True")) no_more))))
    ∷ accepts (bytes "(Other)<aa=<\"~!#'()[]<>\">c=<>>") (datum 7 (Some (bytes "Other")) (member (bytes "aa") (string 11 (bytes "~!#'()[]<>")) (member (bytes "c") (block (datum 27 None no_more)) no_more)))
    ∷ accepts (bytes "(T)<matchesx=<>c=(Falsey)<existenc=<12+00>a1=<\"A\">matche=<7526-05>>b=<-P1d>>") (datum 3 (Some (bytes "T")) (member (bytes "matchesx") (block (datum 13 None no_more)) (member (bytes "c") (block (datum 25 (Some (bytes "Falsey")) (member (bytes "existenc") (word 35 (bytes "12+00")) (member (bytes "a1") (string 45 (bytes "A")) (member (bytes "matche") (word 57 (bytes "7526-05")) no_more))))) (member (bytes "b") (word 69 (bytes "-P1d")) no_more))))
    ∷ accepts (bytes "(TRUE)<matche=<0108-05>>") (datum 6 (Some (bytes "TRUE")) (member (bytes "matche") (word 14 (bytes "0108-05")) no_more))
    ∷ refuses (bytes "< <") 2 2
    ∷ accepts (bytes "<ab=<False>a=<\"ab\">mm=<24089571>>") (datum 0 None (member (bytes "ab") (word 4 (bytes "False")) (member (bytes "a") (string 13 (bytes "ab")) (member (bytes "mm") (word 22 (bytes "24089571")) no_more))))
    ∷ accepts (bytes "(Thh)<aa=<\"--\">>") (datum 5 (Some (bytes "Thh")) (member (bytes "aa") (string 9 (bytes "--")) no_more))
    ∷ accepts (bytes "( A1 ) < ab = < 08:30-12 > b = ( XX ) < > existenc = ( Thh ) < > >") (datum 7 (Some (bytes "A1")) (member (bytes "ab") (word 14 (bytes "08:30-12")) (member (bytes "b") (block (datum 38 (Some (bytes "XX")) no_more)) (member (bytes "existenc") (block (datum 61 (Some (bytes "Thh")) no_more)) no_more))))
    ∷ accepts (bytes "<a=<-P5y040m0005dT040h1M0005s>>") (datum 0 None (member (bytes "a") (word 3 (bytes "-P5y040m0005dT040h1M0005s")) no_more))
    ∷ accepts (bytes "( PymwdThms ) < x9Z_ = < -10 > at0001 = < -2147483647 > b = < \" \" > >") (datum 14 (Some (bytes "PymwdThms")) (member (bytes "x9Z_") (word 23 (bytes "-10")) (member (bytes "at0001") (word 40 (bytes "-2147483647")) (member (bytes "b") (string 60 (bytes " ")) no_more))))
    ∷ accepts (bytes "( PTm ) < true = < 5787-05-09 > a1 = < 0000-12 > >") (datum 8 (Some (bytes "PTm")) (member (bytes "true") (word 17 (bytes "5787-05-09")) (member (bytes "a1") (word 37 (bytes "0000-12")) no_more)))
    ∷ accepts (bytes "(C)<matche=<23:30+00>>") (datum 3 (Some (bytes "C")) (member (bytes "matche") (word 11 (bytes "23:30+00")) no_more))
    ∷ accepts (bytes "<at0001=<\"{|},*\">>") (datum 0 None (member (bytes "at0001") (string 8 (bytes "{|},*")) no_more))
    ∷ accepts (bytes "<a=<2147483647>>") (datum 0 None (member (bytes "a") (word 3 (bytes "2147483647")) no_more))
    ∷ accepts (bytes "\r( \rPdX) \r\n<--\rmatche=<08+00:00 --}\n>c --5|{{\n=<\t  P0005D>\r>\t ") (datum 11 (Some (bytes "PdX")) (member (bytes "matche") (word 22 (bytes "08+00:00")) (member (bytes "c") (word 47 (bytes "P0005D")) no_more)))
    ∷ refuses (bytes "( Pd ) < yyyy = ( PTm ) < matchesx = < a = < > > > yyyy = < \"<>\" > >") 9 51
    ∷ accepts (bytes "(Pwd)<abc=<a=<08Z>b=<2004-12-31>>c=<\"\">ab=(ABC)<>>") (datum 5 (Some (bytes "Pwd")) (member (bytes "abc") (block (datum 10 None (member (bytes "a") (word 13 (bytes "08Z")) (member (bytes "b") (word 20 (bytes "2004-12-31")) no_more)))) (member (bytes "c") (string 35 []) (member (bytes "ab") (block (datum 47 (Some (bytes "ABC")) no_more)) no_more))))
    ∷ accepts (bytes "<at0001=<>>") (datum 0 None (member (bytes "at0001") (block (datum 8 None no_more)) no_more))
    ∷ accepts (bytes "(X)<x9Z_=<-1229205568>true=<4702-05-28>>") (datum 3 (Some (bytes "X")) (member (bytes "x9Z_") (word 9 (bytes "-1229205568")) (member (bytes "true") (word 27 (bytes "4702-05-28")) no_more)))
    ∷ accepts (bytes "< matchesx = < True > x9Z_ = < 0000-04-01 > >") (datum 0 None (member (bytes "matchesx") (word 13 (bytes "True")) (member (bytes "x9Z_") (word 29 (bytes "0000-04-01")) no_more)))
    ∷ accepts (bytes "< existence1 = < > aC = < 2004-12-31 > >") (datum 0 None (member (bytes "existence1") (block (datum 15 None no_more)) (member (bytes "aC") (word 24 (bytes "2004-12-31")) no_more)))
    ∷ accepts (bytes "<c=<0654-12-23>mm=<5744-10-24>true=<True>>") (datum 0 None (member (bytes "c") (word 3 (bytes "0654-12-23")) (member (bytes "mm") (word 18 (bytes "5744-10-24")) (member (bytes "true") (word 35 (bytes "True")) no_more))))
    ∷ accepts (bytes "(True1)<existenc=<\"ab\">>") (datum 7 (Some (bytes "True1")) (member (bytes "existenc") (string 17 (bytes "ab")) no_more))
    ∷ refuses (bytes "<mm=<08>c=<\"<>\">yyyy=(PT)<aa=P040M>>true=<>>") 2 29
    ∷ accepts (bytes "(  Other   )<\t> --Ì|rµ¿") (datum 12 (Some (bytes "Other")) no_more)
    ∷ accepts (bytes "<aa=<>matche=<23:59:59>>") (datum 0 None (member (bytes "aa") (block (datum 4 None no_more)) (member (bytes "matche") (word 13 (bytes "23:59:59")) no_more)))
    ∷ accepts (bytes "<>\r\t") (datum 0 None no_more)
    ∷ accepts (bytes "<a=<5>>") (datum 0 None (member (bytes "a") (word 3 (bytes "5")) no_more))
    ∷ accepts (bytes "( C_C ) < >") (datum 8 (Some (bytes "C_C")) no_more)
    ∷ accepts (bytes "\n \t<--|ä1\rtrue\r  =(Pd\t)<> \r>") (datum 3 None (member (bytes "true") (block (datum 23 (Some (bytes "Pd")) no_more)) no_more))
    ∷ accepts (bytes "<value=<-2147483648>ab=(Other)<>>") (datum 0 None (member (bytes "value") (word 7 (bytes "-2147483648")) (member (bytes "ab") (block (datum 30 (Some (bytes "Other")) no_more)) no_more)))
    ∷ refuses (bytes "(>") 2 1
    ∷ refuses (bytes "<a=<2004-5>>") 5 4
    ∷ accepts (bytes "(TRUE)  <true\t \n= \r\t(X)\t <>  \ra1=<1002>existence1=(Falsey --(\r) \t\t<>matche=< 08Z \n>\t>") (datum 8 (Some (bytes "TRUE")) (member (bytes "true") (block (datum 25 (Some (bytes "X")) no_more)) (member (bytes "a1") (word 33 (bytes "1002")) (member (bytes "existence1") (block (datum 66 (Some (bytes "Falsey")) no_more)) (member (bytes "matche") (word 75 (bytes "08Z")) no_more)))))
    ∷ accepts (bytes "<b=< \n>>--vª vëa\n") (datum 0 None (member (bytes "b") (block (datum 3 None no_more)) no_more))
    ∷ accepts (bytes "(Other)<existenc=<>existence1=<>>") (datum 7 (Some (bytes "Other")) (member (bytes "existenc") (block (datum 17 None no_more)) (member (bytes "existence1") (block (datum 30 None no_more)) no_more)))
    ∷ accepts (bytes "< a_ = < P0y040m00w12dT0005M > >") (datum 0 None (member (bytes "a_") (word 7 (bytes "P0y040m00w12dT0005M")) no_more))
    ∷ refuses (bytes "< existence = < False > >") 2 2
    ∷ accepts (bytes "(AB)<>") (datum 4 (Some (bytes "AB")) no_more)
    ∷ accepts (bytes "<a=<PT5m>>") (datum 0 None (member (bytes "a") (word 3 (bytes "PT5m")) no_more))
    ∷ accepts (bytes "< c = ( FALSE ) < a = < \" \" > > existence1 = < -2147483647 > value = < \"A\" > >") (datum 0 None (member (bytes "c") (block (datum 16 (Some (bytes "FALSE")) (member (bytes "a") (string 22 (bytes " ")) no_more))) (member (bytes "existence1") (word 45 (bytes "-2147483647")) (member (bytes "value") (string 69 (bytes "A")) no_more))))
    ∷ refuses (bytes "<a_=<-0>b=<P040m>>") 5 5
    ∷ accepts (bytes "(--}\u{1c}\rCA)\t  <--- >r<Î1\n> --*1{¦") (datum 12 (Some (bytes "CA")) no_more)
    ∷ accepts (bytes "<matche=<\"0123456789\">aa=<P0005d>existence1=<\"ab\">>") (datum 0 None (member (bytes "matche") (string 8 (bytes "0123456789")) (member (bytes "aa") (word 25 (bytes "P0005d")) (member (bytes "existence1") (string 44 (bytes "ab")) no_more))))
    ∷ accepts (bytes "<aa=\r<0064>>") (datum 0 None (member (bytes "aa") (word 5 (bytes "0064")) no_more))
    ∷ refuses (bytes "<a=<08:30:60>>") 5 4
    ∷ accepts (bytes "(Other)<aa=<PT0M>ab=(ABC)<a=<a=<\"\">b=<08+01>>b=<a=<2147483647>b=<12:00:00+05:30>>>matchesx=<3965>>") (datum 7 (Some (bytes "Other")) (member (bytes "aa") (word 11 (bytes "PT0M")) (member (bytes "ab") (block (datum 25 (Some (bytes "ABC")) (member (bytes "a") (block (datum 28 None (member (bytes "a") (string 31 []) (member (bytes "b") (word 37 (bytes "08+01")) no_more)))) (member (bytes "b") (block (datum 47 None (member (bytes "a") (word 50 (bytes "2147483647")) (member (bytes "b") (word 64 (bytes "12:00:00+05:30")) no_more)))) no_more)))) (member (bytes "matchesx") (word 91 (bytes "3965")) no_more))))
    ∷ accepts (bytes "<aa\r--x\n=(Falsey)<>value=<1916910938>mm=<\"ab\">>") (datum 0 None (member (bytes "aa") (block (datum 17 (Some (bytes "Falsey")) no_more)) (member (bytes "value") (word 25 (bytes "1916910938")) (member (bytes "mm") (string 40 (bytes "ab")) no_more))))
    ∷ accepts (bytes "< matche = < P1y1m00WT5H0m12s > >") (datum 0 None (member (bytes "matche") (word 11 (bytes "P1y1m00WT5H0m12s")) no_more))
    ∷ accepts (bytes "<matche \n =<--qT¸- -<\nmatche=<\n 2004>mm=<b --Î\"-\r=\n< >>existenc=\n\n <   >>  \r>\r\r ---\u{95}ï*ç*") (datum 0 None (member (bytes "matche") (block (datum 11 None (member (bytes "matche") (word 29 (bytes "2004")) (member (bytes "mm") (block (datum 40 None (member (bytes "b") (block (datum 51 None no_more)) no_more))) (member (bytes "existenc") (block (datum 67 None no_more)) no_more))))) no_more))
    ∷ accepts (bytes "( Other ) < aa = < 2941-09-09 > yyyy = < 9999-12-31 > matche = < True > >") (datum 10 (Some (bytes "Other")) (member (bytes "aa") (word 17 (bytes "2941-09-09")) (member (bytes "yyyy") (word 39 (bytes "9999-12-31")) (member (bytes "matche") (word 63 (bytes "True")) no_more))))
    ∷ accepts (bytes "(Ca)<>") (datum 4 (Some (bytes "Ca")) no_more)
    ∷ accepts (bytes "< existence1 = < P0005d > x9Z_ = < > c = < \" \" > b = < 3073-09-10 > n1 = < 8992-08-16 > >") (datum 0 None (member (bytes "existence1") (word 15 (bytes "P0005d")) (member (bytes "x9Z_") (block (datum 33 None no_more)) (member (bytes "c") (string 41 (bytes " ")) (member (bytes "b") (word 53 (bytes "3073-09-10")) (member (bytes "n1") (word 73 (bytes "8992-08-16")) no_more))))))
    ∷ accepts (bytes "(L)<>") (datum 3 (Some (bytes "L")) no_more)
    ∷ accepts (bytes "(--þÃcAia\nOther)\t  <\t  >-->ø%<\n") (datum 19 (Some (bytes "Other")) no_more)
    ∷ accepts (bytes "\r< \tabc=<--\rmatchesx --a{\" >\n=\n\n<>--\u{84}-\u{11}@ô\r>yyyy --\n=<>value --\u{86}}-*@x\n=--{*Yì\n<--Ô*\r1812444772>\r>") (datum 1 None (member (bytes "abc") (block (datum 8 None (member (bytes "matchesx") (block (datum 32 None no_more)) no_more))) (member (bytes "yyyy") (block (datum 52 None no_more)) (member (bytes "value") (word 77 (bytes "1812444772")) no_more))))
    ∷ accepts (bytes " (A_b) <existenc=<\n 2147483647>existence1\t\n\t=  <PT5M3S\n\n> >") (datum 7 (Some (bytes "A_b")) (member (bytes "existenc") (word 17 (bytes "2147483647")) (member (bytes "existence1") (word 47 (bytes "PT5M3S")) no_more)))
    ∷ accepts (bytes "( P ) < value = < False > >") (datum 6 (Some (bytes "P")) (member (bytes "value") (word 16 (bytes "False")) no_more))
    ∷ refuses (bytes "(A1<>") 2 3
    ∷ refuses (bytes "<_a=<1026593969>a1=<08:30:>a=<999>>") 2 1
    ∷ refuses (bytes "( AB existence < >") 2 5
    ∷ refuses (bytes "(Ba\u{b}\r)<--7}|¨ y\r") 2 3
    ∷ refuses (bytes "< at0001 = < \"\" = < 08 > existenc = < -820390346 > mm = < > value = < \"\" > > existence1 = < -10 > >") 2 16
    ∷ refuses (bytes "<mm=<False>mm=<24>x9Z_=<12:59+13>c=<P00y>>") 9 11
    ∷ refuses (bytes "<a=<08:30:>>") 5 4
    ∷ refuses (bytes "\t(\t\nTRUE)<\n a=\n <><>") 2 18
    ∷ refuses (bytes "(TRUE)<(>") 2 7
    ∷ refuses (bytes "= ( Tru ) < true = < 2005-01 > existenc = < False > > >") 2 0
    ∷ refuses (bytes "( Other ) < n2 = < -PT0005h1M > existence = ( A1 ) < matchesx = < 2004-01 > > >") 2 32
    ∷ refuses (bytes "bbbbbbbbbbbbbbbbbbbbbbbbbbbbbbbbbbbbbbbbbbbbbbbbbbbbbbb=(A1)<a_=<\"{|},*\">>matchesx=<True>>x9Z_=<a=(True1)<>>>") 2 0
    ∷ refuses (bytes "1=<49>abc=<\"ab\">>") 2 0
    ∷ refuses (bytes "<¬\"=<8353-11>>\u{96}") 2 1
    ∷ refuses (bytes "(B)<existenc --\u{10}\r=B<\n0000-12>>") 2 18
    ∷ refuses (bytes "(P)<yyyy=<00-12>c=\u{80}<value=(Thh)<>abc=(A1)<a=<\"ab\">b=<-P5d>>>>") 2 18
    ∷ refuses (bytes "(XX a_)<x9Z_=(X)<abc=<a_=<>>>>") 2 4
    ∷ refuses (bytes "Tru()<>") 2 0
    ∷ refuses (bytes "( PymwdThms ) < a_ = < 6605-09-08 \0 >") 2 34
    ∷ refuses (bytes "(C>") 2 2
    ∷ refuses (bytes "<a=<\"ab\">mm=<PT1d>>") 5 13
    ∷ refuses (bytes "<value=<5810-01-11>existence1=<true=<-2147483647>matche=(Py") 2 59
    ∷ refuses (bytes "< a1 < = -3 > at0001 = < True > >") 2 5
    ∷ refuses (bytes "\n(T\r\n\r)\n<--ü--ÌG- \nvalue=<\"\"> \ttrue\n\r=<-2147483648>\r\n >>  ") 2 55
    ∷ refuses (bytes "<a=<08:30+14:00>>") 5 4
    ∷ refuses (bytes "<<>") 2 1
    ∷ refuses (bytes "(--R\u{9e}\u{10}a\rZ)\t<x9Z_ --\0y\r=\n\r<yyyy=<aa=<true=<>>>>>>>>>>>>>>>>>") 2 47
    ∷ refuses (bytes "=<value=<>aA=<>>") 2 0
    ∷ refuses (bytes "< aa = < \"\" > ") 2 14
    ∷ refuses (bytes "( ELEMENT ) < aa = < 00:00:15-12 > > >") 2 37
    ∷ refuses (bytes "<5") 2 1
    ∷ refuses (bytes "--|\r<--|\"\nexistence1=<\n \"a\">existence=<P5M>--Ð 7\r>") 2 28
    ∷ refuses (bytes "(Pwd)<value==<\"\">>") 2 12
    ∷ refuses (bytes "(FALSE<)<x9Z_=<12+00>>") 2 6
    ∷ refuses (bytes "ÿ|XA\"m?tZ\\/w+\rZ+Pÿÿÿzz\t:A") 2 0
    ∷ refuses (bytes "PTm()<a_=<3694-08-30>aa=(ABC)<>>") 2 0
    ∷ refuses (bytes "<at0001=<>matche=(Z)<>a=()<>>") 2 25
    ∷ refuses (bytes "<a=<2147483648>>") 5 4
    ∷ refuses (bytes "Ð)¢Á\u{93}`ëó\u{17}ÙÛ; \0©Èl\u{2}Xý\u{81}k\u{93}ètåf\u{b}Õ¹\u{16}\u{99}\u{8a}Ú\u{99}PÈI\u{98}\u{90}ý·\u{87}\0X»Ñ©¬±U\u{86}\u{16}ô") 2 0
    ∷ refuses (bytes "<a=<1900-02-29>>") 5 4
    ∷ refuses (bytes "(AB)>") 2 4
    ∷ refuses (bytes "9\0â(ÿ.|<â,<\r=_d=") 2 0
    ∷ refuses (bytes "<ab=<Fals>yyyy=<999-;12-31>>") 5 5
    ∷ refuses (bytes "<---}1<t\"\nmatchesx=< \rP12345y>yyyy=--{\u{8}\n< 00:00:00-12  >> \t --G[¯") 5 22
    ∷ refuses (bytes "<a=<08-00:00>>") 5 4
    ∷ refuses (bytes "( PymwdThms ) < b = < Tru > matchesx = < 23 > value = < 7223 > >") 5 22
    ∷ refuses (bytes "<a=<08:30:15:00>>") 5 4
    ∷ refuses (bytes "< nbbbbbbbbbbbbbbbbbbbbbbbbbbbbbbbbbbbbbbbbbbbbbbbbbbbbbbbbbbbbbb = < - > c = < > n3 = < 2147483644 > >") 5 70
    ∷ refuses (bytes "( XX ) < matchesx = < > matchesx = < -P9999y9999m9999w9999dT9999h9999m9999s > >") 9 24
    ∷ refuses (bytes "( C ) < b = < 2278-09-18 > x9Z_ = < Pd > n2 = < False > yyyy = < -2147483632 > >") 5 36
    ∷ refuses (bytes "<a=<-01>>") 5 4
    ∷ refuses (bytes "(A)<c=<67540m5w12DT5S>>") 5 7
    ∷ refuses (bytes "<a=<08:30+14>>") 5 4
    ∷ refuses (bytes "<a1=<-P00w9999dT00M040s>a1=<>>") 9 24
    ∷ refuses (bytes "< value = < PT5\u{c}m > >") 5 12
    ∷ refuses (bytes "(ELEMENT)<a1=<00:00:59+·3:5¹>mm=(X)<>a_=<P9999m>>") 5 14
    ∷ refuses (bytes "<true=<Pd>>") 5 7
    ∷ refuses (bytes "<existence1=<>existence1=<0>matchesx=<1066591799>at0001=<08:30:59-01>mm=<-2147483648>>") 9 14
    ∷ refuses (bytes "<x9Z_=<ab=<False>a=<0248-04-22>>x9Z_=<08:30-12>>") 9 32
    ∷ refuses (bytes "<a=<P5>>") 5 4
    ∷ refuses (bytes "<a=<TRUE>>") 5 4
    ∷ refuses (bytes "<a=<8:30>>") 5 4
    ∷ refuses (bytes "< abc = < 2147483607 > b = < _ 00:59:59+00 > >") 5 29
    ∷ refuses (bytes "< c = < True > c = < a = < \"ab\" > > >") 9 15
    ∷ refuses (bytes "<existenc=(Thh)<a_=(\r AB\r\n\n)--\u{10}>\u{84}}|\r<>mm=\n< 1418796875  >\r\r\r>existenc\t=<-10>>\n\t\n") 9 61
    ∷ refuses (bytes "< a_ = ( PD ) < yyyy = < -P9999w > yyyy = < > > mm = ( True1 ) < > >") 9 35
    ∷ refuses (bytes "(True1)<a=<>c=<6481>ab=<-2147483643>a>") 9 36
    ∷ refuses (bytes "(Tru)<matche=<>x9Z_=(FALSE)<a=<2147483644>a=<>>mm=<-2147483618>>") 9 42
    ∷ refuses (bytes "(XX)<matchesx=<\"a b\">matchesx=<00>>") 9 21
    ∷ refuses (bytes "( AB ) < matchesx = < b = < > > matchesx = < 0000-01-01 > c = ( Z ) < > value = < 08Z > yyyy = < 3718-02 > >") 9 32
    ∷ refuses (bytes "\t  (  \nTRUE)--\r<c= \t<PT5H\n>existence1\r=<99 >true=<\"0123456789\">aa=<b=<\"~!#'()[]<>\" \n>>c -- )\r=(XX\t\t) \t<>>") 9 86
    ∷ refuses (bytes "<b=(Z)<matchesx=<existenc=<True>>>x9Z_=<aa=<2003-01-02>aa=<-1>>>") 9 55
    ∷ refuses (bytes " <a\t \n=<  -P1w\n\t >a=\t\n\t( A_b\r)<--> a|\ra\n =--\"Î|-\n<\"b\">b=(PTm) <--<\ra \t=<a=<\"<>\"\t >\t>--a\rb=\n\t<08Z>\t\t>\n\t>\r \r>   ") 9 18
    ∷ refuses (bytes "<at0001=<mm=<b=<a=(AB)<existence1=(XX)<ab=<a_=<true=<c=<aa=<mm=<mm=<c=<matchesx=<true=<b=<>>>>>>>>>>>>>>>>>") 3 89
    ∷ refuses (bytes "<at0001=<\"a b\">at0001=(Falsey)<a=<>>>") 9 15
    ∷ refuses (bytes "(PdX)<c=<true=<mm=<yyyy=<x9Z_=(C)<aa=<yyyy=<aa=<c=(A)<ab=<matchesx=<existenc=<at0001=<aa=<c=<a=<mm=<>>>>>>>>>>>>>>>>>>") 3 95
    ∷ refuses (bytes "( T ) < a1 = < > a1 = < 1 > c = < 451911351 > >") 9 17
    ∷ refuses (bytes " <\n\taa=<\t\"a\" >\rmm\t=<\"a\"> \n\rab=<a=--ª>Eüa|Ó\r<2004>>\naa\r=<\n \n08+01>> -->1Ñ*Ê$") 9 51
    ∷ refuses (bytes "<\na_=--\u{9a}><{  í\r<-2080243275 \t >a_=--A\u{a0}\r<\r> >") 9 31
    ∷ refuses (bytes "( AA ) < bB_ = < PT040S > bB_ = < > >") 9 26
    ∷ refuses (bytes "< \nnnnnnnnnnnnnnnnnnnnnnnnnnnnnnnnnnnnnnnnnnnnnnnnnnnnnnnnnnnnnnnnn \r =\r<\"--\"--;0\n>existenc= <True> \n\n>--dª<ÂO1\r") 4 3
    ∷ refuses (bytes "< true = < nnnnnnnnnnnnnnnnnnnnnnnnnnnnnnnnnnnnnnnnnnnnnnnnnnnnnnnnnnnnnnnnn = < 2004-01 > > abc = < 204356021 > >") 4 11
    ∷ []

pub none_wrong : wrong right 0 cases ≡ []
unfolding wrong right cases datum_list data_computes
none_wrong = refl
