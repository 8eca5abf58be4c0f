-- Runs of bytes that are the same as another or stand in a list, and others; strings and codes with their bytes. The expectations are the second implementation's.
-- This file is written by `example_tables write` of second/. Assumes nothing.
use mathlib.Core.Path.{◌≡◌, refl}
use mathlib.Core.Bool.{true, false}
use mathlib.Core.List.{List, [], ◌∷◌}
use Rattle.lexis.specs.Text.{bytes}
use Rattle.lexis.proofs.Tables.{wrong}
use Rattle.lexis.proofs.Computes.{lexis_computes}
use Rattle.lexis.proofs.Examples.{RunCase, same_is, listed_is, parts_are, run_right}

pub cases : List RunCase
cases =
    -- two runs: one that begins like another is another
    same_is [] [] true
    ∷ same_is [] (bytes "a") false
    ∷ same_is [] (bytes "b") false
    ∷ same_is [] (bytes "ab") false
    ∷ same_is [] (bytes "abc") false
    ∷ same_is [] (bytes "aB") false
    ∷ same_is [] (bytes "ba") false
    ∷ same_is (bytes "a") [] false
    ∷ same_is (bytes "a") (bytes "a") true
    ∷ same_is (bytes "a") (bytes "b") false
    ∷ same_is (bytes "a") (bytes "ab") false
    ∷ same_is (bytes "a") (bytes "abc") false
    ∷ same_is (bytes "a") (bytes "aB") false
    ∷ same_is (bytes "a") (bytes "ba") false
    ∷ same_is (bytes "b") [] false
    ∷ same_is (bytes "b") (bytes "a") false
    ∷ same_is (bytes "b") (bytes "b") true
    ∷ same_is (bytes "b") (bytes "ab") false
    ∷ same_is (bytes "b") (bytes "abc") false
    ∷ same_is (bytes "b") (bytes "aB") false
    ∷ same_is (bytes "b") (bytes "ba") false
    ∷ same_is (bytes "ab") [] false
    ∷ same_is (bytes "ab") (bytes "a") false
    ∷ same_is (bytes "ab") (bytes "b") false
    ∷ same_is (bytes "ab") (bytes "ab") true
    ∷ same_is (bytes "ab") (bytes "abc") false
    ∷ same_is (bytes "ab") (bytes "aB") false
    ∷ same_is (bytes "ab") (bytes "ba") false
    ∷ same_is (bytes "abc") [] false
    ∷ same_is (bytes "abc") (bytes "a") false
    ∷ same_is (bytes "abc") (bytes "b") false
    ∷ same_is (bytes "abc") (bytes "ab") false
    ∷ same_is (bytes "abc") (bytes "abc") true
    ∷ same_is (bytes "abc") (bytes "aB") false
    ∷ same_is (bytes "abc") (bytes "ba") false
    ∷ same_is (bytes "aB") [] false
    ∷ same_is (bytes "aB") (bytes "a") false
    ∷ same_is (bytes "aB") (bytes "b") false
    ∷ same_is (bytes "aB") (bytes "ab") false
    ∷ same_is (bytes "aB") (bytes "abc") false
    ∷ same_is (bytes "aB") (bytes "aB") true
    ∷ same_is (bytes "aB") (bytes "ba") false
    ∷ same_is (bytes "ba") [] false
    ∷ same_is (bytes "ba") (bytes "a") false
    ∷ same_is (bytes "ba") (bytes "b") false
    ∷ same_is (bytes "ba") (bytes "ab") false
    ∷ same_is (bytes "ba") (bytes "abc") false
    ∷ same_is (bytes "ba") (bytes "aB") false
    ∷ same_is (bytes "ba") (bytes "ba") true
    -- a run and a list
    ∷ listed_is [] [] false
    ∷ listed_is [] ((bytes "a") ∷ []) false
    ∷ listed_is [] ((bytes "ab") ∷ []) false
    ∷ listed_is [] ((bytes "b") ∷ (bytes "a") ∷ []) false
    ∷ listed_is [] ((bytes "abc") ∷ (bytes "ab") ∷ (bytes "b") ∷ []) false
    ∷ listed_is [] ([] ∷ (bytes "aB") ∷ []) true
    ∷ listed_is (bytes "a") [] false
    ∷ listed_is (bytes "a") ((bytes "a") ∷ []) true
    ∷ listed_is (bytes "a") ((bytes "ab") ∷ []) false
    ∷ listed_is (bytes "a") ((bytes "b") ∷ (bytes "a") ∷ []) true
    ∷ listed_is (bytes "a") ((bytes "abc") ∷ (bytes "ab") ∷ (bytes "b") ∷ []) false
    ∷ listed_is (bytes "a") ([] ∷ (bytes "aB") ∷ []) false
    ∷ listed_is (bytes "b") [] false
    ∷ listed_is (bytes "b") ((bytes "a") ∷ []) false
    ∷ listed_is (bytes "b") ((bytes "ab") ∷ []) false
    ∷ listed_is (bytes "b") ((bytes "b") ∷ (bytes "a") ∷ []) true
    ∷ listed_is (bytes "b") ((bytes "abc") ∷ (bytes "ab") ∷ (bytes "b") ∷ []) true
    ∷ listed_is (bytes "b") ([] ∷ (bytes "aB") ∷ []) false
    ∷ listed_is (bytes "ab") [] false
    ∷ listed_is (bytes "ab") ((bytes "a") ∷ []) false
    ∷ listed_is (bytes "ab") ((bytes "ab") ∷ []) true
    ∷ listed_is (bytes "ab") ((bytes "b") ∷ (bytes "a") ∷ []) false
    ∷ listed_is (bytes "ab") ((bytes "abc") ∷ (bytes "ab") ∷ (bytes "b") ∷ []) true
    ∷ listed_is (bytes "ab") ([] ∷ (bytes "aB") ∷ []) false
    ∷ listed_is (bytes "abc") [] false
    ∷ listed_is (bytes "abc") ((bytes "a") ∷ []) false
    ∷ listed_is (bytes "abc") ((bytes "ab") ∷ []) false
    ∷ listed_is (bytes "abc") ((bytes "b") ∷ (bytes "a") ∷ []) false
    ∷ listed_is (bytes "abc") ((bytes "abc") ∷ (bytes "ab") ∷ (bytes "b") ∷ []) true
    ∷ listed_is (bytes "abc") ([] ∷ (bytes "aB") ∷ []) false
    ∷ listed_is (bytes "aB") [] false
    ∷ listed_is (bytes "aB") ((bytes "a") ∷ []) false
    ∷ listed_is (bytes "aB") ((bytes "ab") ∷ []) false
    ∷ listed_is (bytes "aB") ((bytes "b") ∷ (bytes "a") ∷ []) false
    ∷ listed_is (bytes "aB") ((bytes "abc") ∷ (bytes "ab") ∷ (bytes "b") ∷ []) false
    ∷ listed_is (bytes "aB") ([] ∷ (bytes "aB") ∷ []) true
    ∷ listed_is (bytes "ba") [] false
    ∷ listed_is (bytes "ba") ((bytes "a") ∷ []) false
    ∷ listed_is (bytes "ba") ((bytes "ab") ∷ []) false
    ∷ listed_is (bytes "ba") ((bytes "b") ∷ (bytes "a") ∷ []) false
    ∷ listed_is (bytes "ba") ((bytes "abc") ∷ (bytes "ab") ∷ (bytes "b") ∷ []) false
    ∷ listed_is (bytes "ba") ([] ∷ (bytes "aB") ∷ []) false
    -- the bytes of a string or a code, and those between its first and its last
    ∷ parts_are (bytes "\"\"") (bytes "\"\"") []
    ∷ parts_are (bytes "\"a\"") (bytes "\"a\"") (bytes "a")
    ∷ parts_are (bytes " \"abc\" x") (bytes "\"abc\"") (bytes "abc")
    ∷ parts_are (bytes "[at1]") (bytes "[at1]") (bytes "at1")
    ∷ parts_are (bytes "--\n[at1.23]]") (bytes "[at1.23]") (bytes "at1.23")
    ∷ parts_are (bytes "\"ab\"\"cd\"") (bytes "\"ab\"") (bytes "ab")
    ∷ []

pub none_wrong : wrong run_right 0 cases ≡ []
unfolding wrong run_right cases lexis_computes
none_wrong = refl
