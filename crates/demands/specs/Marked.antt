-- M1 to M12: document 01, 'Both sides of the edge', the examples marked M, as one table. Each row is computed by the definitions themselves: a constraint text is compiled into a
-- table, and a data text is judged by that table at record 1; or two tables are merged. Assumes nothing.
use Rattle.std.specs.Prelude.{◌≡◌, Bool, true, false, List, [], ◌∷◌, ◌++◌, ℕ, take, replicate}
use Prim.Native.String.{String}
use Rattle.lexis.specs.Text.{bytes}
use Rattle.refusals.specs.Refusals.{number_of}
use Rattle.refusals.specs.Outcomes.{Outcome, refused, gave}
use Rattle.refusals.specs.declared.Refusal.{Refusal}
use Rattle.meaning.specs.Verdicts.{Verdict}
use Rattle.meaning.specs.Verdicts
use Rattle.table.specs.Records.{image_of, field}
use Rattle.table.specs.Names.{record_at}
use Rattle.table_merge.specs.Merge.{request, MergeReport, MergeRefusal, merge_answer}
use Rattle.compile.specs.Compile.{compile_answer}
use Rattle.judge.specs.Judge.{judge_answer}

-- a leaf in a small constraint text, and a word in a small data text
abbrev pub under : String → List ℕ
under leaf = bytes "A matches {a matches {" ++ bytes leaf ++ bytes "}}"

abbrev pub form : String → List ℕ
form word = bytes "<a=<" ++ bytes word ++ bytes ">>"

-- what is found: the constraint text, the data text or the merge is refused with a number; it is judged; a pool place
pub data Found : Type 0 where
  text_refused data_refused merge_refused : (number : ℕ) → Found
  valid : Found
  fails : (reason : ℕ) → Found
  pool_place : ℕ → Found

abbrev pub judged : Verdict → Found
judged Verdicts.valid = valid
judged (Verdicts.fails reason number place) = fails reason

abbrev pub judged_by : Outcome Refusal Verdict → Found
judged_by (refused r) = data_refused (number_of r.cause)
judged_by (gave v) = judged v

abbrev pub room : List ℕ
room = replicate 200 255

-- judged by the table of the text, lent alone, or the text's own refusal
abbrev pub after_compile : List ℕ → Outcome Refusal ℕ → List ℕ → Found
after_compile out (refused r) text = text_refused (number_of r.cause)
after_compile out (gave size) text = judged_by (judge_answer (take size out) 1 text)

abbrev pub answer_to : String → String → Found
answer_to leaf word = let c = compile_answer (under leaf) false room in after_compile c.out c.answer (form word)

-- the table of a text, lent alone; nothing where compiling refuses it
abbrev pub table_in : List ℕ → Outcome Refusal ℕ → List ℕ
table_in out (refused r) = []
table_in out (gave size) = take size out

-- the place of the string in a record of a merge
abbrev pub place_in : ℕ → List ℕ → Outcome MergeRefusal MergeReport → Found
place_in n out (refused r) = merge_refused (number_of r.why.cause)
place_in n out (gave m) = pool_place (field (record_at (image_of (take m.length out)) n) 0)

-- two tables in an order, each with one empty string: of the 7 records of their merge, number 3 and number 6
abbrev pub empty_place : Bool → ℕ → Found
empty_place little n =
    let c = compile_answer (under "\"\"") little room in
    let t = table_in c.out c.answer in
    let r = merge_answer (request t t little) room in
    place_in n r.out r.answer

-- an example: its number, what is computed and what document 01 says
pub record Mark : Type 0 where
  pub number : ℕ
  pub computed : Found
  pub expected : Found

abbrev pub m : ℕ → Found → Found → Mark
m number computed expected = record { number = number; computed = computed; expected = expected }

abbrev pub marked_examples : List Mark
marked_examples =
    m 1 (answer_to "|0..<1000|" "999") valid
    ∷ m 1 (answer_to "|0..<1000|" "1000") (fails 24)
    ∷ m 2 (answer_to "|100+/-5|" "95") valid
    ∷ m 2 (answer_to "|100+/-5|" "105") valid
    ∷ m 2 (answer_to "|100+/-5|" "94") (fails 24)
    ∷ m 3 (answer_to "|>2147483647|" "0") (text_refused 6)
    ∷ m 4 (answer_to "|>0..<1|" "0") (text_refused 6)
    ∷ m 5 (answer_to "5, |5..9|" "5") (text_refused 9)
    ∷ m 6 (answer_to "*" "2000-02-29") valid
    ∷ m 6 (answer_to "*" "1900-02-29") (data_refused 5)
    ∷ m 6 (answer_to "|2000-02-29|" "2000-02-29") valid
    ∷ m 6 (answer_to "|1900-02-29|" "2000-02-29") (text_refused 5)
    ∷ m 7 (answer_to "*" "24:00:00") (data_refused 5)
    ∷ m 8 (answer_to "|0..9|" "08") (fails 20)
    ∷ m 8 (answer_to "Thh:??:??" "08") valid
    ∷ m 9 (answer_to "yyyy-mm-dd" "2004-05") (fails 24)
    ∷ m 10 (answer_to "*" "12+13:59") valid
    ∷ m 10 (answer_to "*" "12+14:00") (data_refused 5)
    ∷ m 11 (answer_to "*" "12-00:30") valid
    ∷ m 11 (answer_to "*" "12-00:00") (data_refused 5)
    ∷ m 12 (empty_place false 3) (pool_place 0)
    ∷ m 12 (empty_place false 6) (pool_place 0)
    ∷ m 12 (empty_place true 3) (pool_place 0)
    ∷ m 12 (empty_place true 6) (pool_place 0)
    ∷ []

-- what is computed is what document 01 says, in each example
pub data AllHold : List Mark → Type 0 where
  none : AllHold []
  one_more : {x : Mark} {xs : List Mark} → x.computed ≡ x.expected → AllHold xs → AllHold (x ∷ xs)

-- the statement
abbrev pub MarkedHold : Type 0
MarkedHold = AllHold marked_examples
