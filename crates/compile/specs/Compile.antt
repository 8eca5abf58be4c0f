-- What compiling answers, and the output buffer behind it. Document 01, 'Numbers of refusal', 11: "output too short", at the text's end; "1 comes before all, 11 after all".
-- Assumes nothing.
use Rattle.std.specs.Prelude.{Bool, List, ℕ, length}
use Rattle.refusals.specs.Refusals.{refusal}
use Rattle.refusals.specs.Outcomes.{Outcome, after_reading, Written, writes, fitting, Answered, write}
use Rattle.refusals.specs.declared.Refusal.{Refusal}
use Rattle.meaning.specs.Constraints.{Object}
use Rattle.cadl_objects.specs.Texts.{constraint_of}
use Rattle.table.specs.Records.{bytes_of}
use Rattle.compile_flatten.specs.Flatten.{image_of_tree}

-- the table of a tree, in either order
abbrev pub table_of : Bool → Object → List ℕ
table_of little o = bytes_of little (image_of_tree o)

-- a tree's table and its length, for an output of so many bytes; `end` is the text's end
abbrev pub table_for : Bool → (end room : ℕ) → Object → Outcome Refusal (Written ℕ)
table_for little end room o = let bs = table_of little o in fitting refusal end room (writes bs (length bs))

abbrev pub compile_outcome : List ℕ → Bool → (room : ℕ) → Outcome Refusal (Written ℕ)
compile_outcome text little room = after_reading (constraint_of text) (table_for little (length text) room)

unfoldable pub compile_answer : List ℕ → Bool → List ℕ → Answered Refusal ℕ
compile_answer text little out = write (compile_outcome text little (length out)) out
