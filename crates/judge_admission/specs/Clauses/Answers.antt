-- What the answers of the functions stand for. Assumes nothing.
use Rattle.std.specs.Prelude.{Bool, true, false, List, ℕ}
use Rattle.std.specs.Prelude.{Option, None, Some}
use Rattle.meaning.specs.Constraints.{Leaf}
use Rattle.meaning.specs.Findings.{Finding, unsuited, refuted, admitted}
use Rattle.meaning.specs.Admission.{word_under, string_under}
use Rattle.table.specs.Records.{Record}
use Rattle.judge_admission.specs.Clauses.Items.{item_of}
use Rattle.judge_admission.specs.declared.Admission.{Admission}
use Rattle.judge_admission.specs.declared.Admission.TheVariants.{Unsuited, Refuted, Admitted}

-- how a value stands to a leaf
abbrev pub finding_of : Admission → Finding
finding_of Unsuited = unsuited
finding_of Refuted = refuted
finding_of Admitted = admitted

-- a string or a word under a leaf; where there is none, it is unsuited
abbrev pub finding_under : Option Leaf → Bool → List ℕ → Finding
finding_under None is_string w = unsuited
finding_under (Some l) true w = string_under l w
finding_under (Some l) false w = word_under l w

-- a value is admitted; an item alone admits it
abbrev pub is_admitted : Finding → Bool
is_admitted unsuited = false
is_admitted refuted = false
is_admitted admitted = true

abbrev pub item_admits : List ℕ → Record → Bool → List ℕ → Bool
item_admits pool r is_string w = is_admitted (finding_under (item_of pool r) is_string w)
