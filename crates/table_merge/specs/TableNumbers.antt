-- The number that a refused merge gives for the table at fault: document 01, 'What form to use where', of merging. Assumes nothing.
use Rattle.std.specs.Prelude.{ℕ}
use Rattle.table_merge.specs.declared.AtFault.{AtFault}
use Rattle.table_merge.specs.declared.AtFault.TheVariants.{Neither, First, Second}

-- 0 where neither is
abbrev pub table_number : AtFault → ℕ
table_number Neither = 0
table_number First = 1
table_number Second = 2
