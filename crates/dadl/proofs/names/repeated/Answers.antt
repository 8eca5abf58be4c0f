-- `dadl::names::repeated` meets its contract. Assumes nothing.
use Rattle.dadl.proofs.NameSteps.{names_end, name_lies, names_less, bytes_found}
use Rattle.dadl.proofs.names.repeated.Goals as goal

pub row_name-other-requires : goal.row_name-other-requires
row_name-other-requires c = search name_lies

pub names-smaller-then-name-i : goal.names-smaller-then-name-i
names-smaller-then-name-i c = search names_less

pub names-smaller : goal.names-smaller
names-smaller c = search names_less

pub returns-after-names : goal.returns-after-names
returns-after-names c = search names_end

pub returns-then-i-name : goal.returns-then-i-name
returns-then-i-name c = search bytes_found
