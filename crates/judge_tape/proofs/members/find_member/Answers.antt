-- `judge_tape::members::find_member` meets its contract. Assumes nothing.
use Rattle.judge_tape.proofs.MemberSteps.{name_lies, rows_found, rows_end}
use Rattle.judge_tape.proofs.members.find_member.Goals as goal

pub row_name-requires : goal.row_name-requires
row_name-requires c = search name_lies

pub returns-then-same_bytes : goal.returns-then-same_bytes
returns-then-same_bytes c = search rows_found

pub returns-then-next-eq0 : goal.returns-then-next-eq0
returns-then-next-eq0 c = search rows_end
