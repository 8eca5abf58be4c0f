-- `judge::judge_checked` meets its contract. Assumes nothing.
use native.Mathlib.Omega.{arith}
use Rattle.judge.proofs.JudgeSteps.{root_none, records_end, parts_good, parts_kind, parts_judged}
use Rattle.table.proofs.NameSteps.{sound_long, sound_open}
use Rattle.judge.proofs.judge_checked.Goals as goal

pub frame_of-frame-requires : goal.frame_of-frame-requires
frame_of-frame-requires c = search sound_long

pub kind_at-requires : goal.kind_at-requires
kind_at-requires c = search sound_open

pub returns-then-kind_at-ne-OBJECT_KIND : goal.returns-then-kind_at-ne-OBJECT_KIND
returns-then-kind_at-ne-OBJECT_KIND c =
    rw c.at.ensures (root_none _ _ _ c.requires _ c.frame_of-frame.ensures _ c.kind_at.ensures c.if-kind_at-ne-OBJECT_KIND.true)

pub slice_bounds-records-end : goal.slice_bounds-records-end
slice_bounds-records-end c = search records_end

pub slice_bounds-pool-count : goal.slice_bounds-pool-count
slice_bounds-pool-count c = search records_end

pub slice_bounds-pool-start : goal.slice_bounds-pool-start
slice_bounds-pool-start c = search records_end

pub judge_in-requires : goal.judge_in-requires
judge_in-requires c = record { table_good = search parts_good; root_value = search parts_kind; tape_room = record { enough = λ h. omega arith; few = omega arith } }

pub returns-then-text-le-SHORT_TEXT : goal.returns-then-text-le-SHORT_TEXT
returns-then-text-le-SHORT_TEXT c = search parts_judged

pub judge_in-requires-else-text-le-SHORT_TEXT : goal.judge_in-requires-else-text-le-SHORT_TEXT
judge_in-requires-else-text-le-SHORT_TEXT c = record { table_good = search parts_good; root_value = search parts_kind; tape_room = record { enough = λ h. omega arith; few = omega arith } }

pub returns-else-text-le-SHORT_TEXT : goal.returns-else-text-le-SHORT_TEXT
returns-else-text-le-SHORT_TEXT c = search parts_judged
