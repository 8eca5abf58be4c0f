-- `judge_admission::admit` meets its contract. Assumes nothing.
use native.Mathlib.Omega.{arith}
use borrow.Author.Rules.{rules}
use Rattle.judge_admission.proofs.ItemSteps.{kind_steps, chained_integers, chained_strings, chained_dates}
use Rattle.judge_admission.proofs.admit.Goals as goal

pub is_some-requires : goal.is_some-requires
is_some-requires c = record { chained = search chained_strings; spelled = search rules }

pub returns-in-5 : goal.returns-in-5
returns-in-5 c = search (kind_steps, arith)

pub returns-in-0-to-4 : goal.returns-in-0-to-4
returns-in-0-to-4 c = search (kind_steps, arith)

pub returns-in-6-to-255 : goal.returns-in-6-to-255
returns-in-6-to-255 c = search (kind_steps, arith)

pub integer_under-requires : goal.integer_under-requires
integer_under-requires c = search chained_integers

pub date_under-requires : goal.date_under-requires
date_under-requires c = search chained_dates

pub returns-in-3 : goal.returns-in-3
returns-in-3 c = search (kind_steps, arith)

pub returns-in-4 : goal.returns-in-4
returns-in-4 c = search (kind_steps, arith)

pub returns-in-5-kind : goal.returns-in-5-kind
returns-in-5-kind c = search (kind_steps, arith)

pub returns-in-6 : goal.returns-in-6
returns-in-6 c = search (kind_steps, arith)

pub returns-in-7 : goal.returns-in-7
returns-in-7 c = search (kind_steps, arith)

pub returns-in-8 : goal.returns-in-8
returns-in-8 c = search (kind_steps, arith)

pub returns-in-9 : goal.returns-in-9
returns-in-9 c = search (kind_steps, arith)

pub returns-in-0-to-2 : goal.returns-in-0-to-2
returns-in-0-to-2 c = search (kind_steps, arith)

pub returns-in-10-to-255 : goal.returns-in-10-to-255
returns-in-10-to-255 c = search (kind_steps, arith)
