-- `judge_attributes::judge_attribute` meets its contract. Assumes nothing.
use Rattle.judge_attributes.proofs.AttributeSteps.{attribute_name_lem, attribute_link, member_missing, member_absent, member_row_lem, member_present, member_judged}
use Rattle.judge_tape.proofs.MemberSteps.{row_lies}
use Rattle.judge_attributes.proofs.judge_attribute.Goals as goal

pub name_of-requires : goal.name_of-requires
name_of-requires c = search attribute_name_lem

pub number-requires-clause-row_size_in_bounds : goal.number-requires-clause-row_size_in_bounds
number-requires-clause-row_size_in_bounds c = search (row_lies, member_row_lem)

pub judge_value-requires-clause-value_link : goal.judge_value-requires-clause-value_link
judge_value-requires-clause-value_link c = search attribute_link

pub judge_value-requires-clause-row_lt_rows : goal.judge_value-requires-clause-row_lt_rows
judge_value-requires-clause-row_lt_rows c = search member_row_lem

pub returns-in-None-clause-attribute_answer_is : goal.returns-in-None-clause-attribute_answer_is
returns-in-None-clause-attribute_answer_is c = search (member_missing, member_absent)

pub returns-in-None-2-clause-attribute_answer_is : goal.returns-in-None-2-clause-attribute_answer_is
returns-in-None-2-clause-attribute_answer_is c = search (member_missing, member_absent)

pub returns-in-Some-clause-attribute_answer_is : goal.returns-in-Some-clause-attribute_answer_is
returns-in-Some-clause-attribute_answer_is c = search (member_present, member_judged)

pub returns-in-Some-2-clause-attribute_answer_is : goal.returns-in-Some-2-clause-attribute_answer_is
returns-in-Some-2-clause-attribute_answer_is c = search (member_present, member_judged)
