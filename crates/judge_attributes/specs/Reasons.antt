-- Document 01's numbers of the reasons for which a data text fails: 'Meaning', and the table 'Numbers of refusal'. Assumes nothing.
use Rattle.std.specs.Prelude.{ℕ}
use Rattle.judge_attributes.specs.declared.Reason.{Reason}
use Rattle.judge_attributes.specs.declared.Reason.TheVariants.{Unsuited, TypeDiffers, Missing, Present, NotAdmitted}

abbrev pub number_of : Reason → ℕ
number_of Unsuited = 20
number_of TypeDiffers = 21
number_of Missing = 22
number_of Present = 23
number_of NotAdmitted = 24
