-- The laws and examples of the definitions.
pub mod MergeLaws
pub mod CheckedMerge
pub mod Answers
pub mod Computes
pub mod Examples
pub mod StepTable
pub mod MoveSteps
pub mod CopySteps
pub mod MovedLaws
pub mod JoinSteps
pub mod MergeSteps
pub mod MoveRuleLaws
pub mod JoinedLaws
pub mod OneJoinedLaws
pub mod MergeRuleLaws
pub mod StepLaws
