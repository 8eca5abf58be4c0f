-- The laws of the definitions and the steps of the functions.
pub mod MemberSteps
pub mod MemoSteps
pub mod MemoLaws
pub mod ListSteps
