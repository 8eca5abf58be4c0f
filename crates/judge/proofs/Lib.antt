-- The laws and examples of the definitions, and the steps of the functions.
pub mod Computes
pub mod Examples
pub mod Depth
pub mod WalkSteps
pub mod JudgeSteps
