-- The laws and examples of the definitions.
pub mod ReadingLaws
pub mod ObjectSteps
pub mod AttributeSteps
pub mod AttributesSteps
pub mod TableSteps
pub mod Answers
pub mod Computes
pub mod CompileTable
pub mod Examples
