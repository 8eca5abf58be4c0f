-- The laws and examples of the definitions.
pub mod Readings
pub mod Outcomes
pub mod Tokens
pub mod Parses
pub mod StepLaws
pub mod Examples
pub mod RefusalTable
pub mod NumberLaws
pub mod FaultCauses
