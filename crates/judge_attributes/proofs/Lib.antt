-- The steps of the functions.
pub mod AttributeSteps
