-- The laws of checked tables, and the steps of the functions.
pub mod ItemSteps
pub mod TableLaws
