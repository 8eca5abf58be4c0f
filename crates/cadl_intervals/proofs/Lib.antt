-- The laws of the definitions.
pub mod Pairs
pub mod IntervalParts
pub mod IntervalReading
pub mod IntervalSteps
