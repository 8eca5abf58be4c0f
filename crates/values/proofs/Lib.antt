-- The laws and examples of the definitions.
pub mod Computes
pub mod Common
pub mod IntegerLaws
pub mod CalendarLaws
pub mod DayLaws
pub mod DateLaws
pub mod DigitLaws
pub mod DateWordLaws
pub mod TimeWordLaws
pub mod DurationWordLaws
pub mod WordLaws
pub mod PatternLaws
pub mod DurationLaws
pub mod LengthLaws
pub mod Examples
mod CalendarSteps
mod IntegerSteps
mod ShapeSteps
mod TimeSteps
mod DurationSteps
mod WordSteps
mod PatternSteps
