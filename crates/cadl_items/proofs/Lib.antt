-- The laws and examples of the definitions.
pub mod LeafParts
pub mod RangeReading
pub mod LeafReading
pub mod SpanSteps
pub mod ItemLaws
pub mod RangeSteps
pub mod StringSteps
pub mod LeafSteps
pub mod Computes
pub mod Examples
