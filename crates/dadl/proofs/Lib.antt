-- The laws and examples of the definitions.
pub mod TapeLaws
pub mod GoodTapes
pub mod TreeReading
pub mod TextTape
pub mod DataCauses
pub mod Computes
pub mod Examples
mod TokenSteps
mod ContentSteps
mod NameSteps
mod EarlierNames
mod BlockSteps
pub mod DataSteps
