-- The laws and examples of the definitions.
pub mod TreeParts
pub mod HeadReading
pub mod TreeReading
pub mod Computes
pub mod Examples
pub mod FaultTable
pub mod CountTable
pub mod ExistenceSteps
pub mod HeadSteps
