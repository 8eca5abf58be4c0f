-- The refusal told is the least of all faults.
pub mod Outcomes
pub mod Scanned
pub mod FaultTable
pub mod ConstraintScanned
pub mod ConstraintFaultTable
