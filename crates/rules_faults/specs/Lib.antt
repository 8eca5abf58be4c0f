pub mod Faults
pub mod DataFaults
pub mod ConstraintFaults
