pub mod Intervals
pub mod Clauses
