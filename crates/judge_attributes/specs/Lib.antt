pub mod Reasons
pub mod Clauses
