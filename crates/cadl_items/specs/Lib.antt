pub mod Ranges
pub mod Strings
pub mod Leaves
pub mod Clauses
