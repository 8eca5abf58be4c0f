pub mod Compile
pub mod Clauses
