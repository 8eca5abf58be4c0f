pub mod Placed
pub mod Data
pub mod Clauses
