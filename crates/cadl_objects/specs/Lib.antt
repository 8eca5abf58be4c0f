pub mod Existence
pub mod Objects
pub mod Texts
pub mod Clauses
