pub mod Limits
pub mod Refusals
pub mod Numbers
pub mod Reading
pub mod Outcomes
pub mod Expecting
pub mod Parsing
pub mod Clauses
