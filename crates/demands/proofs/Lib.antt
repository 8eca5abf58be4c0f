-- The proofs of the demands.
pub mod JudgedTexts
pub mod Merges
pub mod Rules
pub mod Failures
pub mod Telling
pub mod Marked
pub mod Examples
pub mod ListTable
