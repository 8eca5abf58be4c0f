pub mod Joining
pub mod Merge
pub mod TableNumbers
pub mod Lists
pub mod MergeRules
pub mod Clauses
