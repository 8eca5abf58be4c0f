-- The laws and examples of the definitions.
pub mod Numbers
pub mod NumberedLaws
pub mod Moved
pub mod Computes
pub mod Trees
pub mod CountTable
pub mod Examples
pub mod LeafTable
pub mod MadeTable
pub mod JudgeTable
