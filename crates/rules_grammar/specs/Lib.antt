pub mod Admits
pub mod FirstFailure
pub mod DataGrammar
pub mod LeafGrammar
pub mod ConstraintGrammar
