-- The laws of the definitions.
pub mod Placed
pub mod FlattenLaws
pub mod CheckedCompiled
pub mod LayoutLaws
pub mod OneLayoutLaws
