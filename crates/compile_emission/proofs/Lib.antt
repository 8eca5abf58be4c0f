-- The laws of the definitions.
pub mod WritingSteps
pub mod LeafWriting
pub mod HeadWriting
pub mod TreeWriting
