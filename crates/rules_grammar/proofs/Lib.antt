-- The relations and the definitions are one.
pub mod NextLaws
pub mod LiteralLaws
pub mod Leaves
pub mod Judged
pub mod Given
pub mod Derived
pub mod EndLaws
pub mod Items
pub mod Constrained
pub mod Whole
pub mod FailurePlaces
