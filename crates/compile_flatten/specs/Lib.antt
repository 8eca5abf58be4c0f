pub mod Flatten
pub mod Layout
