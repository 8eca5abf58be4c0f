pub mod Digests
pub mod Reading
