pub mod FirstRefusal
pub mod Added
pub mod Ranges
