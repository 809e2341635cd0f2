pub mod Fields
pub mod Reading
pub mod Sets
pub mod Sizes
pub mod Writing
