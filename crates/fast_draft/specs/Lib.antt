pub mod Mending
pub mod Segments
pub mod Standing
