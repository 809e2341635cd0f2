mod Common
pub mod SameLines
mod Telling
pub mod ToldFields
pub mod Writing
mod Waitings
