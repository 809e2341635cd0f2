pub mod Built
pub mod Calls
pub mod Inputs
pub mod Taken
