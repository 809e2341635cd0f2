mod Common
pub mod Builders
pub mod Calls
pub mod Inputs
