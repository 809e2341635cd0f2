mod Scripts
pub mod Outputs
