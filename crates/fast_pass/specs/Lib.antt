pub mod Passed
pub mod Relays
