pub mod Counts
pub mod Traffic
pub mod Counted
pub mod Scripts
