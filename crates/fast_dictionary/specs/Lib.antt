pub mod Dictionary
pub mod Slots
