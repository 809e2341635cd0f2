pub mod Fields
pub mod Rooms
