pub mod Answers
pub mod Calls
pub mod Lines
pub mod Packets
pub mod Rooms
pub mod Ways
