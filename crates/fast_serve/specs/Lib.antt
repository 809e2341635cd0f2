pub mod Lines
pub mod Packets
pub mod Served
