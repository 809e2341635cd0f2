pub mod Run
pub mod RunPackets
