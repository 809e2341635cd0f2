pub mod Outputs
pub mod Written
pub mod Packets
pub mod Ways
pub mod Laws
pub mod PacketLaws
