pub mod Devices
pub mod Input
pub mod HexText
pub mod Refusals
