mod Common
pub mod Relayings
