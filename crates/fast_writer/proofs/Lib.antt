mod Common
pub mod LawProofs
pub mod WorkedCanonical
pub mod Leavings
pub mod Writings
mod Runs
pub mod Relays
pub mod Writers
pub mod SetBits
mod Drafting
mod Same
mod Opened
mod Awaiting
pub mod Takings
mod SpeltParts
