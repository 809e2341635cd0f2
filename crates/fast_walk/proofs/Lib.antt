mod Common
mod SetBits
pub mod ShortWalks
pub mod Steps
pub mod Passings
pub mod Walking
mod Taking
pub mod Views
pub mod Putting
pub mod Serving
pub mod Heads
pub mod Telling
pub mod Lacking
pub mod NewParts
pub mod ShortMaps
pub mod Pieces
pub mod Messages
mod PartKeys
pub mod PartTaking
