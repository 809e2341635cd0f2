mod Common
pub mod CanonicalBytes
pub mod AskedBits
pub mod PartBits
pub mod ShortestMaps
pub mod Stages
pub mod BetterParts
pub mod BetterBodies
pub mod OneCanonical
pub mod StreamLaws
pub mod Headlines
mod WorkedLengths
