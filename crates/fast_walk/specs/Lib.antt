mod Prelude
pub mod OpenSegments
pub mod Received
pub mod Walks
pub mod Traversals
pub mod Passing
pub mod Told
pub mod Awaited
pub mod OneProof
pub mod Lacks
pub mod ShortMaps
pub mod Pieces
pub mod Messages
pub mod PartTaking
pub mod Found
