mod Common
pub mod ShortPieces
pub mod Causes
pub mod Hex
pub mod Rows
pub mod WorkedStreams
pub mod Weaker
pub mod PieceReaders
pub mod MapFaults
pub mod FoundMembers
pub mod BodyReaders
pub mod MessageReaders
pub mod StreamReaders
pub mod Leaves
mod SameNodes
mod EqualNodes
pub mod Ends
pub mod Levels
pub mod BlockSizes
pub mod BlockReaders
pub mod ModeReaders
pub mod Framings
pub mod BlockSteps
pub mod Runs
pub mod ModeStreams
