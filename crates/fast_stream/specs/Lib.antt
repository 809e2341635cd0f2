mod Prelude
pub mod Nodes
pub mod Bits
pub mod Bodies
pub mod Streams
pub mod Faults
pub mod Reading
pub mod Blocks
pub mod Modes
pub mod Readers
pub mod CauseNames
