pub mod Building
pub mod Faults
pub mod Moved
pub mod Open
pub mod Reading
pub mod Taking
pub mod Tapes
pub mod Waiting
