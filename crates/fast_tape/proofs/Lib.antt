mod Building
mod Reading
mod Taking
mod Joining
pub mod Lying
pub mod Marks
pub mod Nodes
mod WorkedTapes
