mod Prelude
pub mod Canonical
pub mod Written
pub mod Quick
pub mod Runs
pub mod Levels
pub mod Drafts
pub mod Takings
