pub mod Recordings
pub mod Outcomes
pub mod Numbered
