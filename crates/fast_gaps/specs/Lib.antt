pub mod Gaps
pub mod Filled
