mod Common
pub mod Runs
pub mod ManyRuns
pub mod Standings
pub mod Followings
pub mod PlainReads
pub mod BlockReads
pub mod MessageEnds
pub mod Lackings
pub mod Ends
pub mod Calls
pub mod Progress
pub mod Inputs
