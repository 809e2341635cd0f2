mod Prelude
pub mod Runs
pub mod Standing
pub mod Following
pub mod OneProof
pub mod Ends
pub mod Calls
pub mod Progress
pub mod Inputs
