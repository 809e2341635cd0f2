mod Common
pub mod SearchSteps
pub mod SearchGroups
pub mod SearchTurns
