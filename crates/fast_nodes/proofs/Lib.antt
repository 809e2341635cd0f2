mod Common
mod RefusedRows
mod Views
mod Sizes
pub mod Additions
pub mod Changes
pub mod Tries
pub mod Messages
pub mod NoForms
pub mod HaveForms
