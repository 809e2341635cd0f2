pub mod Names
pub mod LoadFaults
pub mod Written
pub mod JsonTemplates
pub mod Profile
pub mod CauseNames
pub mod JsonData
