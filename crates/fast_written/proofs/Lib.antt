mod Common
mod DataLaws
mod Fitting
pub mod JsonReading
pub mod WorkedTemplates
