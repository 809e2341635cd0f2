pub mod Scalar
pub mod Key
pub mod InitialValues
pub mod Numbers
pub mod Overwritten
