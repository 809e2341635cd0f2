pub mod Lines
pub mod Signs
pub mod Written
pub mod Digits
