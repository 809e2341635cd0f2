pub mod Keeping
pub mod Leasing
pub mod Lending
pub mod Returning
pub mod Sets
