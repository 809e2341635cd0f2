pub mod Crossing
pub mod KeptCrossing
pub mod Leases
pub mod Values
