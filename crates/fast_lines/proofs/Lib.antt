mod Common
mod Lanes
pub mod Written
mod Nested
mod LineRows
mod Laid
mod Decimals
mod HexPairs
mod Units
