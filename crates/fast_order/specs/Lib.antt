pub mod Order
pub mod Search
