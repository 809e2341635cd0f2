mod Common
pub mod Maps
pub mod Variants
pub mod SlotLaws
pub mod Tested
pub mod WorkedSet
pub mod SetRows
