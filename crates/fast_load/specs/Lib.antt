mod Prelude
pub mod FlatLists
pub mod LoadChecks
pub mod Walks
pub mod PartCauses
pub mod JsonLoads
pub mod Phases
pub mod Slots
pub mod Duplicates
pub mod References
pub mod Surroundings
pub mod Links
pub mod Extents
pub mod NamedLists
pub mod IdPlaces
pub mod InOrder
pub mod Initials
