mod Common
pub mod OrderedMaps
pub mod SlotMaps
