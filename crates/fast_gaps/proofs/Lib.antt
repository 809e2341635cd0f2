pub mod Filled
mod SlotTexts
