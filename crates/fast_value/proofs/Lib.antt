mod Common
pub mod HexTexts
pub mod NumberLaws
pub mod ScalarRows
