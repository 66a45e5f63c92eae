pub mod Base64Texts
pub mod HexTexts
pub mod WrongLemmas
