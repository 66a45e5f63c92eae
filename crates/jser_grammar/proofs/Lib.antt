pub mod Vocabulary
pub mod Bools
pub mod TableLemmas
pub mod Rows
pub mod WrongRows
pub mod TableSizes
