pub mod OpeningLemmas
pub mod ToldLemmas
