pub mod BigLemmas
pub mod ShortestLemmas
