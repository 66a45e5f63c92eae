pub mod AskingLemmas
pub mod CutLemmas
pub mod TakingLemmas
pub mod ShowingLemmas
pub mod StandingLemmas
