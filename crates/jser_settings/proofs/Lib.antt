pub mod FilterFileLemmas
pub mod WholeLemmas
pub mod FileFaultLemmas
pub mod UnseenLemmas
