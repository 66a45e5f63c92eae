pub mod HeadlineLemmas
pub mod ReaderLemmas
pub mod FrontLemmas
