pub mod LeastLemmas
pub mod LimitLemmas
pub mod SourceLemmas
