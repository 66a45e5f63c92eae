pub mod ExplainLemmas
pub mod LengthLemmas
pub mod LineLemmas
pub mod OpenLemmas
pub mod PieceLemmas
pub mod ShortLemmas
pub mod WhyLemmas
