pub mod RangeLemmas
pub mod NearestLemmas
pub mod FewestLemmas
pub mod PlaceLemmas
pub mod ShortestLemmas
pub mod OnlyLemmas
pub mod FloatLemmas
pub mod NextLemmas
