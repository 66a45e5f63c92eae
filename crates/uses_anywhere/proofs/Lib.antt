pub mod ExactLemmas
pub mod PlaceLemmas
pub mod SpelledLemmas
