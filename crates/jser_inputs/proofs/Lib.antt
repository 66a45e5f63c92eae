pub mod ReadLemmas
pub mod DigitLemmas
pub mod GroupLemmas
pub mod TurnLemmas
pub mod TextLemmas
pub mod RunLemmas
pub mod BitStepLemmas
