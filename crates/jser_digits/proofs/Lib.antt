pub mod DigitLemmas
pub mod JoinedLemmas
