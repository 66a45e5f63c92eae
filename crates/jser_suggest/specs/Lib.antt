pub mod Suggested
pub mod Samples
pub mod Gathering
pub mod Laws
pub mod Answers
