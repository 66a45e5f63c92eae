pub mod Answers
pub mod Taking
pub mod Showing
pub mod Standing
