pub mod Answers
pub mod Building
pub mod Found
pub mod Laws
