pub mod Answers
pub mod Scans
pub mod Settings
pub mod Suggests
