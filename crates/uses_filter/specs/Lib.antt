pub mod Admission
pub mod Settings
