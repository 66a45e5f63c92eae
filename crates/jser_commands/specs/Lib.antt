pub mod Counts
pub mod Hidden
pub mod Inputs
pub mod Limits
pub mod Lines
pub mod Places
pub mod Reasons
