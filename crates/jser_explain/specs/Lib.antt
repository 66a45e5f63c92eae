pub mod Short
pub mod Heads
pub mod Opened
pub mod Rest
pub mod Whys
pub mod Explains
