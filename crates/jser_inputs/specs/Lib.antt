pub mod Spaces
pub mod Places
pub mod Spelled
pub mod Groups
pub mod Decoding
pub mod FaultTexts
