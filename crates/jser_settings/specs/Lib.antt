pub mod FilterFiles
pub mod Unseen
pub mod FileFaults
pub mod FileTexts
pub mod NoPatterns
pub mod Settings
pub mod TextNotes
pub mod Whole
