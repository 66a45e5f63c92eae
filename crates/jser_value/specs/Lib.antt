pub mod View
pub mod Limits
pub mod Encoding
pub mod Encoded
pub mod Rooms
pub mod PartTests
pub mod Tests
pub mod Causes
