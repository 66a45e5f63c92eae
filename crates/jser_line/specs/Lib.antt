pub mod Args
pub mod App
pub mod Clashes
pub mod Printable
