pub mod Bigs
pub mod Shortest
pub mod Floats
pub mod Measured
