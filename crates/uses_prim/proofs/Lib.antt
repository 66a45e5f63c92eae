pub mod LogLemmas
pub mod Scans
pub mod Units
