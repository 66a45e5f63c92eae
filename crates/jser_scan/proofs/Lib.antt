pub mod FoundLemmas
pub mod LastLemmas
pub mod NameLemmas
pub mod ScanLemmas
pub mod SampleLemmas
pub mod JsonLemmas
