pub mod NameLemmas
mod CodeLemmas
pub mod LayerLemmas
pub mod SectionLemmas
pub mod ChainLemmas
pub mod LineLemmas
pub mod PathLemmas
pub mod UpwardLemmas
pub mod FlagLemmas
pub mod WalkLemmas
pub mod FiledLemmas
pub mod AheadLemmas
pub mod TableLemmas
