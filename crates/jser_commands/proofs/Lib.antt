pub mod HiddenLemmas
pub mod InputLemmas
pub mod LimitLemmas
pub mod Lines
pub mod ListLemmas
pub mod ShowLemmas
pub mod AnywhereLines
