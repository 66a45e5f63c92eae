pub mod WordLemmas
pub mod PrintableLemmas
