pub mod AnswerLemmas
pub mod ExplainLemmas
pub mod ScanLemmas
pub mod SettingLemmas
pub mod SuggestLemmas
pub mod TextLemmas
