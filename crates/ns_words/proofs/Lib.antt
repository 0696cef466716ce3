pub mod CommandLemmas
pub mod OptionLemmas
pub mod RefusedLemmas
