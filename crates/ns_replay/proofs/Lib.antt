pub mod ReadLemmas
pub mod FrontLemmas
pub mod ClosingLemmas
