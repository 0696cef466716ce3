pub mod RequestLemmas
pub mod SpelledLemmas
