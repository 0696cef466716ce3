pub mod DeviceLemmas
pub mod TextLemmas
pub mod ValidLemmas
pub mod SpelledLemmas
pub mod HexLemmas
pub mod ClosingLemmas
pub mod NonceLemmas
