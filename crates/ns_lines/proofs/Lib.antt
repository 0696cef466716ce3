pub mod HexText
pub mod HexDigits
pub mod LineLemmas
