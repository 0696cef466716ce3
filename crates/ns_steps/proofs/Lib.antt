pub mod HexTextLemmas
pub mod HexDigits
pub mod LineLemmas
pub mod SpelledLemmas
pub mod SpelledLines
pub mod Digits
pub mod FirstByte
