pub mod Pieces
pub mod Plain
pub mod Decimals
pub mod JoinText
pub mod Known
pub mod ReadBack
