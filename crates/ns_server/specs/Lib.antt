pub mod Begun
pub mod Receipts
pub mod Kept
pub mod Trims
pub mod Settled
pub mod Rows
pub mod Drain
pub mod Check
