pub mod Compact
pub mod Growth
