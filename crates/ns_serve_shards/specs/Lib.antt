pub mod Begun
pub mod Trims
pub mod Closing
