pub mod Base
pub mod Head
pub mod Resumed
pub mod Private
