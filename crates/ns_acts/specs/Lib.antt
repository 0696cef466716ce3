pub mod Lent
pub mod Calls
pub mod Private
