pub mod Asked
pub mod Commands
pub mod Refused
