pub mod Recovery
pub mod Copies
pub mod Record
pub mod State
pub mod Laws
pub mod Runs
