pub mod Asks
pub mod Counts
pub mod Ends
pub mod Lines
pub mod Wall
