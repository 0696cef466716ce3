pub mod Passing
pub mod Pairs
pub mod Names
pub mod Frames
pub mod Opened
pub mod Placed
pub mod Known
pub mod Held
