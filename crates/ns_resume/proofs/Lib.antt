pub mod Lines
pub mod UpLines
pub mod Steps
pub mod Runs
pub mod Faults
pub mod OpenIn
pub mod Restored
