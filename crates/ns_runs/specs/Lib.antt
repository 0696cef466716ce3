pub mod Taken
pub mod Steps
pub mod KeptSteps
pub mod NextRun
pub mod Lines
pub mod Whole
pub mod Private
