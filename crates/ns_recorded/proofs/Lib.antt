pub mod Said
pub mod Runs
