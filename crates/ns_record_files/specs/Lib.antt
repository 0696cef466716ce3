pub mod Disk
pub mod Record
pub mod Swap
