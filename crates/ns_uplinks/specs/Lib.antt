pub mod Uplinks
