pub mod Devices
pub mod Places
