pub mod Base64
pub mod Lora
pub mod Notice
pub mod Output
pub mod Times
pub mod Uplink
pub mod Value
