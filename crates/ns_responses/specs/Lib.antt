pub mod Lines
pub mod Head
pub mod Framing
pub mod Plain
pub mod Held
pub mod Finding
pub mod Reading
pub mod Sent
