pub mod Front
pub mod Host
pub mod HostText
