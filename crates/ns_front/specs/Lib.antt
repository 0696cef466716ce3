pub mod Front
pub mod Late
pub mod Noted
pub mod Peers
pub mod Private
