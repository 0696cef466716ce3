pub mod Device
pub mod Accept
pub mod Request
pub mod Reply
pub mod Server
pub mod Joins
pub mod Faults
pub mod Laws
