pub mod Taken
pub mod Gateways
pub mod Pending
pub mod Counts
pub mod Token
pub mod Event
