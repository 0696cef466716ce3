-- For private clauses, and for models of public types.
pub mod Sending
pub mod Room
pub mod Reaction
pub mod Uplink
pub mod Parts
pub mod Jump
