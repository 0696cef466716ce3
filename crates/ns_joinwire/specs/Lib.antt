pub mod Parts
pub mod JoinAns
pub mod Spelled
pub mod JoinReq
pub mod Private
