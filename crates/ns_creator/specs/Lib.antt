pub mod DataFrame
pub mod JoinFrame
pub mod Built
pub mod Laws
pub mod Faults
