pub mod Receipts
pub mod Answered
pub mod Given
pub mod Grown
pub mod Notice
pub mod Datagrams
pub mod Job
