pub mod Identity
pub mod Heard
pub mod Ticket
pub mod Cases
pub mod Results
pub mod Options
pub mod Bytes
pub mod Streams
