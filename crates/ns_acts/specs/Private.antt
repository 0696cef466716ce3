-- For models of public types.
pub mod Datagram
