pub mod Outer
pub mod Device
pub mod Place
pub mod Wrong
