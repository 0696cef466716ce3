pub mod Output
pub mod Private
