pub mod Tables
pub mod Private
