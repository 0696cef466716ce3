pub mod HexText
pub mod StepLines
pub mod Spelled
pub mod Private
