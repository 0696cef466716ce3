pub mod Parts
pub mod UpLayout
