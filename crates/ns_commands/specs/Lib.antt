pub mod Status
pub mod Times
