pub mod Fronts
pub mod Batches
mod Swaps
