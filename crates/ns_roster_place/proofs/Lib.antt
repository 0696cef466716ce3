pub mod PlaceLemmas
pub mod DeviceLemmas
pub mod FaultLemmas
