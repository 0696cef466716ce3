pub mod Positions
pub mod Addressed
pub mod Euis
pub mod Rosters
