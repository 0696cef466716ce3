pub mod WallLemmas
