pub mod GoOn
