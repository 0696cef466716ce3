-- For private clauses; `NamesNoLine` of Faults is named by a public one too.
pub mod Lines
pub mod Ups
pub mod Running
pub mod Faults
pub mod Restored
