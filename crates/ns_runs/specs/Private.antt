-- For private clauses.
pub mod Run
