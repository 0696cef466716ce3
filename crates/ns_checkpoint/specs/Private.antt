-- For private clauses.
pub mod Reading
