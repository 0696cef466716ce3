-- For private clauses alone: no promise rests on these.
pub mod Read
