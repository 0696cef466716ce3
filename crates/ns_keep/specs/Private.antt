-- For private clauses alone: no promise rests on these.
pub mod Said
pub mod Open
pub mod Marks
pub mod Keeps
