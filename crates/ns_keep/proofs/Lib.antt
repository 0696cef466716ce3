mod Sets
pub mod Marked
pub mod Kept
pub mod Numbers
