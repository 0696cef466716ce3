mod MarkLemmas
pub mod Tables
