pub mod Base64Lemmas
pub mod LineLemmas
pub mod Plain
pub mod Numbers
pub mod ReadBack
pub mod NoticeLemmas
