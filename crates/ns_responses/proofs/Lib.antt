pub mod HeldLemmas
pub mod LinesLemmas
pub mod HeadLemmas
pub mod PlainLemmas
pub mod StepLemmas
pub mod SentLemmas
