pub mod Ages
pub mod MetricsLemmas
pub mod Places
pub mod StepLemmas
