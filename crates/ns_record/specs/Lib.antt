pub mod StepText
