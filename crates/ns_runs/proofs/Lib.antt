pub mod RunSteps
pub mod RunHistories
pub mod RunTaken
pub mod StepEnds
pub mod KeptSteps
pub mod LineSteps
pub mod Whole
