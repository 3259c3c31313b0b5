pub mod OutcomeLemmas
pub mod NextTaken
pub mod StepsTaken
