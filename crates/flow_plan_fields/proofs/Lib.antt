pub mod Members
pub mod Sided
pub mod Listed
pub mod Told
mod Cuts
mod Steps
mod EstimateSteps
