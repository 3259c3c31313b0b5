pub mod Tables
pub mod Paired
mod Growing
mod Following
mod HandingOn
mod Looping
pub mod SessionSteps
pub mod Standing
pub mod Turning
mod TakingTurns
mod Recording
pub mod Alone
mod ScriptLemmas
mod Evicting
