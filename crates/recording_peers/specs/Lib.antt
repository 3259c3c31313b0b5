-- What public contracts cite.
pub mod Answers
pub mod Scripts
pub mod Happenings
pub mod Kept
pub mod Calls
pub mod Table
pub mod Steps
pub mod Sessions
pub mod Standings
pub mod Runs
