-- What public contracts cite.
pub mod Places
pub mod Rated
pub mod Timed
pub mod Great
pub mod Contexts
pub mod Headline
pub mod InFull
pub mod Texts
pub mod EachRun
pub mod Refusals
pub mod Failures
pub mod Faults
pub mod Sends
-- What only inner functions and proofs need.
pub mod Adds
pub mod Serials
pub mod SessionSinks
pub mod Promises
pub mod Sessions
pub mod LinkEnds
pub mod Dealt
pub mod Started
pub mod Finished
pub mod Shortages
