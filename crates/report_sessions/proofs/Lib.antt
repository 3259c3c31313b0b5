pub mod Ended
pub mod Untold
mod Stream
mod Once
