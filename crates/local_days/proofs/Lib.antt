pub mod Starts
pub mod Rising
pub mod OneDay
