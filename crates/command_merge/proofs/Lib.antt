pub mod Merged
pub mod FilesTold
mod Ended
