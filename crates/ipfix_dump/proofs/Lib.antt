pub mod Writing
pub mod FieldTexts
mod InFull
mod Joined
mod Kept
