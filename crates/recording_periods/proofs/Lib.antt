pub mod Dates
pub mod FoundFiles
pub mod Holding
pub mod Loops
pub mod OneState
pub mod PathNames
