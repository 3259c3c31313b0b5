pub mod Hyphens
pub mod FinishedNames
