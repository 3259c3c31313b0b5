-- What public contracts cite.
pub mod FileLines
pub mod Loaded
