-- What public contracts cite.
pub mod Untimed
pub mod Starts
pub mod Timed
pub mod Elements
pub mod Noted
