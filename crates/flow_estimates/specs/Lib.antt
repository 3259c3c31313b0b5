-- What public contracts cite.
pub mod Estimates
pub mod Noted
