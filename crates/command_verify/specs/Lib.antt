-- What public contracts cite.
pub mod Verified
pub mod Again
