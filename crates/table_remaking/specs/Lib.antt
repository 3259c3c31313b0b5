-- What public contracts cite.
pub mod Again
pub mod Faults
