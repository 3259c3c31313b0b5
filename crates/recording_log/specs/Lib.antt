-- What public contracts cite.
pub mod Held
pub mod Logs
