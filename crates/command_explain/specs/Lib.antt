-- What public contracts cite.
pub mod EndingFaults
pub mod Explained
pub mod Guide
pub mod RunFaults
