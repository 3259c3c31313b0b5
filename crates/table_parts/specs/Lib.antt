-- What public contracts cite.
pub mod Parts
pub mod Tables
