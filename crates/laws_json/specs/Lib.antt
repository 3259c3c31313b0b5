-- What public contracts cite.
pub mod Texts
pub mod Lines
pub mod Objects
pub mod RowObjects
pub mod Told
pub mod Counters
pub mod Examples
