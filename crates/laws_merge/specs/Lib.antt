-- What public contracts cite.
pub mod AtMost
pub mod Exports
pub mod RowSums
pub mod ByExporter
