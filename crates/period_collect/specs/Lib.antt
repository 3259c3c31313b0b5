-- What public contracts cite.
pub mod Seen
pub mod Paths
pub mod Exporters
pub mod LeftOutFiles
pub mod Parting
pub mod ManyRows
pub mod MadeTables
