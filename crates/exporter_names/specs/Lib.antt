-- What public contracts cite.
pub mod Cuts
pub mod Finding
pub mod RecordedExporters
pub mod ToldExporters
