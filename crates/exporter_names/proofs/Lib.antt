pub mod Cuts
pub mod RecordedExporters
