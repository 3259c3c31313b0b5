-- What public contracts cite.
pub mod RecordedFiles
