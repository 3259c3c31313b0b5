-- What public contracts cite.
pub mod RecordLines
pub mod WholeLines
