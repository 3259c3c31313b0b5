-- What public contracts cite.
pub mod TableTexts
pub mod ExportFaultLines
