-- What public contracts cite.
pub mod Folders
pub mod Formats
pub mod Given
pub mod MapFiles
pub mod ReceiptPlaces
pub mod Zones
