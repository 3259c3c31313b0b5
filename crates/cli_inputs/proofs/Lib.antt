pub mod ZoneNames
pub mod Folders
