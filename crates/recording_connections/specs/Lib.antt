-- What public contracts cite.
pub mod ConnectionLines
pub mod LeftFiles
pub mod Refusals
pub mod Rooms
pub mod Serving
pub mod Silences
