-- What public contracts cite.
pub mod Arrivals
pub mod DataSets
pub mod Numbers
pub mod Leasts
pub mod Windows
pub mod Releases
pub mod Counts
pub mod InOrder
pub mod Domains
pub mod Bounds
pub mod Doubles
pub mod Alike
