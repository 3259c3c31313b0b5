-- What public contracts cite.
pub mod Listed
pub mod Fitting
pub mod Lines
pub mod ErrorLines
pub mod Searches
pub mod Runs
