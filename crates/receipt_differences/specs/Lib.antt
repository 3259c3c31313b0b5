-- What public contracts cite.
pub mod DifferenceLines
pub mod Inputs
pub mod Differences
pub mod Remade
pub mod Orders
