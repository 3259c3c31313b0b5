-- What public contracts cite.
pub mod Tables
pub mod Lines
pub mod Stops
pub mod Receipts
pub mod Runs
pub mod Steps
