-- What public contracts cite.
pub mod Faults
pub mod Flat
pub mod Keys
pub mod Longest
pub mod Maps
pub mod Paints
pub mod Reads
pub mod Rows
pub mod Spans
pub mod Steps
pub mod Texts
