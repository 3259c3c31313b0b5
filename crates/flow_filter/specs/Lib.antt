-- What public contracts cite.
pub mod Conditions
pub mod Faults
pub mod Sinks
pub mod Texts
pub mod Values
