-- What public contracts cite.
pub mod Ends
pub mod Parcels
pub mod Taking
pub mod Settling
pub mod Faults
