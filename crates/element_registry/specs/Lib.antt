-- What public contracts cite.
pub mod Registries
pub mod Faults
pub mod Types
pub mod Rows
pub mod TextLines
pub mod Files
pub mod Laws
-- What only inner functions and proofs need.
pub mod Places
