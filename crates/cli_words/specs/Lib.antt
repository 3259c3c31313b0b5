-- What public contracts cite.
pub mod Arguments
pub mod Given
pub mod Told
pub mod Words
-- What only inner functions and proofs need.
pub mod Steps
