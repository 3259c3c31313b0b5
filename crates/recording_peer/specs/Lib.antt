-- What public contracts cite.
pub mod Peers
pub mod Late
pub mod Recording
pub mod Beginnings
pub mod Places
-- What only inner functions and proofs need.
pub mod Fronts
