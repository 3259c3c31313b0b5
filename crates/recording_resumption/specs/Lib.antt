-- What public contracts cite.
pub mod Resumption
pub mod EarlierFiles
-- What only inner functions and proofs need, and how far a file was read.
pub mod Readings
