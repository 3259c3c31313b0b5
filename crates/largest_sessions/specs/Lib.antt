-- What public contracts cite.
pub mod LeftOut
pub mod SessionNumbers
-- What only inner functions and proofs need.
pub mod Walks
