-- Lemmas of the proofs.
pub mod Untimed
