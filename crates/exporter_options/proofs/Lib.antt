-- Lemmas of the proofs.
pub mod Numbers
pub mod Wants
pub mod RateFields
