-- Lemmas of the proofs.
mod Wholes
