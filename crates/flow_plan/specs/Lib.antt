-- What public contracts cite.
pub mod Faults
pub mod PlanTexts
pub mod Blames
pub mod Places
-- What only inner functions and proofs need.
pub mod Shown
