-- What public contracts cite.
pub mod LocalDays
pub mod DaysShown
-- What only inner functions and proofs need.
pub mod Pushed
