-- What public contracts cite.
pub mod Whether
pub mod Firsts
pub mod PeriodFolders
pub mod FinishedPeriods
pub mod PeriodFiles
pub mod TableStates
pub mod Removable
-- What only inner functions and proofs need.
pub mod Digits
