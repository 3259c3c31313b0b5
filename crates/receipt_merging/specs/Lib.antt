-- What public contracts cite.
pub mod Once
pub mod Noted
pub mod Parts
pub mod Judging
pub mod PartFaults
