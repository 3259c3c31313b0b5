-- What public contracts cite.
pub mod DumpLines
pub mod JsonLines
pub mod Dumped
pub mod Faults
-- What only inner functions and proofs need.
pub mod LineParts
pub mod Labelled
pub mod Lines
