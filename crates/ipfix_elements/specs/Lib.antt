-- What public contracts cite.
pub mod Elements
pub mod Values
pub mod Cells
pub mod Names
pub mod Texts
pub mod Writers
pub mod JsonValues
pub mod Prefixes
pub mod Placed
-- What only inner functions and proofs need.
pub mod Ascii
pub mod Entries
