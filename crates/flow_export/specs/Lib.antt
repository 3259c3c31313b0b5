-- What public contracts cite.
pub mod Faults
pub mod Fitting
pub mod Shown
pub mod Intervals
pub mod CsvText
pub mod JsonText
pub mod PlainNames
pub mod IpfixText
pub mod AnyTables
pub mod TableTexts
pub mod Examples
-- What only inner functions and proofs need.
pub mod Made
pub mod RowsLeft
pub mod Passing
pub mod Fronts
pub mod Written
pub mod JsonParts
pub mod SpecOctets
pub mod RowOctets
