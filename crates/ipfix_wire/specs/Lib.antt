-- What public contracts cite.
pub mod Numbers
pub mod Faults
pub mod MessageHeader
pub mod SetHeader
pub mod FieldSpecifier
pub mod VariableLength
pub mod InTurn
