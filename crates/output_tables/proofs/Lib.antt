pub mod BuiltIn
pub mod NotWritten
