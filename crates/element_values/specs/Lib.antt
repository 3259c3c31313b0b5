-- What public contracts cite.
pub mod Numbers
pub mod Instants
pub mod Strings
pub mod FieldTexts
