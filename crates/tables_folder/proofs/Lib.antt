pub mod Found
pub mod TableNames
